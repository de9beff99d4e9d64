-- The turn of an arrow that is no loop: every listed place gets its full cost, and the first that no other undercuts is taken.
use Rattle.std.specs.Prelude.{◌≡◌, ℕ, length}
use Rattle.laws.specs.Best.{best, FirstLeast}
use Rattle.laws.proofs.Best.{best_is}
use Rattle.shape.specs.declared.Rect.{Rect}
use Rattle.label_spots.specs.declared.Turn.{Turn}
use Rattle.bend.specs.declared.Shape.{Shape}
use Rattle.bend.specs.declared.Shape.TheVariants.{Line, Arc, Loop}
use Rattle.label_spots.specs.declared.Geometry.{Geometry}
use Rattle.label_spots.specs.Spots.{label_spots, spot_at, spot_count, spot-count}
use Rattle.label_spots.specs.Labels.{labelled}
use Rattle.scene.specs.Scene.{Scene, box_cost}

-- how many places are listed
abbrev pub places : Turn → ℕ
places t = length (label_spots t.arrow.curve t.arrow.shape)

-- the arrow with its label at place j
abbrev pub labelled_at : Turn → ℕ → Geometry
labelled_at t j = labelled t (spot_at t.arrow.curve t.arrow.shape j)

unfoldable pub box_at : Turn → ℕ → Rect
box_at t j = (labelled_at t j).label_box

-- "every listed place .. gets its full cost"
abbrev pub place_cost : Scene → Turn → ℕ → ℕ
place_cost s t j = box_cost s t.edge (box_at t j)

-- "The first that no other undercuts is taken"
unfoldable pub taken : Scene → Turn → ℕ
taken s t = best (place_cost s t) (places t)

abbrev pub placed_arrow : Scene → Turn → Geometry
placed_arrow s t = labelled_at t (taken s t)

-- ---- what holds of it

-- the place taken is the first least of those listed, by full cost
pub taken_least : (s : Scene) (t : Turn) → FirstLeast (place_cost s t) (places t) (taken s t)
unfolding taken
taken_least s t = by_shape t.arrow.shape (spot-count t.arrow.curve t.arrow.shape)
  where
    by_shape : (h : Shape) → places t ≡ spot_count h → FirstLeast (place_cost s t) (places t) (best (place_cost s t) (places t))
    by_shape Line e = rw e (best_is (place_cost s t) 9)
    by_shape (Arc outer) e = rw e (best_is (place_cost s t) 5)
    by_shape (Loop out) e = rw e (best_is (place_cost s t) 0)
