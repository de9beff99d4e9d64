-- Clutter of small drawings, worked out by computation. Assumes nothing.
use Rattle.std.specs.Prelude.{◌≡◌, refl, List, [], ◌∷◌, map, ℕ}
use Rattle.std.specs.Int.Count.{count_trailing_zeros}
use Rattle.std.specs.Float.Ieee.{of_bits, of_fields, to_bits, is_nan, round, size, span, climb, units, odd, sum}
use Rattle.std.specs.Float.Ieee as Ieee
use Rattle.laws.specs.Counting.{how_many}
use Rattle.root.specs.Root.{root_bits, nearest_root, whole_root, try_digits, scale}
use Rattle.float.specs.Constants.{f0, whole}
use Rattle.float.specs.Standins as F
use Rattle.shape.specs.declared.«V».{«V»}
use Rattle.shape.specs.declared.Rect.{Rect}
use Rattle.shape.specs.declared.Curve.TheVariants.{Line}
use Rattle.shape.specs.Plane.{vec, rect, overlaps, touches, spanning, outside, extended}
use Rattle.shape.specs.Clipping.{test, side, meets, segment_hits_rect, segments_cross}
use Rattle.trace.specs.Traces.{trace_of, samples, bounds_of, foreign, hits_rect, pair_cross, segment_crosses, crosses, struck}
use Rattle.label_spots.specs.declared.Anchor.TheVariants.{Start}
use Rattle.label_spots.specs.declared.Geometry.{Geometry}
use Rattle.clutter.specs.Clutter.{crossings, near24, collides, collisions, clutter_of}

abbrev point : ℕ → ℕ → «V»
point x y = vec (whole x) (whole y)

abbrev box : ℕ → ℕ → ℕ → ℕ → Rect
box x0 y0 x1 y1 = rect (whole x0) (whole y0) (whole x1) (whole y1)

-- a straight arrow from p to q, its label in the box b
abbrev straight : ℕ → «V» → «V» → Rect → Geometry
straight n p q b = record { edge = n; curve = Line p q; tip = q; tip_angle = f0; label = vec b.x0 b.y0; anchor = Start; label_box = b }

-- an arrow to the right, one beside it, one down across both, one across all three
abbrev level : Rect → Geometry
level b = straight 0 (point 0 50) (point 100 50) b

abbrev beside : Rect → Geometry
beside b = straight 1 (point 0 70) (point 100 70) b

abbrev upright : Rect → Geometry
upright b = straight 2 (point 40 0) (point 40 100) b

abbrev slanting : Rect → Geometry
slanting b = straight 3 (point 0 40) (point 100 90) b

-- states, arrows, and the clutter
pub record CountedDrawing : Type 0 where
  pub states : List «V»
  pub arrows : List Geometry
  pub clutter : ℕ

abbrev drawing : List «V» → List Geometry → ℕ → CountedDrawing
drawing cs gs n = record { states = cs; arrows = gs; clutter = n }

abbrev pub counted_drawings : List CountedDrawing
counted_drawings =
    drawing [] [] 0
    -- side by side; one pair that crosses; all pairs of four but one
    ∷ drawing [] (level (box 0 200 10 210) ∷ beside (box 20 200 30 210) ∷ []) 0
    ∷ drawing [] (level (box 0 200 10 210) ∷ upright (box 20 200 30 210) ∷ []) 1
    ∷ drawing [] (level (box 0 200 10 210) ∷ beside (box 20 200 30 210) ∷ upright (box 40 200 50 210) ∷ slanting (box 60 200 70 210) ∷ []) 5
    -- labels that touch; labels that overlap, both of them
    ∷ drawing [] (level (box 0 200 10 210) ∷ beside (box 10 200 20 210) ∷ []) 0
    ∷ drawing [] (level (box 0 200 11 210) ∷ beside (box 10 200 20 210) ∷ []) 2
    -- a state at 24 from the label; at 23
    ∷ drawing (point 0 205 ∷ []) (level (box 24 200 30 210) ∷ []) 0
    ∷ drawing (point 0 205 ∷ []) (level (box 23 200 30 210) ∷ []) 1
    -- the label on its own arrow; on another; on another and near a state, once
    ∷ drawing [] (level (box 45 45 55 55) ∷ beside (box 10 200 20 210) ∷ []) 0
    ∷ drawing [] (level (box 45 65 55 75) ∷ beside (box 10 200 20 210) ∷ []) 1
    ∷ drawing (point 50 80 ∷ []) (level (box 45 65 55 75) ∷ beside (box 10 200 20 210) ∷ []) 1
    ∷ []

worked : map (λ d. clutter_of d.states d.arrows) counted_drawings ≡ map (λ d. d.clutter) counted_drawings
unfolding clutter_of crossings collisions collides near24 outside struck how_many trace_of samples bounds_of extended foreign hits_rect pair_cross segment_crosses crosses overlaps touches spanning test side meets segment_hits_rect segments_cross F.root F.root_of root_bits nearest_root whole_root try_digits scale Ieee.add Ieee.sub Ieee.mul Ieee.div Ieee.neg Ieee.lt Ieee.le Ieee.eq Ieee.ne sum round size span climb units odd of_bits of_fields to_bits count_trailing_zeros is_nan
worked = refl
