-- The turns as the code runs them, arrow by arrow.
use Rattle.std.specs.Prelude.{◌≡◌, Bool, true, false, not, ℕ, ◌+◌, ◌≤◌, length, get_or, set, Some}
use mathlib.Core.List.{List, [], ◌∷◌, ◌++◌, map}
use Rattle.laws.specs.Counting.{how_many, worth}
use Rattle.trace.specs.Form.{trace_in}
use Rattle.label_spots.specs.declared.Geometry.{Geometry}
use Rattle.scene.specs.Scene.{Scene, scene_of}
use Rattle.scene.specs.Turn.{placed_arrow}
use Rattle.self_loop.specs.Looped.{looped}
use Rattle.routing.specs.Routing.{Frame, BlockSize, loop_turn, turn_of, arc_shape, numbered_at, no_ends}
use Rattle.routing_laws.specs.Passes.{Pass, loop_pass, arc_pass, straight_pass, Drawn, drawn_with, passed}
pub use Rattle.routing_laws.specs.Passes.{shown}
use Rattle.routing_laws.specs.Turns.{with_loop, with_label}
use Rattle.curves.specs.declared.Laid.{Laid}
use Rattle.curves.specs.Lay.{laid_by}
use Rattle.turns.specs.declared.Sort.{Sort}
use Rattle.turns.specs.declared.drawing.Drawing.{Drawing}

-- whether an arrow is of a sort
abbrev pub is_sort : Sort → Laid → Bool
is_sort s Laid.LeftOut = false
is_sort Sort.Loop Laid.Loop = true
is_sort Sort.Arc Laid.Loop = false
is_sort Sort.Straight Laid.Loop = false
is_sort Sort.Loop (Laid.Between c) = false
is_sort Sort.Arc (Laid.Between c) = arc_shape c.routed.shape
is_sort Sort.Straight (Laid.Between c) = not (arc_shape c.routed.shape)

abbrev pub pass_of : Sort → Pass
pass_of Sort.Loop = loop_pass
pass_of Sort.Arc = arc_pass
pass_of Sort.Straight = straight_pass

-- a loop adds a trace; the others have theirs already
abbrev pub looped_as : Laid → ℕ
looped_as Laid.LeftOut = 0
looped_as Laid.Loop = 1
looped_as (Laid.Between c) = 0

abbrev pub looped_at : List Laid → ℕ → ℕ
looped_at ls i = looped_as (get_or ls i Laid.LeftOut)

-- how many arrows are of a sort, and whether arrow i is, as a number
abbrev pub many_of : Sort → List Laid → ℕ
many_of s ls = how_many (is_sort s) ls

abbrev pub loops_of : List Laid → ℕ
loops_of ls = many_of Sort.Loop ls

abbrev pub one_at : Sort → List Laid → ℕ → ℕ
one_at s ls i = worth (is_sort s) 1 (get_or ls i Laid.LeftOut)

-- the most traces that n turns of a pass add
abbrev pub more : Sort → ℕ → ℕ
more Sort.Loop n = n
more Sort.Arc n = 0
more Sort.Straight n = 0

-- ---- what is drawn so far
module _ {a t : ℕ} where
  abbrev pub scene_in : Frame → Drawing a t → Scene
  scene_in f d = scene_of f.centres (map trace_in d.traces.now) d.boxes.now

  abbrev pub drawn_in : Frame → Drawing a t → Drawn
  drawn_in f d = drawn_with (scene_in f d) d.drawn.now

  -- the drawing of arrow i more, and its label's box
  pub record Added (d e : Drawing a t) (i : ℕ) (g : Geometry) : Type 0 where
    pub boxes : e.boxes.now ≡ d.boxes.now ++ (g.label_box ∷ [])
    pub traces : e.traces.now ≡ d.traces.now
    pub drawn : e.drawn.now ≡ set d.drawn.now i (Some g)

  -- at most n labels and m traces more
  pub record Grown (d e : Drawing a t) (n m : ℕ) : Type 0 where
    pub boxes : length e.boxes.now ≤ length d.boxes.now + n
    pub traces : length e.traces.now ≤ length d.traces.now + m

-- ---- the turn of arrow i
abbrev pub turned_as : Frame → BlockSize → ℕ → Drawn → Laid → Drawn
turned_as f size i d Laid.LeftOut = d
turned_as f size i d Laid.Loop = with_loop d (looped d.scene (loop_turn f (numbered_at f i) size))
turned_as f size i d (Laid.Between c) = with_label d (placed_arrow d.scene (turn_of i c.routed size))

abbrev pub turned_by : Frame → BlockSize → ℕ → Drawn → Drawn
turned_by f size i d = turned_as f size i d (laid_by f (get_or f.arrows i no_ends))

-- the three passes
abbrev pub all_passed : Frame → List BlockSize → Drawn → Drawn
all_passed f sizes d = passed f sizes straight_pass (passed f sizes arc_pass (passed f sizes loop_pass d))
