-- The turn of a self-loop: every direction of `self_loop` gets its full cost, and the first that no other undercuts is taken.
use Rattle.std.specs.Prelude.{◌≡◌, cond, List, [], ◌∷◌, ℕ, zero, suc, ◌+◌, ◌-◌, ◌*◌, ◌<◌, length, get_or, Float}
use Rattle.std.proofs.Common.{subst, arith}
use Rattle.laws.specs.Best.{best, FirstLeast}
use Rattle.laws.proofs.Best.{best_is}
use Rattle.laws.specs.Counting.{how_many}
use Rattle.float.specs.Constants.{cramped_room, f1}
use Rattle.float.specs.Ops.{lt}
use Rattle.shape.specs.declared.«V».{«V»}
use Rattle.shape.specs.Centres.{centre}
use Rattle.shape.specs.Plane.{polar, angle}
use Rattle.shape.specs.Curves.{tangent}
use Rattle.trace.specs.Traces.{Trace, arrow, trace_of, near25}
use Rattle.bend.specs.declared.Routed.{Routed}
use Rattle.bend.specs.declared.Shape.TheVariants as Shape
use Rattle.label_spots.specs.declared.Turn.{Turn}
use Rattle.label_spots.specs.declared.Geometry.{Geometry}
use Rattle.scene.specs.Scene.{Scene, box_cost}
use Rattle.scene.specs.Turn.{labelled_at}
use Rattle.directions.specs.Directions.{directions, room, upwards}
use Rattle.directions.specs.Lengths.{directions_some}
use Rattle.directions.specs.Loop.{loop_curve}
use Rattle.self_loop.specs.declared.Loop.{Loop as Given}
-- a foreign trace that the loop crosses
unfoldable pub use Rattle.trace.specs.Traces.{crossed}

-- a loop: its arrow's number, its state's number and centre, the angles at which the rim of the state is taken, and the size of the label
pub record Loop : Type 0 where
  pub edge : ℕ
  pub node : ℕ
  pub centre : «V»
  pub rim : List Float
  pub width : Float
  pub height : Float

abbrev pub loop_of : ℕ → ℕ → «V» → List Float → Float → Float → Loop
loop_of edge node c rim width height = record { edge = edge; node = node; centre = c; rim = rim; width = width; height = height }

-- the loop of a turn in a scene
abbrev pub loop_in : Scene → Given → Loop
loop_in s l = loop_of l.edge l.node (centre s.centres l.node) l.taken.now l.width l.height

-- ---- the drawing in a direction

abbrev pub loop_routed : «V» → Float → Routed
loop_routed c phi = let k = loop_curve c phi in record { curve = k; tip_angle = angle (tangent k f1); shape = Shape.Loop (polar phi) }

abbrev pub direction_turn : ℕ → «V» → Float → Float → Float → Turn
direction_turn edge c width height phi = record { edge = edge; arrow = loop_routed c phi; width = width; height = height }

-- its curve, and the label that it brings
unfoldable pub loop_at : ℕ → «V» → Float → Float → Float → Geometry
loop_at edge c width height phi = labelled_at (direction_turn edge c width height phi) 0

abbrev pub loop_drawn : Loop → Float → Geometry
loop_drawn l phi = loop_at l.edge l.centre l.width l.height phi

abbrev pub trace_by : Geometry → Trace
trace_by g = trace_of (arrow g.edge) g.curve

-- ---- the full cost of a direction

-- the states but number k
unfoldable pub states_but : ℕ → List «V» → List «V»
states_but k [] = []
states_but zero (c ∷ cs) = cs
states_but (suc k) (c ∷ cs) = c ∷ states_but k cs

-- 20 where another arrow or the start mark is nearer than 0.75
unfoldable pub cramped : Float → List Float → ℕ
cramped phi rim = cond (lt (room phi rim) cramped_room) 20 0

-- "for a loop, what `self_loop` adds too": 10 a state other than its own nearer than 25, 3 a foreign trace crossed
unfoldable pub loop_adds : List «V» → List Trace → ℕ → ℕ → List Float → Float → Trace → ℕ
loop_adds centres traces edge node rim phi looped =
    10 * how_many (near25 looped) (states_but node centres)
    + 3 * how_many (crossed edge looped) traces
    + cramped phi rim

unfoldable pub loop_cost : Scene → Loop → Float → ℕ
loop_cost s l phi = let g = loop_drawn l phi in box_cost s l.edge g.label_box + loop_adds s.centres s.traces l.edge l.node l.rim phi (trace_by g)

-- ---- the listed directions

-- "for a loop, the directions of `self_loop` in its order": how many, and direction j
abbrev pub direction_count : Loop → ℕ
direction_count l = length (directions l.rim)

abbrev pub direction : Loop → ℕ → Float
direction l j = get_or (directions l.rim) j upwards

abbrev pub direction_cost : Scene → Loop → ℕ → ℕ
direction_cost s l j = loop_cost s l (direction l j)

-- "The first that no other undercuts is taken"
unfoldable pub loop_taken : Scene → Loop → ℕ
loop_taken s l = best (direction_cost s l) (direction_count l)

-- the loop as it is drawn
abbrev pub looped : Scene → Loop → Geometry
looped s l = loop_drawn l (direction l (loop_taken s l))

-- ---- what holds of it

-- the direction taken is the first least of those listed, by full cost
pub loop_least : (s : Scene) (l : Loop) → FirstLeast (direction_cost s l) (direction_count l) (loop_taken s l)
unfolding loop_taken
loop_least s l =
    let h : 0 < direction_count l = directions_some l.rim in
    let e : suc (direction_count l - 1) ≡ direction_count l = omega arith in
    subst (λ (n : ℕ). FirstLeast (direction_cost s l) n (best (direction_cost s l) n)) e (best_is (direction_cost s l) (direction_count l - 1))
