-- Where a label may go, best first: points on the arrow, each with the side to put the label on.
use Rattle.std.specs.Prelude.{◌≡◌, refl, Bool, true, false, cond, ◌&&◌, ◌||◌, List, [], ◌∷◌, map, ℕ, length, get_or, Float}
use Rattle.std.specs.Float.{nan}
use Rattle.float.specs.Ops.{lt, le}
use Rattle.float.specs.Ops as Ops
use Rattle.float.specs.Constants.{f0, f1, f0_5, f0_24, f0_28, f0_36, f0_38, f0_62, f0_64, f0_72, f0_76, eps}
use Rattle.float.specs.Standins.{abs}
use Rattle.shape.specs.declared.«V».{«V»}
use Rattle.shape.specs.declared.Curve.{Curve}
use Rattle.shape.specs.Plane.{vec, mul, neg_v, left, unit_or}
use Rattle.shape.specs.Curves.{at, tangent}
use Rattle.bend.specs.declared.Shape.{Shape}
use Rattle.bend.specs.declared.Shape.TheVariants.{Line, Arc, Loop}
use Rattle.label_spots.specs.declared.Spot.{Spot}

-- ---- sides

-- 90 degrees to the left of the curve's direction at t
unfoldable pub normal : Curve → Float → «V»
normal c t = left (unit_or (tangent c t) (vec f1 f0))

-- above a horizontal arrow, right of a vertical one
unfoldable pub is_up : «V» → Bool
is_up v = lt v.y (Ops.neg eps) || (le (abs v.y) eps && lt f0 v.x)

-- the upper side of a straight arrow
unfoldable pub upper : Curve → «V»
upper c = cond (is_up (normal c f0_5)) (normal c f0_5) (neg_v (normal c f0_5))

-- ---- the listed places: how far along the arrow, and on which side
abbrev pub Listed : Type 0
Listed = Float × Bool

abbrev pub up_at : Float → Listed
up_at t = (t, true)

abbrev pub down_at : Float → Listed
down_at t = (t, false)

abbrev pub outside_at : Float → Listed
outside_at t = (t, true)

abbrev pub inside_at : Float → Listed
inside_at t = (t, false)

-- "Straight labels try 0.5, 0.36, 0.64, 0.24, 0.76 along the arrow in `label_spots` order": at the middle above, then below; at each further pair of places both above, then both below
abbrev pub line_listed : List Listed
line_listed =
    up_at f0_5 ∷ down_at f0_5
    ∷ up_at f0_36 ∷ up_at f0_64 ∷ down_at f0_36 ∷ down_at f0_64
    ∷ up_at f0_24 ∷ up_at f0_76 ∷ down_at f0_24 ∷ down_at f0_76 ∷ []

-- "arcs 0.5, 0.38, 0.62, 0.28, 0.72, then the inside at 0.5"
abbrev pub arc_listed : List Listed
arc_listed = outside_at f0_5 ∷ outside_at f0_38 ∷ outside_at f0_62 ∷ outside_at f0_28 ∷ outside_at f0_72 ∷ inside_at f0_5 ∷ []

-- past the end of a list
abbrev pub unlisted : Listed
unlisted = (nan, false)

-- ---- the spots of an arrow
abbrev pub spot : «V» → «V» → Spot
spot p s = record { at = p; side = s }

unfoldable pub line_spot : Curve → «V» → Listed → Spot
line_spot c upwards l = spot (at c l.0) (cond l.1 upwards (neg_v upwards))

-- outer is 1 where the arc is bent to the left, −1 to the right
unfoldable pub arc_spot : Curve → Float → Listed → Spot
arc_spot c outer l = spot (at c l.0) (mul (normal c l.0) (cond l.1 outer (Ops.neg outer)))

abbrev pub line_spots : Curve → List Spot
line_spots c = map (line_spot c (upper c)) line_listed

abbrev pub arc_spots : Curve → Float → List Spot
arc_spots c outer = map (arc_spot c outer) arc_listed

-- a loop's label goes outwards at its middle
abbrev pub loop_spots : Curve → «V» → List Spot
loop_spots c out = spot (at c f0_5) out ∷ []

unfoldable pub label_spots : Curve → Shape → List Spot
label_spots c Line = line_spots c
label_spots c (Arc outer) = arc_spots c outer
label_spots c (Loop out) = loop_spots c out

abbrev pub spot_count : Shape → ℕ
spot_count Line = 10
spot_count (Arc outer) = 6
spot_count (Loop out) = 1

pub spot-count : (c : Curve) (s : Shape) → length (label_spots c s) ≡ spot_count s
unfolding label_spots
spot-count c Line = refl
spot-count c (Arc outer) = refl
spot-count c (Loop out) = refl

abbrev pub nowhere : Spot
nowhere = spot (vec nan nan) (vec nan nan)

-- spot j of the list
abbrev pub spot_at : Curve → Shape → ℕ → Spot
spot_at c s j = get_or (label_spots c s) j nowhere
