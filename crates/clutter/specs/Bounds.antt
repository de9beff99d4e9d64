-- How large clutter can be: at 256 records at most 65,792. Assumes nothing.
use Rattle.std.specs.Prelude.{List, [], ◌∷◌, ◌++◌, map, ◌*◌, ◌≤◌, length}
use Rattle.std.proofs.Common.{arith}
use Rattle.std.proofs.lemmas.List.{length-map}
use Rattle.laws.specs.Counting.{how_many-le, worth-le}
use Rattle.shape.specs.declared.«V».{«V»}
use Rattle.trace.specs.Traces.{Trace, crosses}
use Rattle.label_spots.specs.declared.Geometry.{Geometry}
use Rattle.clutter.specs.Clutter.{record_trace, crossings, collides, collisions, clutter_of}

crossings-le : (ts : List Trace) → length ts ≤ 256 → crossings ts ≤ 256 * length ts
unfolding crossings
crossings-le [] h = omega arith
crossings-le (t ∷ ts) h = omega (arith, how_many-le (crosses t) ts, crossings-le ts (omega arith))

collisions-le : (cs : List «V») (ts : List Trace) (before gs : List Geometry) → collisions cs ts before gs ≤ length gs
unfolding collisions
collisions-le cs ts before [] = omega arith
collisions-le cs ts before (g ∷ gs) = omega (arith, worth-le (collides cs ts (before ++ gs)) 1 g, collisions-le cs ts (before ++ (g ∷ [])) gs)

pub clutter-le : (cs : List «V») (gs : List Geometry) → length gs ≤ 256 → clutter_of cs gs ≤ 65792
unfolding clutter_of
clutter-le cs gs h = omega (arith, length-map gs record_trace, crossings-le (map record_trace gs) (omega (arith, length-map gs record_trace)), collisions-le cs (map record_trace gs) [] gs)
