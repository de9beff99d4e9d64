-- How cluttered a drawing is: the number of pairs of edges that cross and of labels that collide with something.
use Rattle.std.specs.Prelude.{Bool, cond, ◌||◌, List, [], ◌∷◌, ◌++◌, map, ℕ, ◌+◌}
use Rattle.laws.specs.Counting.{how_many}
use Rattle.std.specs.List.{list_any}
use Rattle.float.specs.Ops.{◌⊕◌, lt}
use Rattle.float.specs.Constants.{f2, node_radius}
use Rattle.shape.specs.declared.«V».{«V»}
use Rattle.shape.specs.declared.Rect.{Rect}
use Rattle.shape.specs.Plane.{box_dist}
use Rattle.trace.specs.Traces.{Trace, arrow, trace_of, crosses, struck}
use Rattle.label_spots.specs.declared.Geometry.{Geometry}
use Rattle.scene.specs.Scene.{overlapping}

-- ---- pairs of arrows

-- the trace of a record's arrow; start arrows have no record
abbrev pub record_trace : Geometry → Trace
record_trace g = trace_of (arrow g.edge) g.curve

-- the pairs that cross, each pair once: a trace with those behind it
unfoldable pub crossings : List Trace → ℕ
crossings [] = 0
crossings (t ∷ ts) = how_many (crosses t) ts + crossings ts

-- ---- labels

-- nearer to the box than a state's radius and 2
unfoldable pub near24 : Rect → «V» → Bool
near24 b c = lt (box_dist b c) (node_radius ⊕ f2)

-- the label of the record overlaps the box; boxes as they are
abbrev pub label_over : Rect → Geometry → Bool
label_over b o = overlapping b o.label_box

-- The label of g collides with a state, with the label of another record, or with a foreign trace.
unfoldable pub collides : List «V» → List Trace → List Geometry → Geometry → Bool
collides cs ts others g =
    list_any (near24 g.label_box) cs
    || list_any (label_over g.label_box) others
    || list_any (struck g.edge g.label_box) ts

-- the labels that do, of the records behind those `before`; the others of a record are all before it and behind it
unfoldable pub collisions : List «V» → List Trace → List Geometry → List Geometry → ℕ
collisions cs ts before [] = 0
collisions cs ts before (g ∷ gs) = cond (collides cs ts (before ++ gs) g) 1 0 + collisions cs ts (before ++ (g ∷ [])) gs

-- ---- clutter

unfoldable pub clutter_of : List «V» → List Geometry → ℕ
clutter_of cs gs = crossings (map record_trace gs) + collisions cs (map record_trace gs) [] gs
