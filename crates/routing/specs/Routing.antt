-- Routing as a plain run over graph and centres alone: document 01, 'Turns, places and costs'.
use Rattle.std.specs.Prelude.{Bool, true, false, not, cond, ℕ, suc, ◌-◌, eqb, length, get_or, Float}
use mathlib.Core.List.{List, [], ◌∷◌, ◌++◌, map, flat_map}
use Rattle.laws.specs.Filter.{filter_by}
use Rattle.laws.specs.Zip.{zip_by}
use Rattle.laws.specs.Run as Run
use Rattle.float.specs.Constants.{f0, node_radius, start_arrow_length, π}
use Rattle.shape.specs.declared.«V».{«V»}
use Rattle.shape.specs.declared.Curve.{Curve}
use Rattle.shape.specs.declared.Curve.TheVariants.{Line}
use Rattle.shape.specs.Plane.{vec, sub, angle}
use Rattle.shape.specs.Curves.{start, end}
use Rattle.trace.specs.Traces.{Trace, nobody, arrow, trace_of}
use Rattle.shape.specs.Centres.{centre}
use Rattle.sheet.specs.Meaning.{is_start, ends_below}
use Rattle.bend.specs.declared.Routed.{Routed}
use Rattle.bend.specs.declared.Shape.{Shape}
use Rattle.bend.specs.Leads.{leads}
use Rattle.bend.specs.Between.{between}
use Rattle.label_spots.specs.declared.Turn.{Turn}
use Rattle.label_spots.specs.declared.Geometry.{Geometry}
use Rattle.label_spots.specs.Spots.{label_spots}
use Rattle.scene.specs.Scene.{Scene, scene_of, with_box, with_trace, box_cost}
use Rattle.scene.specs.Turn as Place
use Rattle.self_loop.specs.Looped.{Loop, loop_of, loop_drawn, trace_by, direction_cost}
use Rattle.self_loop.specs.Looped as Looped
pub use Rattle.bend.specs.Leads.{Ends}
-- the size of an arrow's label block
pub use Rattle.label.specs.declared.Block.{Block as BlockSize}

-- ---- what is routed: no label enters the frame

-- the states' flag bytes and centres, and the arrows' ends
pub record Frame : Type 0 where
  pub flags : List ℕ
  pub centres : List «V»
  pub arrows : List Ends

abbrev pub no_size : BlockSize
no_size = record { width = f0; height = f0 }

-- ---- arrows by their numbers

pub record Numbered : Type 0 where
  pub edge : ℕ
  pub ends : Ends

unfoldable pub numbered_from : ℕ → List Ends → List Numbered
numbered_from k [] = []
numbered_from k (e ∷ es) = record { edge = k; ends = e } ∷ numbered_from (suc k) es

abbrev pub numbered : Frame → List Numbered
numbered f = numbered_from 0 f.arrows

abbrev pub numbered_by : ℕ → Ends → Numbered
numbered_by k e = record { edge = k; ends = e }

-- past the last arrow
abbrev pub no_ends : Ends
no_ends = record { source = 0; target = 0 }

-- arrow k
abbrev pub numbered_at : Frame → ℕ → Numbered
numbered_at f k = numbered_by k (get_or f.arrows k no_ends)

-- "An arrow with an end not below the number of states is accepted and left out of the records"
abbrev pub is_kept_in : Frame → Numbered → Bool
is_kept_in f a = ends_below (length f.flags) a.ends.source a.ends.target

-- "A loop's ends are the same state"
abbrev pub is_loop : Numbered → Bool
is_loop a = eqb a.ends.source a.ends.target

unfoldable pub kept : Frame → List Numbered
kept f = filter_by (is_kept_in f) (numbered f)

abbrev pub loops : Frame → List Numbered
loops f = filter_by is_loop (kept f)

abbrev pub crossing : Frame → List Numbered
crossing f = filter_by (λ a. not (is_loop a)) (kept f)

-- ---- arrows between different states

-- the reverse arrow exists: some arrow leads from its target to its source
abbrev pub is_paired : Frame → Numbered → Bool
is_paired f a = leads f.arrows a.ends.target a.ends.source

unfoldable pub joined : Frame → Numbered → Routed
joined f a = between f.centres a.ends.source a.ends.target (is_paired f a)

-- an arrow with its curve, in arrow order
pub record Route : Type 0 where
  pub from : Numbered
  pub routed : Routed

abbrev pub route_of : Frame → Numbered → Route
route_of f a = record { from = a; routed = joined f a }

unfoldable pub routes : Frame → List Route
routes f = map (route_of f) (crossing f)

-- ---- the first scene: "the states and traces that `geometry` has before any label"

-- the start arrow ends on the rim, from the left, 28 long
abbrev pub start_curve : «V» → Curve
start_curve c = let tip = sub c (vec node_radius f0) in Line (sub tip (vec start_arrow_length f0)) tip

abbrev pub start_traces : List ℕ → List «V» → List Trace
start_traces [] cs = []
start_traces (flag ∷ flags) [] = []
start_traces (flag ∷ flags) (c ∷ cs) = let rest = start_traces flags cs in cond (is_start flag) (trace_of nobody (start_curve c) ∷ rest) rest

abbrev pub route_trace : Route → Trace
route_trace r = trace_of (arrow r.from.edge) r.routed.curve

unfoldable pub first_scene : Frame → Scene
first_scene f = scene_of f.centres (map route_trace (routes f) ++ start_traces f.flags f.centres) []

-- ---- loops: their directions, from what meets the rim of their state

abbrev pub leaving : Frame → ℕ → Route → List Float
leaving f k r = cond (eqb r.from.ends.source k) (angle (sub (start r.routed.curve) (centre f.centres k)) ∷ []) []

abbrev pub reaching : Frame → ℕ → Route → List Float
reaching f k r = cond (eqb r.from.ends.target k) (angle (sub (end r.routed.curve) (centre f.centres k)) ∷ []) []

-- the angles at which arrows and the start mark meet the rim of state k
unfoldable pub rim : Frame → ℕ → List Float
rim f k = flat_map (λ r. leaving f k r ++ reaching f k r) (routes f) ++ cond (is_start (get_or f.flags k 0)) (π ∷ []) []

-- ---- turns

-- an arrow whose label, or whose loop and label, is to be placed
pub data Item : Type 0 where
  loop : Numbered → Item
  label : Route → Item

abbrev pub edge_of : Item → ℕ
edge_of (loop a) = a.edge
edge_of (label r) = r.from.edge

abbrev pub arc_shape : Shape → Bool
arc_shape Shape.Line = false
arc_shape (Shape.Arc outer) = true
arc_shape (Shape.Loop out) = false

-- "`geometry` tells arcs from straight arrows by `bend`"
abbrev pub is_arc : Route → Bool
is_arc r = arc_shape r.routed.shape

-- loops, then arcs, then straight arrows, each in arrow order
unfoldable pub order : Frame → List Item
order f = map loop (loops f) ++ map label (filter_by is_arc (routes f)) ++ map label (filter_by (λ r. not (is_arc r)) (routes f))

-- the turn of a kept arrow
abbrev pub item_for : Frame → Numbered → Item
item_for f a = cond (is_loop a) (loop a) (label (route_of f a))

-- whether a turn is arrow k's
abbrev pub is_turn : ℕ → Item → Bool
is_turn k i = eqb (edge_of i) k

-- past the last turn
abbrev pub no_item : Item
no_item = loop (numbered_by 0 no_ends)

pub record Step : Type 0 where
  pub item : Item
  pub size : BlockSize

abbrev pub step_of : List BlockSize → Item → Step
step_of sizes i = record { item = i; size = get_or sizes (edge_of i) no_size }

-- "Each arrow of the records has one turn"
abbrev pub steps : Frame → List BlockSize → List Step
steps f sizes = map (step_of sizes) (order f)

-- ---- listed places and directions

abbrev pub turn_of : ℕ → Routed → BlockSize → Turn
turn_of edge r size = record { edge = edge; arrow = r; width = size.width; height = size.height }

-- a loop's turn
abbrev pub loop_turn : Frame → Numbered → BlockSize → Loop
loop_turn f a size = let k = a.ends.source in loop_of a.edge k (centre f.centres k) (rim f k) size.width size.height

abbrev pub label_turn : Route → BlockSize → Turn
label_turn r size = turn_of r.from.edge r.routed size

-- "Listed are the places named above, in that order; for a loop, the directions of `self_loop` in its order": how many
abbrev pub listed_by : Frame → Item → ℕ
listed_by f (loop a) = Looped.direction_count (loop_turn f a no_size)
listed_by f (label r) = length (label_spots r.routed.curve r.routed.shape)

-- place or direction j of a turn, drawn
abbrev pub drawn_by : Frame → Item → BlockSize → ℕ → Geometry
drawn_by f (loop a) size j = let l = loop_turn f a size in loop_drawn l (Looped.direction l j)
drawn_by f (label r) size j = Place.labelled_at (label_turn r size) j

-- ---- full costs

-- "for a loop, what `self_loop` adds too": `direction_cost` of Looped
abbrev pub cost_by : Frame → Scene → Item → BlockSize → ℕ → ℕ
cost_by f s (loop a) size j = direction_cost s (loop_turn f a size) j
cost_by f s (label r) size j = box_cost s r.from.edge (drawn_by f (label r) size j).label_box

-- "what `geometry` adds before the next turn goes into the scene"
abbrev pub after_by : Scene → Item → Geometry → Scene
after_by s (loop a) g = with_box (with_trace s (trace_by g)) g.label_box
after_by s (label r) g = with_box s g.label_box

-- ---- the run

-- the places listed after the first; a turn lists one at least (`listed_some` of routing_laws)
abbrev pub more : Frame → Scene → Step → ℕ
more f s t = listed_by f t.item - 1

-- "Full cost is summed over the whole scene .. and never cut"
abbrev pub cost : Frame → Scene → Step → ℕ → ℕ
cost f s t j = cost_by f s t.item t.size j

abbrev pub drawn_step : Frame → Step → ℕ → Geometry
drawn_step f t j = drawn_by f t.item t.size j

abbrev pub scene_after : Frame → Scene → Step → ℕ → Scene
scene_after f s t j = after_by s t.item (drawn_step f t j)

-- the places taken, turn by turn: "The first that no other undercuts is taken"
abbrev pub places_taken : Frame → List BlockSize → List ℕ
places_taken f sizes = Run.run (more f) (cost f) (scene_after f) (first_scene f) (steps f sizes)

-- the scene at turn k
abbrev pub scene_at : Frame → List BlockSize → ℕ → Scene
scene_at f sizes k = Run.run_scene (more f) (cost f) (scene_after f) (first_scene f) (steps f sizes) k

-- what is drawn, in the order of the turns
unfoldable pub drawing : Frame → List BlockSize → List Geometry
drawing f sizes = zip_by (drawn_step f) (steps f sizes) (places_taken f sizes)

-- the drawing of an arrow
abbrev pub drawn_for : List Geometry → Numbered → List Geometry
drawn_for gs a = filter_by (λ g. eqb g.edge a.edge) gs

-- the records, in arrow order; a left-out arrow has none
unfoldable pub records : Frame → List BlockSize → List Geometry
records f sizes = flat_map (drawn_for (drawing f sizes)) (kept f)
