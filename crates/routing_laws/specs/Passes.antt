-- How the code runs the turns: what is known of each arrow before any label is placed, then three passes over all arrows in their order.
-- A scene and what is drawn of each arrow, at its number, go from turn to turn.
use Rattle.std.specs.Prelude.{Bool, not, cond, ◌&&◌, ℕ, set, Option, None, Some}
use mathlib.Core.List.{List, [], ◌∷◌, map, flat_map}
use Rattle.laws.specs.Loops.{over}
use Rattle.laws.specs.Run as Run
use Rattle.trace.specs.Traces.{Trace}
use Rattle.label_spots.specs.declared.Geometry.{Geometry}
use Rattle.scene.specs.Scene.{Scene}
use Rattle.routing.specs.Routing.{Frame, BlockSize, Numbered, Item, loop, label, Step, numbered, is_kept_in, is_loop, route_of, is_arc, route_trace, step_of, more, cost, scene_after, drawn_step}

-- ---- what is known of an arrow before any label is placed

abbrev pub is_crossing : Frame → Numbered → Bool
is_crossing f a = is_kept_in f a && not (is_loop a)

-- the trace that it has before any label
unfoldable pub traces_of : Frame → Numbered → List Trace
traces_of f a = cond (is_crossing f a) (route_trace (route_of f a) ∷ []) []

-- ---- turns in passes

pub data Pass : Type 0 where
  loop_pass : Pass
  arc_pass : Pass
  straight_pass : Pass

-- whether an arrow has its turn in a pass; one that is left out has it in none
unfoldable pub in_pass : Frame → Pass → Numbered → Bool
in_pass f loop_pass a = is_kept_in f a && is_loop a
in_pass f arc_pass a = is_crossing f a && is_arc (route_of f a)
in_pass f straight_pass a = is_crossing f a && not (is_arc (route_of f a))

-- the turn that it would have there: a loop's, or a label's
abbrev pub item_of : Frame → Pass → Numbered → Item
item_of f loop_pass a = loop a
item_of f arc_pass a = label (route_of f a)
item_of f straight_pass a = label (route_of f a)

unfoldable pub items_of : Frame → Pass → Numbered → List Item
items_of f p a = cond (in_pass f p a) (item_of f p a ∷ []) []

-- the scene, and what is drawn, at the arrow's number
pub record Drawn : Type 0 where
  pub scene : Scene
  pub slots : List (Option Geometry)

abbrev pub drawn_with : Scene → List (Option Geometry) → Drawn
drawn_with s l = record { scene = s; slots = l }

abbrev pub store : List (Option Geometry) → Geometry → List (Option Geometry)
store l g = set l g.edge (Some g)

-- the place taken at a turn
abbrev pub taken_in : Frame → Scene → Step → ℕ
taken_in f s t = Run.taken_by (more f) (cost f) (scene_after f) s t

unfoldable pub played : Frame → Drawn → Step → Drawn
played f d t = let j = taken_in f d.scene t in drawn_with (scene_after f d.scene t j) (store d.slots (drawn_step f t j))

unfoldable pub turned : Frame → List BlockSize → Pass → Drawn → Numbered → Drawn
turned f sizes p d a = over (played f) d (map (step_of sizes) (items_of f p a))

unfoldable pub passed : Frame → List BlockSize → Pass → Drawn → Drawn
passed f sizes p d = over (turned f sizes p) d (numbered f)

-- ---- the records, from the slots

abbrev pub shown : Option Geometry → List Geometry
shown None = []
shown (Some g) = g ∷ []

unfoldable pub gathered : List (Option Geometry) → List Geometry
gathered l = flat_map shown l
