-- What proofs/Demand shows of every routing: the cheapest listed place at every turn, and what two sheets that differ only in labels have in common.
use Rattle.std.specs.Prelude.{◌≡◌, ℕ, get_or, Float}
use mathlib.Core.List.{List, [], ◌∷◌}
use Rattle.laws.specs.Filter.{filter_by}
use Rattle.laws.specs.Best.{FirstLeast}
use Rattle.shape.specs.declared.«V».{«V»}
use Rattle.shape.specs.declared.Curve.{Curve}
use Rattle.shape.specs.Curves.{end}
use Rattle.bend.specs.declared.Routed.{Routed}
use Rattle.label_spots.specs.declared.Geometry.{Geometry}
use Rattle.routing.specs.Routing.{Frame, records, BlockSize, no_size, Item, edge_of, Step, step_of, order, steps, listed_by, cost, drawn_by, places_taken, scene_at, no_item}
use Rattle.routing_laws.specs.Slots.{is_edge}

-- ---- (1) at every turn none of the listed costs less and none before it costs the same

abbrev pub step_in : Frame → List BlockSize → Step → ℕ → Step
step_in f sizes d k = get_or (steps f sizes) k d

-- ---- (2) the drawings of the first turns come from the labels of those turns alone

-- a turn with this size
abbrev pub step_with : Item → BlockSize → Step
step_with i z = record { item = i; size = z }

-- the size of the label at turn j
abbrev pub size_at : Frame → List BlockSize → Item → ℕ → BlockSize
size_at f sizes d j = get_or sizes (edge_of (get_or (order f) j d)) no_size

-- ---- the records by arrow number

-- the record of arrow k, or none
abbrev pub record_for : Frame → List BlockSize → ℕ → List Geometry
record_for f sizes k = filter_by (is_edge k) (records f sizes)

-- ---- the record of a turn

-- turn t, its arrow's number, and the place taken
abbrev pub turn_at : Frame → ℕ → Item
turn_at f t = get_or (order f) t no_item

abbrev pub edge_at : Frame → ℕ → ℕ
edge_at f t = edge_of (turn_at f t)

abbrev pub place_at : Frame → List BlockSize → ℕ → ℕ
place_at f sizes t = get_or (places_taken f sizes) t 0

-- what is drawn at turn t with its label at place j
abbrev pub drawn_place : Frame → List BlockSize → ℕ → ℕ → Geometry
drawn_place f sizes t j = drawn_by f (turn_at f t) (size_at f sizes no_item t) j

-- ---- the three claims, over the records

-- (1) the record of turn t's arrow holds a listed place or direction: none of the listed costs less and none before it costs the same
pub record TurnCheapest (f : Frame) (sizes : List BlockSize) (t : ℕ) : Type 0 where
  pub place : ℕ
  pub least : FirstLeast (cost f (scene_at f sizes t) (step_of sizes (turn_at f t))) (listed_by f (turn_at f t)) place
  pub held : record_for f sizes (edge_at f t) ≡ drawn_place f sizes t place ∷ []

-- what no label decides: the curve, the tip and the tip's angle
pub record Stroke : Type 0 where
  pub curve : Curve
  pub tip : «V»
  pub angle : Float

abbrev pub stroke_of : Geometry → Stroke
stroke_of g = record { curve = g.curve; tip = g.tip; angle = g.tip_angle }

abbrev pub stroke_by : Routed → Stroke
stroke_by r = record { curve = r.curve; tip = end r.curve; angle = r.tip_angle }
