-- What two sheets that differ only in labels have in common, and demand 3 over graphs and centres: what proofs/Agree shows.
use Rattle.std.specs.Prelude.{◌≡◌, List, map, ℕ, ◌≤◌, ◌<◌, length, get_or, Float}
use Rattle.laws.specs.Places.{At}
use Rattle.sheet.specs.Sheet.{Graph}
use Rattle.sheet.specs.Meaning.{no_arrow, arrow_at}
use Rattle.routing.specs.Sheets.{frame_of, sizes_of, SameFrame}
use Rattle.label_spots.specs.declared.Geometry.{Geometry}
use Rattle.routing.specs.Routing.{Item, edge_of, order, numbered_at, item_for, no_item}
use Rattle.routing_laws.specs.Demand.{record_for, edge_at, TurnCheapest, stroke_of}

-- the lines of the arrow of turn j
abbrev pub lines_at : Graph → List Float → List Float → Item → ℕ → List (List ℕ)
lines_at g xs ys d j = (get_or g.arrows (edge_of (get_or (order (frame_of g xs ys)) j d)) no_arrow).lines

-- ---- demand 3 over graphs

-- the record of arrow k of a sheet's graph, or none
abbrev pub graph_record : Graph → List Float → List Float → ℕ → List Geometry
graph_record g xs ys k = record_for (frame_of g xs ys) (sizes_of g) k

-- "one claim over whole routings": a graph at these centres, beside every other that has the same states and arrow ends
pub record GraphDemand (g : Graph) (xs ys : List Float) : Type 0 where
  -- "Each arrow of the records has one turn": each arrow with both ends below the number of states
  pub turn : (k : ℕ) → k < length g.arrows → (arrow_at g k).source < length g.states → (arrow_at g k).target < length g.states
      → At (order (frame_of g xs ys)) no_item (item_for (frame_of g xs ys) (numbered_at (frame_of g xs ys) k))
  -- at every turn the record holds a listed place or direction: none of the listed costs less and none before it costs the same
  pub cheapest : (t : ℕ) → t < length (order (frame_of g xs ys)) → TurnCheapest (frame_of g xs ys) (sizes_of g) t
  -- "two such sheets at the same centres have the same turns in the same order"
  pub turns : (h : Graph) → SameFrame g h → order (frame_of g xs ys) ≡ order (frame_of h xs ys)
  -- where label lines agree at a turn and at all before it, the records are alike in all twenty numbers
  pub prefix : (h : Graph) → SameFrame g h → (t : ℕ) → t < length (order (frame_of g xs ys)) → ((j : ℕ) → j ≤ t → lines_at g xs ys no_item j ≡ lines_at h xs ys no_item j)
      → graph_record g xs ys (edge_at (frame_of g xs ys) t) ≡ graph_record h xs ys (edge_at (frame_of g xs ys) t)
  -- whatever the label lines, curves, tips and tip angles of arrows between different states are alike
  pub curves : (h : Graph) → SameFrame g h → (k : ℕ) → k < length g.arrows → ((arrow_at g k).source ≡ (arrow_at g k).target → ⊥)
      → map stroke_of (graph_record g xs ys k) ≡ map stroke_of (graph_record h xs ys k)
