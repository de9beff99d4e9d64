-- What an answered call of `route` leaves: what is drawn, and what stands past the last record.
use mathlib.Core.List.{List}
use Rattle.label_spots.specs.declared.Geometry.{Geometry}
use Rattle.routing.specs.Sheets.{records_of}
use Rattle.demand3.specs.Demand.{Call, graph, drawn_at}

-- ---- what an answered call leaves

-- what is drawn, in record order
abbrev pub call_records : Call → List Geometry
call_records c = records_of (graph c) c.xs c.ys

-- past the last record
abbrev pub past_records : Call → Geometry
past_records c = drawn_at c 0 0
