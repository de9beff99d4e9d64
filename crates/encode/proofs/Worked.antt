-- Sheets written afresh, computed. Assumes nothing.
use Rattle.std.specs.Prelude.{refl}
use mathlib.Core.List.{flat_map}
use Rattle.sheet.specs.Sheet.{chain_by, line_of, lines_from, arrow_of, states_of, arrows_of}
use Rattle.encode.specs.Encode.{space_of, all_records, pieces_by, line_records, arrow_records, encode}
use Rattle.encode.specs.Worked.{WorkedSheets}

pub worked_sheets : WorkedSheets
unfolding encode all_records space_of pieces_by line_records arrow_records flat_map chain_by line_of lines_from arrow_of states_of arrows_of
worked_sheets = record { same = refl; ordered = refl; joined = refl; kept = refl; blocks = refl; empty = refl }
