-- Document 01's worked sheet with accents put into its line: before and after the letter, one of them twice, and two across pieces. proofs/Worked works it out.
use Rattle.std.specs.Prelude.{ℕ, replicate}
use mathlib.Core.List.{List, [], ◌∷◌, ◌++◌}
use Rattle.float.specs.Constants.{whole}
use Rattle.sheet.specs.Sheet.{Graph}
use Rattle.sheet.specs.Refusals.{service_panel}
use Rattle.sheet.specs.Records.{header, state_bytes, arrow_bytes, line_bytes, text_bytes}
use Rattle.sheet.specs.Examples.{small}
use Rattle.calls.specs.Calls.{main_screen}
use Rattle.demand3.specs.Demand.{Call}
use Rattle.worked_calls.specs.Numbers.{small_xs, small_ys}

-- U+0301, the letter `a`, U+0300 twice, U+036F
abbrev pub accented_line : List ℕ
accented_line = 0xcc ∷ 0x81 ∷ 0x61 ∷ 0xcc ∷ 0x80 ∷ 0xcc ∷ 0x80 ∷ 0xcd ∷ 0xaf ∷ []

abbrev pub small_accented : List ℕ
small_accented =
    header 7 1 3
    ++ state_bytes 1 2
    ++ state_bytes 0 0
    ++ arrow_bytes 0 0 1 4
    ++ line_bytes 0 5
    ++ text_bytes 6 (0xcc ∷ [])
    ++ text_bytes 7 (0x81 ∷ 0x61 ∷ 0xcc ∷ 0x80 ∷ 0xcc ∷ 0x80 ∷ 0xcd ∷ [])
    ++ text_bytes 0 (0xaf ∷ [])

abbrev pub accented_graph : Graph
accented_graph = record {
  states = record { flags = 1 } ∷ record { flags = 0 } ∷ [];
  arrows = record { source = 0; target = 1; lines = accented_line ∷ [] } ∷ [];
}

-- a routing of each, under the main screen's limits and under the service panel's, at the layout's centres, with other slices lent
abbrev pub plain_call : Call
plain_call = record { sheet = small; limits = main_screen; xs = small_xs; ys = small_ys; records = replicate 20 (whole 0); text = replicate 17 0 }

abbrev pub accented_call : Call
accented_call = record { sheet = small_accented; limits = service_panel; xs = small_xs; ys = small_ys; records = replicate 25 (whole 3); text = replicate 30 9 }
