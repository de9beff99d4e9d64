-- Sheets written afresh; proofs/Worked computes them.
use Rattle.std.specs.Prelude.{◌≡◌, replicate}
use mathlib.Core.List.{[], ◌∷◌, ◌++◌}
use Rattle.sheet.specs.Sheet.{Graph, meaning}
use Rattle.sheet.specs.Records.{header, state_bytes, arrow_bytes, line_bytes, text_bytes}
use Rattle.sheet.specs.Examples.{empty_sheet, small, shuffled, lined}
use Rattle.encode.specs.Encode.{encode}

abbrev pub branching : Graph
branching = record {
  states = record { flags = 1 } ∷ [];
  arrows = record { source = 0; target = 0; lines = (replicate 11 97 ++ (0xc3 ∷ 0xa9 ∷ [])) ∷ [] ∷ [] }
      ∷ record { source = 1; target = 0; lines = [] }
      ∷ [];
}

pub record WorkedSheets : Type 0 where
  -- the sheet of document 01's listing stays as it is, and the same with its records in another order becomes it
  pub same : encode (meaning small) ≡ small
  pub ordered : encode (meaning shuffled) ≡ small
  -- pieces of 7 and 8 bytes become one of 12 and one of 3
  pub joined : encode (meaning (lined (replicate 7 97) (replicate 8 97))) ≡ lined (replicate 12 97) (replicate 3 97)
  -- a final state before a start; a left-out arrow with an empty line
  pub kept : encode (meaning (header 4 4 2 ++ line_bytes 0 0 ++ arrow_bytes 0 65535 1 1 ++ state_bytes 1 0 ++ state_bytes 2 3))
      ≡ header 4 1 3 ++ state_bytes 2 2 ++ state_bytes 1 0 ++ arrow_bytes 0 65535 1 4 ++ line_bytes 0 0
  -- two arrows, the first with a line of 13 bytes, whose first piece ends within a character, and an empty one
  pub blocks : encode branching
      ≡ header 7 1 2 ++ state_bytes 1 0 ++ arrow_bytes 7 0 0 3 ++ line_bytes 6 4 ++ text_bytes 5 (replicate 11 97 ++ (0xc3 ∷ [])) ++ text_bytes 0 (0xa9 ∷ []) ++ line_bytes 0 0
      ++ arrow_bytes 0 1 0 0
  -- no states, no arrows: the header alone
  pub empty : encode (meaning empty_sheet) ≡ empty_sheet
