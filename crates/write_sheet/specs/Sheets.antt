-- What writing asks of a sheet.
use Rattle.std.specs.Prelude.{◌≡◌, Bool, false, List, ℕ, ◌≤◌}
use Rattle.laws.specs.Any.{any_of}
use Rattle.sheet.specs.Sheet.{Arrow, arrows_of, meaning}
use Rattle.sheet.specs.Refusals.{long_line}
use Rattle.encode.specs.Encode.{records_for}

-- an arrow with a line of more than 96 bytes
abbrev pub long_arrow : Arrow → Bool
long_arrow a = any_of long_line a.lines

-- no line has more bytes than there is room for, and the sheet is written in no more records than a sheet has
pub record Savable (s : List ℕ) : Type 0 where
  pub lines : any_of long_arrow (arrows_of s) ≡ false
  pub few : records_for (meaning s) ≤ 4095
