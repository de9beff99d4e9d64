-- A graph whose sheet a screen accepts, as proofs/Accepts shows.
use Rattle.std.specs.Prelude.{ℕ, ◌≤◌, ◌<◌, length, get_or}
use Rattle.sheet.specs.Sheet.{Graph, flags_of}
use Rattle.sheet.specs.Accepted.{Within}
use Rattle.sheet.specs.declared.Limits.{Limits}
use Rattle.encode.specs.Encode.{records_for}

-- a graph whose sheet a screen accepts: within its limits, every line well-formed, no flag bit above 1, at most 4,095 records
pub record Encodable (m : Limits) (g : Graph) : Type 0 where
  pub within : Within m g
  pub flags : (k : ℕ) → k < length g.states → get_or (flags_of g) k 0 ≤ 3
  pub few : records_for g ≤ 4095
