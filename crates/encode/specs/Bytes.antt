-- A graph in whose sheet every number is a byte, as proofs/Bytes shows.
use Rattle.std.specs.Prelude.{ℕ, ◌<◌, length}
use Rattle.std.proofs.Math.ListN.{get_or}
use Rattle.sheet.specs.Sheet.{Graph, flags_of}
use Rattle.sheet.specs.Meaning.{arrow_at}
use Rattle.sheet.specs.Accepted.{line_at}

-- flags and texts of bytes, ends that are u16
pub record OfBytes (g : Graph) : Type 0 where
  pub flags : (k : ℕ) → k < length g.states → get_or (flags_of g) k 0 < 256
  pub sources : (k : ℕ) → k < length g.arrows → (arrow_at g k).source < 65536
  pub targets : (k : ℕ) → k < length g.arrows → (arrow_at g k).target < 65536
  pub texts : (k j i : ℕ) → k < length g.arrows → j < length (arrow_at g k).lines → i < length (line_at g k j) → get_or (line_at g k j) i 0 < 256
