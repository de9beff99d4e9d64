-- 'full pieces of 12 bytes first. Next indices point forward': what proofs/Forward shows of a graph's sheet.
use Rattle.std.specs.Prelude.{◌≡◌, List, ℕ, suc, ◌+◌, ◌<◌, length, get_or}
use Rattle.sheet.specs.Sheet.{kind_of, next, first_line, first_text, byte_one, text_chain}

-- of record k: an index that is not 0 is above k; a first line and a first text are the record behind
pub record Forward (s : List ℕ) (k : ℕ) : Type 0 where
  pub onward : (next s k ≡ 0 → ⊥) → k < next s k
  pub lines : kind_of s k ≡ 2 → (first_line s k ≡ 0 → ⊥) → first_line s k ≡ k + 1
  pub texts : kind_of s k ≡ 3 → (first_text s k ≡ 0 → ⊥) → first_text s k ≡ k + 1

-- of the pieces of a line, all but the last have 12 bytes
abbrev pub FullFirst : List ℕ → ℕ → Type 0
FullFirst s k = kind_of s k ≡ 3 → (j : ℕ) → suc j < length (text_chain s k) → byte_one s (get_or (text_chain s k) j 0) ≡ 12
