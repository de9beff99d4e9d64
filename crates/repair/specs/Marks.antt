-- The start marks of a written sheet, as the code goes through its state records: record k, and n of them from record k on.
use Rattle.std.specs.Prelude.{Bool, true, cond, List, ℕ, zero, suc, ◌+◌, ◌*◌, set}
use Rattle.sheet.specs.Sheet.{byte_one}
use Rattle.sheet.specs.Meaning.{is_start}
use Rattle.repair.specs.Repaired.{without_start}

-- whether a state is marked, where one before it is or not
abbrev pub marked_at : Bool → ℕ → List ℕ → Bool
marked_at marked k s = cond marked true (is_start (byte_one s k))

-- without its mark, if one before it is marked
abbrev pub cleared_at : Bool → ℕ → List ℕ → List ℕ
cleared_at marked k s = cond marked (set s (16 * k + 1) (without_start (byte_one s k))) s

unfoldable pub mark_kept : Bool → ℕ → ℕ → List ℕ → List ℕ
mark_kept marked k zero s = s
mark_kept marked k (suc n) s = mark_kept (marked_at marked k s) (k + 1) n (cleared_at marked k s)
