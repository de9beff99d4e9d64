-- The marks of a written sheet one record at a time, as a loop over them goes: `left` records from record k on. Assumes nothing.
use Rattle.std.specs.Prelude.{◌≡◌, Bool, List}
use Prim.Native.Nat.{ℕ, suc, ◌+◌, ◌-◌}
use native.Mathlib.Omega.{arith}
use Rattle.repair.specs.Marks.{marked_at, cleared_at, mark_kept}

module _ (b : Bool) (k left : ℕ) (s : List ℕ) where
  pub kept_step : (left ≡ 0 → ⊥) → {b' : Bool} {s' : List ℕ} → b' ≡ marked_at b k s → s' ≡ cleared_at b k s → mark_kept b' (k + 1) (left - 1) s' ≡ mark_kept b k left s
  unfolding mark_kept
  kept_step h {b'} {s'} p q = let e : left ≡ suc (left - 1) = omega arith in rw (p, q, e) (let d : suc (left - 1) - 1 ≡ left - 1 = omega arith in rw d)

  pub kept_done : left ≡ 0 → s ≡ mark_kept b k left s
  unfolding mark_kept
  kept_done e = rw e
