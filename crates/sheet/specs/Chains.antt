-- A chain one record at a time: n records to come at most, and i the next index.
-- Assumes nothing.
use Rattle.std.specs.Prelude.{◌≡◌, List, [], ◌∷◌, length, ◌≤◌, eqb}
use Rattle.std.proofs.Math.Path.{refl}
use Prim.Native.Nat.{ℕ, zero, suc, ◌-◌}
use native.Mathlib.Omega.{arith}
use Rattle.std.proofs.Common.{ne_eqb}
use Rattle.laws.specs.Cases.{by_bool}
use Rattle.sheet.specs.Sheet.{next, chain_by}

module _ (s : List ℕ) where
  pub chain_end : (n i : ℕ) → i ≡ 0 → chain_by s n i ≡ []
  unfolding chain_by
  chain_end zero i e = refl
  chain_end (suc n) i e = rw e

  pub chain_cut : (n i : ℕ) → n ≡ 0 → chain_by s n i ≡ []
  unfolding chain_by
  chain_cut n i e = rw e

  pub chain_step : (n i : ℕ) → (n ≡ 0 → ⊥) → (i ≡ 0 → ⊥) → chain_by s n i ≡ i ∷ chain_by s (n - 1) (next s i)
  unfolding chain_by
  chain_step zero i h e = absurd (h refl)
  chain_step (suc n) i h e = let d : suc n - 1 ≡ n = omega arith in rw (ne_eqb i 0 e, d)

  pub chain_within : (n i : ℕ) → length (chain_by s n i) ≤ n
  unfolding chain_by
  chain_within zero i = omega arith
  chain_within (suc n) i = let rest = chain_within n (next s i) in by_bool (eqb i 0) (λ e. rw e (omega arith)) (λ e. rw e (omega arith))
