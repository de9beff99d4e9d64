-- The place that the plain search takes is the first least one, and there is only one such place. Assumes nothing.
use Rattle.std.specs.Prelude.{◌≡◌, ◌⊎◌}
use Rattle.std.proofs.Math.Path.{sym}
use Rattle.std.proofs.Common.{subst, le_refl, le_trans, le_of_lt, lt_of_lt_of_le, eq-or-lt_of_le, le_of_suc-le-suc, not-suc-le-zero, lt_irrefl}
use Rattle.std.proofs.Math.Logic.{⊎_elim}
use Prim.Native.Nat.{ℕ, zero, suc, ◌≤◌, ◌<◌}
use native.Mathlib.Omega.{arith}
use Rattle.laws.specs.Cases.{by_lt}
use Rattle.laws.specs.Best.{best, FirstLeast, best-new, best_old, best_one}

module _ (cost : ℕ → ℕ) where
  -- (1) the place taken is the first least one
  pub best_is : (n : ℕ) → FirstLeast cost (suc n) (best cost (suc n))
  best_is zero =
      rw (best_one cost)
      (record { inside = omega arith; least = λ j h. subst (λ (k : ℕ). cost 0 ≤ cost k) (zero_of j h) (le_refl (cost 0)); first = λ j h. absurd (not-suc-le-zero h) })
    where
      zero_of : (j : ℕ) → j < 1 → 0 ≡ j
      zero_of j h = omega arith
  best_is (suc n) =
      let b : ℕ = best cost (suc n) in
      let p : FirstLeast cost (suc n) b = best_is n in
      by_lt (cost (suc n)) (cost b)
      (λ h. subst (FirstLeast cost (suc (suc n))) (sym (best-new cost (suc n) h))
      (record {
        inside = omega arith;
        least = λ j k. ⊎_elim (λ (e : j ≡ suc n). subst (λ (x : ℕ). cost (suc n) ≤ cost x) (sym e) (le_refl (cost (suc n)))) (λ (l : j < suc n). le_trans (le_of_lt h) (p.least j l)) (split j (suc n) k);
        first = λ j k. lt_of_lt_of_le h (p.least j k);
      }))
      (λ h. subst (FirstLeast cost (suc (suc n))) (sym (best_old cost (suc n) h))
      (record {
        inside = le_trans p.inside (omega arith);
        least = λ j k. ⊎_elim (λ (e : j ≡ suc n). subst (λ (x : ℕ). cost b ≤ cost x) (sym e) h) (λ (l : j < suc n). p.least j l) (split j (suc n) k);
        first = p.first;
      }))
    where
      split : (j m : ℕ) → j < suc m → (j ≡ m) ⊎ (j < m)
      split j m h = eq-or-lt_of_le (le_of_suc-le-suc h)

  -- there is only one such place
  pub first_least_unique : (n i j : ℕ) → FirstLeast cost n i → FirstLeast cost n j → i ≡ j
  first_least_unique n i j p q =
      by_lt i j (λ (h : i < j). absurd (lt_irrefl (cost j) (lt_of_lt_of_le (q.first i h) (p.least j q.inside))))
      (λ (h : j ≤ i). by_lt j i (λ (l : j < i). absurd (lt_irrefl (cost i) (lt_of_lt_of_le (p.first j l) (q.least i p.inside)))) (λ (l : i ≤ j). omega arith))
