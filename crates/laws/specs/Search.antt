-- A step of the early search, by what a loop has at hand. Assumes nothing.
use Rattle.std.specs.Prelude.{◌≡◌, cond, ltb}
use Rattle.std.proofs.Math.Path.{refl}
use Rattle.std.proofs.Common.{sym, ◌∙◌, not-suc-le-zero}
use Prim.Native.Nat.{ℕ, zero, suc, ◌+◌, ◌-◌, ◌≤◌, ◌<◌}
use Rattle.std.proofs.Math.Numerals.{add-one}
use borrow.Author.Tests.{ne_eqb}
use Rattle.laws.specs.Best.{search_from}
use Rattle.laws.specs.Loops.{less_one}

module _ (cut : ℕ → ℕ → ℕ) where
  search_turn : (n j l b : ℕ) → 0 < n → (cut l j ≡ 0 → ⊥) → search_from cut (n - 1) (j + 1) (cond (ltb (cut l j) l) (cut l j) l) (cond (ltb (cut l j) l) j b) ≡ search_from cut n j l b
  unfolding search_from
  search_turn zero j l b h e = absurd (not-suc-le-zero h)
  search_turn (suc n) j l b h e = rw (less_one, add-one, ne_eqb _ _ e)

  search_stop : (n j l b : ℕ) → 0 < n → cut l j ≡ 0 → cond (ltb (cut l j) l) j b ≡ search_from cut n j l b
  unfolding search_from
  search_stop zero j l b h e = absurd (not-suc-le-zero h)
  search_stop (suc n) j l b h e = rw e

  pub search_end : (n j l b : ℕ) → n ≤ 0 → b ≡ search_from cut n j l b
  unfolding search_from
  search_end zero j l b h = refl
  search_end (suc n) j l b h = absurd (not-suc-le-zero h)

-- c is the cost found, l' and b' the limit and the place after it
module _ (cut : ℕ → ℕ → ℕ) (n j l b c l' b' : ℕ) (h : 0 < n) (e : c ≡ cut l j) (e₁ : l' ≡ cond (ltb c l) c l) (e₂ : b' ≡ cond (ltb c l) j b) where
  pub step-at : (c ≡ 0 → ⊥) → search_from cut (n - 1) (j + 1) l' b' ≡ search_from cut n j l b
  step-at z = rw (e₁, e₂, e) (search_turn cut n j l b h (λ x. z (e ∙ x)))

  pub stop_at : c ≡ 0 → b' ≡ search_from cut n j l b
  stop_at z = rw (e₂, e) (search_stop cut n j l b h (sym e ∙ z))
