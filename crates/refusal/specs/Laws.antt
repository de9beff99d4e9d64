-- Outcomes are told apart: numbers from each other, values from each other, and numbers from values. Assumes nothing.
use Rattle.std.specs.Prelude.{◌≡◌, ℕ}
use Rattle.std.proofs.Common.{arith}
use Rattle.refusal.specs.Refused.{Outcome, values, number}

module _ {A : Type 0} where
  pub number_same : (m n : ℕ) → ◌≡◌ {A = Outcome A} (number m) (number n) → m ≡ n
  number_same m n e = cc

  pub values_same : {a b : A} → ◌≡◌ {A = Outcome A} (values a) (values b) → a ≡ b
  values_same e = cc

  pub number-apart : (a : A) (n : ℕ) → ◌≡◌ {A = Outcome A} (number n) (values a) → ⊥
  number-apart a n e = let z : ◌≡◌ {A = ℕ} 0 1 = cc in omega arith
