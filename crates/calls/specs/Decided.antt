-- What the answer of a call says of its refusals, and they of it. Assumes nothing.
use Rattle.std.specs.Prelude.{◌≡◌, List, ℕ}
use Rattle.std.proofs.Common.{sym, ◌∙◌}
use Rattle.laws.specs.Refusals.{Refusal, decide, Clear, First, first_decides, clear_decides}
use Rattle.laws.specs.Refusals as Refusals
use Rattle.calls.specs.Calls.{values, number}
use Rattle.refusal.specs.Laws.{values_same}
pub use Rattle.refusal.specs.Laws.{number_same, number-apart}

module _ {A : Type 0} where
  module _ (rs : List Refusal) (a : A) where
    -- Each number is given under its cause only, and whenever no earlier cause holds.
    pub number_exactly : (n : ℕ) → (decide rs number (values a) ≡ number n → First rs n) × (First rs n → decide rs number (values a) ≡ number n)
    number_exactly n = Refusals.given_exactly number (values a) number_same (number-apart a) rs n

    -- The values are given exactly where no cause holds.
    pub values_exactly : (decide rs number (values a) ≡ values a → Clear rs) × (Clear rs → decide rs number (values a) ≡ values a)
    values_exactly = Refusals.answered_exactly number (values a) number_same (number-apart a) rs

    -- Refused, everything is as it was.
    pub refused_keeps : {B : Type 0} (n : ℕ) (kept new : B) → decide rs number (values a) ≡ number n → decide rs (λ m. kept) new ≡ kept
    refused_keeps n kept new e = first_decides (λ m. kept) new rs n ((number_exactly n).0 e)

    pub refused-first : (n : ℕ) → number n ≡ decide rs number (values a) → First rs n
    refused-first n e = (number_exactly n).0 (sym e)

    -- no other values than those
    pub answered-clear : (b : A) → values b ≡ decide rs number (values a) → Clear rs × (b ≡ a)
    answered-clear b e = heard (Refusals.first_or_clear rs)
      where
        heard : Refusals.FirstOrClear rs → Clear rs × (b ≡ a)
        heard (Refusals.stops n f) = absurd (number-apart b n (sym (first_decides number (values a) rs n f) ∙ sym e))
        heard (Refusals.goes c) = (c, values_same (e ∙ clear_decides number (values a) rs c))
