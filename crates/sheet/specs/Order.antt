-- The order of the refusals: a sheet gets exactly one answer, each number only under its own cause, and whenever no cause before it holds. Assumes nothing.
use Rattle.std.specs.Prelude.{◌≡◌, refl, List, [], ◌∷◌, ◌++◌, ℕ}
use Rattle.std.proofs.Math.Path.{sym}
use Rattle.std.proofs.Common.{ap, ◌∙◌}
use Rattle.laws.specs.Filter.{filter_by}
use Rattle.laws.specs.Refusals.{Refusal, decide, decide_join, decide-map, numbers_in, order_but, Clear, First, given_exactly, answered_exactly}
use Rattle.sheet.specs.Refusals.{refusals, check_of}
use Rattle.refusal.specs.Refused.{Outcome, values, number}
use Rattle.refusal.specs.Laws.{number_same, number-apart}
use Rattle.sheet.specs.declared.Limits.{Limits}

-- "Order: 11, 1, 2, 4, 3, 5, 6, 8, 9, 10, 7": a sheet alone has those of them that are neither of a layout kind, of centres, nor of an output
pub sheet_order : (m : Limits) (s : List ℕ) → numbers_in (refusals m s) ≡ order_but (11 ∷ 8 ∷ 9 ∷ 10 ∷ 7 ∷ [])
unfolding filter_by
sheet_order m s = refl

module _ (m : Limits) (s : List ℕ) where
  -- A sheet is refused by a number exactly where its cause is the first that holds.
  pub refused_exactly : (n : ℕ) → (check_of m s ≡ number n → First (refusals m s) n) × (First (refusals m s) n → check_of m s ≡ number n)
  unfolding check_of
  refused_exactly n = given_exactly number (values tt) number_same (number-apart tt) (refusals m s) n

  -- A sheet is accepted exactly where no cause holds.
  pub accepted_exactly : (check_of m s ≡ values tt → Clear (refusals m s)) × (Clear (refusals m s) → check_of m s ≡ values tt)
  unfolding check_of
  accepted_exactly = answered_exactly number (values tt) number_same (number-apart tt) (refusals m s)

-- ---- for calls that refuse more after a sheet is accepted
-- a refused sheet refuses the call with its number, and an accepted one leaves the rest to decide
module _ {A : Type 0} (m : Limits) (s : List ℕ) (qs : List Refusal) (refuse : ℕ → A) (answer : A) where
  abbrev carried : Outcome (Unit {0}) → A
  carried (values a) = decide qs refuse answer
  carried (number n) = refuse n

  checked : carried (check_of m s) ≡ decide (refusals m s ++ qs) refuse answer
  unfolding check_of
  checked = decide-map carried (refusals m s) number (values tt) ∙ sym (decide_join (refusals m s) qs refuse answer)

  pub check-refused : (n : ℕ) → number n ≡ check_of m s → refuse n ≡ decide (refusals m s ++ qs) refuse answer
  check-refused n e = ap carried e ∙ checked

  pub check_accepted : values tt ≡ check_of m s → decide qs refuse answer ≡ decide (refusals m s ++ qs) refuse answer
  check_accepted e = ap carried e ∙ checked
