-- Each way through the code, as the definitions have it: what the calls give are variables. Assumes nothing.
use Rattle.std.proofs.Common.{◌≡◌, ℕ, ◌/◌, ◌%◌, ◌<◌, Bool, true, false, not, ◌&&◌, eqb, List, [], ◌∷◌, ◌++◌, length, sym, ap, ◌∙◌, arith, eq-eqb, ne_eqb}
use borrow.Author.Tests.{not-true, not-false}
use lib.Ieee.{Float, to_unsigned}
use Rattle.laws.specs.Writers.{answer, written_over}
use Rattle.float.specs.Ops.{◌⊗◌, lt}
use Rattle.float.specs.Constants.{f100, f1e13}
use Rattle.float.specs.Standins.{negative, abs, round}
use Rattle.text.specs.Digits.{digits, digits_one}
use Rattle.number.specs.Number.{too_large, writable, rounded_size, minus_text, fraction, decimal, num_text, written, written_after}
use Rattle.refusal.specs.Refused.{Outcome, values, number}

-- the hundredths below 10^13, and none elsewhere
pub size_below : (v a r w : Float) (n : ℕ) → a ≡ abs v → lt a f1e13 ≡ true → r ≡ round (v ⊗ f100) → w ≡ abs r → n ≡ to_unsigned 64 w → n ≡ rounded_size v
unfolding rounded_size
size_below v a r w n e t f g h = rw (← e, t) (h ∙ ap (to_unsigned 64) (g ∙ ap abs f))

pub size_none : (v a : Float) → a ≡ abs v → lt a f1e13 ≡ false → 0 ≡ rounded_size v
unfolding rounded_size
size_none v a e t = rw (← e, t)

-- the fraction: none, tenths, hundredths
pub fraction_none : (n : ℕ) → n ≡ 0 → [] ≡ fraction n
unfolding fraction
fraction_none n e = rw (eq-eqb n 0 e)

pub fraction_one : (n : ℕ) → n < 100 → (n ≡ 0 → ⊥) → n % 10 ≡ 0 → (46 ∷ []) ++ digits (n / 10) ≡ fraction n
unfolding fraction
fraction_one n h z e = rw (ne_eqb n 0 z, eq-eqb (n % 10) 0 e, digits_one (n / 10) (omega arith))

pub fraction_two : (n : ℕ) → n < 100 → (n ≡ 0 → ⊥) → (n % 10 ≡ 0 → ⊥) → (46 ∷ []) ++ digits (n / 10) ++ digits (n % 10) ≡ fraction n
unfolding fraction
fraction_two n h z e = rw (ne_eqb n 0 z, ne_eqb (n % 10) 0 e, digits_one (n / 10) (omega arith), digits_one (n % 10) (omega arith))

-- the whole text
pub num_text_is : (v : Float) (n : ℕ) (m : Bool) → n ≡ rounded_size v → m ≡ (negative v && not (eqb n 0)) → minus_text m ++ digits (n / 100) ++ fraction (n % 100) ≡ num_text v
unfolding num_text decimal
num_text_is v n m e f = rw (f, e)

-- refused by 10, or not
pub num_refused : (v : Float) (w : Bool) (out : List ℕ) → w ≡ writable v → not w ≡ true → (number 10 ≡ written v (length out)) × (out ≡ written_after v out)
unfolding written written_after
num_refused v w out e t = let l : too_large v ≡ true = not-false (too_large v) (sym e ∙ not-true w t) in (rw l, rw l)

pub goes_on_lem : (v : Float) (w : Bool) (r : Outcome ℕ) (q out : List ℕ) → w ≡ writable v → not w ≡ false
    → (r ≡ answer values (number 7) (num_text v) (length out)) × (q ≡ written_over (num_text v) out) → (r ≡ written v (length out)) × (q ≡ written_after v out)
unfolding written written_after
goes_on_lem v w r q out e t p = let l : too_large v ≡ false = not-true (too_large v) (sym e ∙ not-false w t) in (rw l p.0, rw l p.1)
