-- Decimal digits as bytes, and what they say. Assumes nothing.
use Rattle.std.specs.Prelude.{◌≡◌, refl, Bool, true, false, cond, List, [], ◌∷◌, ◌++◌, ℕ, zero, suc, ◌+◌, ◌-◌, ◌*◌, ◌/◌, ◌%◌, ◌≤◌, ◌<◌, ltb, length}
use Rattle.std.proofs.Common.{◌∙◌, le_refl, arith, ltb-false, lt-ltb, le-ltb}
use Prim.Native.Char.{code}
use Rattle.laws.specs.Loops.{over, over_join}
use Rattle.text.specs.Ascii.{ascii}

-- n is below 10, or its tenth has digits and its last digit follows; f is at least the number of digits less one
unfoldable pub digits_by : ℕ → ℕ → List ℕ
digits_by zero n = (code "0" + n) ∷ []
digits_by (suc f) n = let front = digits_by f (n / 10) in cond (ltb n 10) ((code "0" + n) ∷ []) (front ++ ((code "0" + n % 10) ∷ []))

-- the decimal digits of n
unfoldable pub digits : ℕ → List ℕ
digits n = digits_by n n

same : (f g n : ℕ) → n ≤ f → n ≤ g → digits_by f n ≡ digits_by g n
unfolding digits_by
same zero zero n h k = refl
same zero (suc g) n h k = rw (lt-ltb n 10 (omega arith))
same (suc f) zero n h k = rw (lt-ltb n 10 (omega arith))
same (suc f) (suc g) n h k = go (ltb n 10) refl (same f g (n / 10))
  where
    go : (t : Bool) → ltb n 10 ≡ t → (n / 10 ≤ f → n / 10 ≤ g → digits_by f (n / 10) ≡ digits_by g (n / 10))
        → cond (ltb n 10) ((48 + n) ∷ []) (digits_by f (n / 10) ++ ((48 + n % 10) ∷ [])) ≡ cond (ltb n 10) ((48 + n) ∷ []) (digits_by g (n / 10) ++ ((48 + n % 10) ∷ []))
    go true e ih = rw e
    go false e ih = let w : 10 ≤ n = ltb-false n 10 e in rw (e, ih (omega arith) (omega arith))

-- a digit; or the digits of a tenth, and the last digit
pub digits_one : (n : ℕ) → n < 10 → digits n ≡ (48 + n) ∷ []
unfolding digits digits_by
digits_one zero h = refl
digits_one (suc n) h = rw (lt-ltb (suc n) 10 h)

pub digits_more : (n : ℕ) → 10 ≤ n → digits n ≡ digits (n / 10) ++ ((48 + n % 10) ∷ [])
unfolding digits digits_by
digits_more zero h = absurd (omega arith)
digits_more (suc n) h = rw (le-ltb (suc n) 10 h, same n (suc n / 10) (suc n / 10) (omega arith) (omega arith))

-- one digit more, and what a list of digits says
abbrev pub digit_more : ℕ → ℕ → ℕ
digit_more a d = 10 * a + (d - code "0")

unfoldable pub value : List ℕ → ℕ
value l = over digit_more 0 l

value_by : (f n : ℕ) → n ≤ f → value (digits_by f n) ≡ n
unfolding value over digits_by
value_by zero n h = omega arith
value_by (suc f) n h = go (ltb n 10) refl (value_by f (n / 10))
  where
    go : (t : Bool) → ltb n 10 ≡ t → (n / 10 ≤ f → value (digits_by f (n / 10)) ≡ n / 10) → value (cond t ((48 + n) ∷ []) (digits_by f (n / 10) ++ ((48 + n % 10) ∷ []))) ≡ n
    go true e ih = omega arith
    go false e ih =
        let w : 10 ≤ n = ltb-false n 10 e in
        over_join digit_more 0 (digits_by f (n / 10)) ((48 + n % 10) ∷ []) ∙ omega (arith, ih (omega arith))

pub value-digits : (n : ℕ) → value (digits n) ≡ n
unfolding digits
value-digits n = value_by n n (le_refl n)

worked : (digits 0 ≡ ascii "0") × (digits 1204 ≡ ascii "1204") × (length (digits 18446744073709551615) ≡ 20)
unfolding digits digits_by
worked = (refl, refl, refl)
