-- A written number, read by the grammar: its sign, its digits and its decimals, with the text behind it left; and its value is that of its hundredths.
-- Assumes nothing.
use Rattle.std.specs.Prelude.{◌≡◌, Bool, true, false, cond, ◌||◌, List, [], ◌∷◌, ◌++◌, ℕ, ◌+◌, ◌*◌, ◌/◌, ◌%◌, ◌^◌, ◌<◌, eqb, length, Float}
use Rattle.std.proofs.Math.Path.{refl, ap}
use Rattle.std.proofs.Common.{sym, ◌∙◌, true≢false, append_assoc, arith, eqb-true, ne_eqb}
use Rattle.std.proofs.Math.Option.{none, some, bind}
use Prim.Native.Char.{code}
use Rattle.laws.specs.Cases.{by_bool}
use Rattle.laws.specs.Loops.{over, over_join}
use Rattle.text.specs.Digits.{digits, digit_more, value, value-digits}
use Rattle.number.specs.Number.{Hundredths, hundredths, minus_text, fraction, decimal, num_text}
use Rattle.number.specs.Reading.{is_digit, NoDigit, AllDigits, digit_is, digits-all, some_digit, digits-split}
use Rattle.svg.specs.Grammar.{Numeral, numeral, plain_as, or_else, sign, some_digits, point_digits, plain_number, exponent_of, signed_number, coordinate}

-- ---- the number that some hundredths are written as: "at most two decimals, no trailing zeros"
abbrev pub numeral_of : Hundredths → Numeral
numeral_of h =
    cond (eqb (h.size % 100) 0) (numeral h.minus (h.size / 100) 0 false 0)
    (cond (eqb (h.size % 10) 0) (numeral h.minus (h.size / 10) 1 false 0)
    (numeral h.minus h.size 2 false 0))

-- the exponents of the powers of ten that a number is multiplied by, and divided by
abbrev pub tens_up : Numeral → ℕ
tens_up n = cond n.lowered 0 n.exponent

abbrev pub tens_down : Numeral → ℕ
tens_down n = n.decimals + cond n.lowered n.exponent 0

-- a number read is worth h hundredths: their signs are the same, and digits · 10 ^ tens_up / 10 ^ tens_down = size / 100
pub record Worth (n : Numeral) (h : Hundredths) : Type 0 where
  pub minus : n.minus ≡ h.minus
  pub size : n.digits * 10 ^ tens_up n * 100 ≡ h.size * 10 ^ tens_down n

pub numeral-worth : (h : Hundredths) → Worth (numeral_of h) h
numeral-worth h =
    by_bool (eqb (h.size % 100) 0)
    (λ (e : eqb (h.size % 100) 0 ≡ true). rw e (record { minus = refl; size = omega (arith, eqb-true (h.size % 100) 0 e) }))
    (λ (e : eqb (h.size % 100) 0 ≡ false). by_bool (eqb (h.size % 10) 0)
    (λ (g : eqb (h.size % 10) 0 ≡ true). rw (e, g) (record { minus = refl; size = omega (arith, eqb-true (h.size % 10) 0 g) }))
    (λ (g : eqb (h.size % 10) 0 ≡ false). rw (e, g) (record { minus = refl; size = omega arith })))

-- ---- a text that ends a number: it goes on with no digit, no point and no `e`
abbrev pub Stops : List ℕ → Type 0
Stops [] = Unit {0}
Stops (b ∷ l) = (is_digit b ≡ false) × (eqb b (code ".") ≡ false) × ((eqb b (code "e") || eqb b (code "E")) ≡ false)

no_digit : (l : List ℕ) → Stops l → NoDigit l
no_digit [] h = tt
no_digit (b ∷ l) h = h.0

no_point : (l : List ℕ) → Stops l → point_digits l ≡ none
unfolding point_digits
no_point [] h = refl
no_point (b ∷ l) h = rw h.1

no_exponent : (l : List ℕ) → Stops l → exponent_of l ≡ none
unfolding exponent_of
no_exponent [] h = refl
no_exponent (b ∷ l) h = rw h.2

digits-read : (ds l : List ℕ) → AllDigits ds → 0 < length ds → NoDigit l → some_digits (ds ++ l) ≡ some (ds, l)
unfolding some_digits
digits-read ds l p k h = let s = digits-split ds l p h in rw (s.0, s.1, ne_eqb (length ds) 0 (λ (z : length ds ≡ 0). omega arith))

-- ---- digits, and nothing; or a point and more digits
module _ (n : ℕ) (rest : List ℕ) where
  none_read : Stops rest → plain_number (digits n ++ rest) ≡ some (plain_as n 0 rest)
  unfolding plain_number bind or_else
  none_read h =
      let s = digits-split (digits n) rest (digits-all n) (no_digit rest h) in
      rw (s.1, no_point rest h, digits-read (digits n) rest (digits-all n) (some_digit n) (no_digit rest h), value-digits n)

  some_read : (a : ℕ) (ds : List ℕ) → AllDigits (a ∷ ds) → NoDigit rest → plain_number (digits n ++ (46 ∷ a ∷ (ds ++ rest))) ≡ some (plain_as (over digit_more n (a ∷ ds)) (length (a ∷ ds)) rest)
  unfolding plain_number point_digits bind or_else value
  some_read a ds p h =
      let s = digits-split (digits n) (46 ∷ a ∷ (ds ++ rest)) (digits-all n) refl in
      let v : over digit_more 0 (digits n ++ (a ∷ ds)) ≡ over digit_more n (a ∷ ds) = over_join digit_more 0 (digits n) (a ∷ ds) ∙ ap (λ (i : ℕ). over digit_more i (a ∷ ds)) (value-digits n) in
      rw (s.1, s.0, digits-read (a ∷ ds) rest p (omega arith) h, v)

-- ---- a number with its sign read
signed-read : (minus : Bool) (l rest : List ℕ) (n k : ℕ) → plain_number l ≡ some (plain_as n k rest) → Stops rest → signed_number minus l ≡ some (numeral minus n k false 0 ∷ [], rest)
unfolding signed_number bind
signed-read minus l rest n k e h = rw (e, no_exponent rest h)

size-read : (h : Hundredths) (rest : List ℕ) → Stops rest → signed_number h.minus (digits (h.size / 100) ++ (fraction (h.size % 100) ++ rest)) ≡ some (numeral_of h ∷ [], rest)
unfolding fraction over
size-read h rest s =
    let k = h.size in
    let m : k % 100 % 10 ≡ k % 10 = omega arith in
    let l = digits (k / 100) in
    let d : NoDigit rest = no_digit rest s in
    let a : is_digit (48 + k % 100 / 10) ≡ true = digit_is (k % 100 / 10) (omega arith) in
    let b : is_digit (48 + k % 10) ≡ true = digit_is (k % 10) (omega arith) in
    by_bool (eqb (k % 100) 0)
    (λ (e : eqb (k % 100) 0 ≡ true). rw e (signed-read h.minus (l ++ rest) rest (k / 100) 0 (none_read (k / 100) rest s) s))
    (λ (e : eqb (k % 100) 0 ≡ false). by_bool (eqb (k % 10) 0)
    (λ (g : eqb (k % 10) 0 ≡ true). rw (e, m, g)
    (signed-read h.minus (l ++ (46 ∷ (48 + k % 100 / 10) ∷ rest)) rest (k / 10) 1
    (some_read (k / 100) rest (48 + k % 100 / 10) [] (a, tt) d ∙ ap (λ (i : ℕ). some (plain_as i 1 rest)) (omega arith)) s))
    (λ (g : eqb (k % 10) 0 ≡ false). rw (e, m, g)
    (signed-read h.minus (l ++ (46 ∷ (48 + k % 100 / 10) ∷ (48 + k % 10) ∷ rest)) rest k 2
    (some_read (k / 100) rest (48 + k % 100 / 10) ((48 + k % 10) ∷ []) (a, (b, tt)) d ∙ ap (λ (i : ℕ). some (plain_as i 2 rest)) (omega arith)) s)))

-- ---- the sign
no_sign : (ds l : List ℕ) → AllDigits ds → 0 < length ds → sign (ds ++ l) ≡ (false, ds ++ l)
unfolding sign
no_sign [] l p h = absurd (omega arith)
no_sign (d ∷ ds) l p h = rw (ne_eqb d 45 (λ (e : d ≡ 45). true≢false (sym p.0 ∙ ap is_digit e)), ne_eqb d 43 (λ (e : d ≡ 43). true≢false (sym p.0 ∙ ap is_digit e)))

sign_read : (minus : Bool) (ds l : List ℕ) → AllDigits ds → 0 < length ds → sign (minus_text minus ++ (ds ++ l)) ≡ (minus, ds ++ l)
unfolding minus_text sign
sign_read true ds l p h = refl
sign_read false ds l p h = unfold sign in (no_sign ds l p h)

-- What is written of h hundredths, with any text behind it that ends a number, is read as their numeral, with that text left.
pub decimal-read : (h : Hundredths) (rest : List ℕ) → Stops rest → coordinate (decimal h ++ rest) ≡ some (numeral_of h ∷ [], rest)
unfolding decimal coordinate
decimal-read h rest s =
    let m = minus_text h.minus in
    let ds = digits (h.size / 100) in
    let f = fraction (h.size % 100) in
    let e : m ++ ds ++ f ++ rest ≡ m ++ (ds ++ (f ++ rest)) = simp append_assoc in
    let r = sign_read h.minus ds (f ++ rest) (digits-all (h.size / 100)) (some_digit (h.size / 100)) in
    rw (e, r) (size-read h rest s)

pub num_read : (v : Float) (rest : List ℕ) → Stops rest → coordinate (num_text v ++ rest) ≡ some (numeral_of (hundredths v) ∷ [], rest)
unfolding num_text
num_read v rest s = decimal-read (hundredths v) rest s
