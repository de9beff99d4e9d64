-- A reader of numbers from bytes. What is written of a number is read back as its hundredths; no trailing zero, no trailing point, never `-0`. Assumes nothing.
use Rattle.std.specs.Prelude.{◌≡◌, ℕ, zero, suc, ◌+◌, ◌-◌, ◌*◌, ◌/◌, ◌%◌, ◌<◌, ◌≤◌, Bool, true, false, cond, not, ◌&&◌, leb, List, [], ◌∷◌, ◌++◌, length, ◌==◌, ◌≢◌, nat_eq, nat_le, nat_lt, Float}
use Rattle.std.proofs.Math.Path.{refl, ap}
use Rattle.std.proofs.Common.{sym, ◌∙◌, true≢false, append_assoc, le_refl, arith, length-append}
use Rattle.std.proofs.Math.Option.{Option, none, some}
use Prim.Native.Char.{code}
use Rattle.std.specs.Float.{nan, inf, fin}
use Rattle.std.specs.Float.Ieee as Ieee
use Rattle.std.specs.Float.Ieee.Scale.{finite}
use borrow.Author.Tests.{eqb-true, eqb-false, leb-true, le-leb, ne_eqb, ltb-true, ltb-false}
use Rattle.laws.specs.Cases.{by_bool}
use Rattle.laws.specs.Loops.{over}
use Rattle.float.specs.Standins.{negative}
use Rattle.text.specs.Digits.{digits_by, digits, value, value-digits}
use Rattle.text.specs.Ascii.{ascii}
use Rattle.number.specs.Number.{Hundredths, signed, hundredths, rounded_size, minus_text, fraction, decimal, num_text}

-- ---- the reader: an optional `-`, digits, and an optional point with one or two digits

-- a digit is a byte from `0` to `9`
abbrev pub is_digit : ℕ → Bool
is_digit b = nat_le (code "0") b && nat_le b (code "9")

-- the digits that a text begins with, and what follows them
unfoldable pub leading : List ℕ → List ℕ
leading [] = []
leading (b ∷ l) = let more = leading l in cond (is_digit b) (b ∷ more) []

unfoldable pub following : List ℕ → List ℕ
following [] = []
following (b ∷ l) = let more = following l in cond (is_digit b) more (b ∷ l)

-- a number and the text after it
pub record Read : Type 0 where
  pub number : Hundredths
  pub rest : List ℕ

abbrev pub read_as : Bool → ℕ → List ℕ → Read
read_as minus n rest = record { number = record { minus = minus; size = n }; rest = rest }

-- the digits after the point, one or two, as hundredths
unfoldable pub decimals : Bool → ℕ → List ℕ → List ℕ → Option Read
decimals minus n (a ∷ []) rest = some (read_as minus (100 * n + 10 * (a - code "0")) rest)
decimals minus n (a ∷ b ∷ []) rest = some (read_as minus (100 * n + (10 * (a - code "0") + (b - code "0"))) rest)
decimals minus n [] rest = none
decimals minus n (a ∷ b ∷ c ∷ l) rest = none

-- after the whole part n
unfoldable pub point : Bool → ℕ → List ℕ → Option Read
point minus n [] = some (read_as minus (100 * n) [])
point minus n (b ∷ l) = cond (b == (code ".")) (decimals minus n (leading l) (following l)) (some (read_as minus (100 * n) (b ∷ l)))

-- after the sign: at least one digit
unfoldable pub unsigned : Bool → List ℕ → Option Read
unsigned minus l = cond (length (leading l) == 0) none (point minus (value (leading l)) (following l))

-- the number that a text begins with
unfoldable pub read_number : List ℕ → Option Read
read_number [] = none
read_number (b ∷ l) = cond (b == (code "-")) (unsigned true l) (unsigned false (b ∷ l))

-- ---- digits
abbrev pub AllDigits : List ℕ → Type 0
AllDigits [] = Unit {0}
AllDigits (d ∷ ds) = (is_digit d ≡ true) × AllDigits ds

join : (xs ys : List ℕ) → AllDigits xs → AllDigits ys → AllDigits (xs ++ ys)
join [] ys p q = q
join (x ∷ xs) ys p q = (p.0, join xs ys p.1 q)

pub digit_is : (n : ℕ) → n < 10 → is_digit (48 + n) ≡ true
digit_is n h = rw (le-leb 48 (48 + n) (omega arith), le-leb (48 + n) 57 (omega arith))

by_all : (f n : ℕ) → n ≤ f → AllDigits (digits_by f n)
unfolding digits_by
by_all zero n h = (digit_is n (omega arith), tt)
by_all (suc f) n h = go (nat_lt n 10) refl (by_all f (n / 10))
  where
    go : (t : Bool) → nat_lt n 10 ≡ t → (n / 10 ≤ f → AllDigits (digits_by f (n / 10))) → AllDigits (cond t ((48 + n) ∷ []) (digits_by f (n / 10) ++ ((48 + n % 10) ∷ [])))
    go true e ih = (digit_is n (ltb-true n 10 e), tt)
    go false e ih = let w : 10 ≤ n = ltb-false n 10 e in join (digits_by f (n / 10)) ((48 + n % 10) ∷ []) (ih (omega arith)) (digit_is (n % 10) (omega arith), tt)

pub digits-all : (n : ℕ) → AllDigits (digits n)
unfolding digits
digits-all n = by_all n n (le_refl n)

some_by : (f n : ℕ) → 0 < length (digits_by f n)
unfolding digits_by
some_by zero n = omega arith
some_by (suc f) n = go (nat_lt n 10)
  where
    go : (t : Bool) → 0 < length (cond t ((48 + n) ∷ []) (digits_by f (n / 10) ++ ((48 + n % 10) ∷ [])))
    go true = omega arith
    go false = rw (length-append (digits_by f (n / 10)) ((48 + n % 10) ∷ [])) (omega arith)

pub some_digit : (n : ℕ) → 0 < length (digits n)
unfolding digits
some_digit n = some_by n n

-- a text that does not go on with a digit; nor with a point
abbrev pub NoDigit : List ℕ → Type 0
NoDigit [] = Unit {0}
NoDigit (b ∷ l) = is_digit b ≡ false

abbrev pub NumberEnds : List ℕ → Type 0
NumberEnds [] = Unit {0}
NumberEnds (b ∷ l) = (is_digit b ≡ false) × ((b == (code ".")) ≡ false)

stops : (l : List ℕ) → NoDigit l → (leading l ≡ []) × (following l ≡ l)
unfolding leading following
stops [] h = (refl, refl)
stops (b ∷ l) h = (rw h, rw h)

pub digits-split : (ds l : List ℕ) → AllDigits ds → NoDigit l → (leading (ds ++ l) ≡ ds) × (following (ds ++ l) ≡ l)
unfolding leading following
digits-split [] l p h = unfold leading following in (stops l h)
digits-split (d ∷ ds) l p h = let r = digits-split ds l p.1 h in (rw p.0 (ap (λ (x : List ℕ). d ∷ x) r.0), rw p.0 r.1)

-- ---- reading back

-- whatever ends a number is no digit
no_digit : (l : List ℕ) → NumberEnds l → NoDigit l
no_digit [] h = tt
no_digit (b ∷ l) h = h.0

-- after the whole part n: nothing, or the point and one or two digits
module _ (minus : Bool) (n : ℕ) (rest : List ℕ) where
  none_back : NumberEnds rest → point minus n rest ≡ some (read_as minus (100 * n) rest)
  unfolding point
  none_back = go rest
    where
      go : (l : List ℕ) → NumberEnds l → point minus n l ≡ some (read_as minus (100 * n) l)
      go [] h = refl
      go (b ∷ l) h = rw h.1

  one_back : (a : ℕ) → is_digit a ≡ true → NoDigit rest → point minus n (46 ∷ a ∷ rest) ≡ some (read_as minus (100 * n + 10 * (a - 48)) rest)
  unfolding point decimals
  one_back a h k = let s = digits-split (a ∷ []) rest (h, tt) k in rw (s.0, s.1)

  two_back : (a b : ℕ) → is_digit a ≡ true → is_digit b ≡ true → NoDigit rest → point minus n (46 ∷ a ∷ b ∷ rest) ≡ some (read_as minus (100 * n + (10 * (a - code "0") + (b - code "0"))) rest)
  unfolding point decimals
  two_back a b h i k = let s = digits-split (a ∷ b ∷ []) rest (h, (i, tt)) k in rw (s.0, s.1)

  fraction_back : (f : ℕ) → f < 100 → NumberEnds rest → point minus n (fraction f ++ rest) ≡ some (read_as minus (100 * n + f) rest)
  unfolding fraction
  fraction_back f h k =
      let read : ℕ → Option Read = λ i. some (read_as minus i rest) in
      by_bool (f == 0)
      (λ (e : nat_eq f 0 ≡ true). rw e (none_back k ∙ ap read (omega (arith, eqb-true f 0 e))))
      (λ (e : nat_eq f 0 ≡ false). by_bool (f % 10 == 0)
      (λ (g : nat_eq (f % 10) 0 ≡ true). rw (e, g) (one_back (48 + f / 10) (digit_is (f / 10) (omega arith)) (no_digit rest k) ∙ ap read (omega (arith, eqb-true (f % 10) 0 g))))
      (λ (g : nat_eq (f % 10) 0 ≡ false). rw (e, g) (two_back (48 + f / 10) (48 + f % 10) (digit_is (f / 10) (omega arith)) (digit_is (f % 10) (omega arith)) (no_digit rest k) ∙ ap read (omega arith))))

-- what stands after the whole part begins with no digit
fraction_ends : (f : ℕ) (rest : List ℕ) → NumberEnds rest → NoDigit (fraction f ++ rest)
unfolding fraction
fraction_ends f rest h =
    by_bool (f == 0) (λ (e : nat_eq f 0 ≡ true). rw e (no_digit rest h))
    (λ (e : nat_eq f 0 ≡ false). by_bool (f % 10 == 0) (λ (g : nat_eq (f % 10) 0 ≡ true). rw (e, g) refl) (λ (g : nat_eq (f % 10) 0 ≡ false). rw (e, g) refl))

whole_back : (minus : Bool) (n : ℕ) (l : List ℕ) → NoDigit l → unsigned minus (digits n ++ l) ≡ point minus n l
unfolding unsigned
whole_back minus n l h =
    let s = digits-split (digits n) l (digits-all n) h in
    let z : length (digits n) ≡ 0 → ⊥ = λ e. omega (arith, some_digit n) in
    rw (s.0, s.1, ne_eqb _ _ z, value-digits n)

no_minus : (ds l : List ℕ) → AllDigits ds → 0 < length ds → read_number (ds ++ l) ≡ unsigned false (ds ++ l)
unfolding read_number
no_minus [] l p h = absurd (omega arith)
no_minus (d ∷ ds) l p h = rw (ne_eqb d 45 (λ (e : d ≡ 45). true≢false (sym p.0 ∙ ap is_digit e)))

after-sign : (minus : Bool) (ds l : List ℕ) → AllDigits ds → 0 < length ds → read_number (minus_text minus ++ (ds ++ l)) ≡ unsigned minus (ds ++ l)
unfolding minus_text read_number
after-sign true ds l p h = refl
after-sign false ds l p h = unfold read_number in (no_minus ds l p h)

-- What is written of h hundredths, with any text after it that ends a number, is read as h, with that text left.
pub decimal_back : (h : Hundredths) (rest : List ℕ) → NumberEnds rest → read_number (decimal h ++ rest) ≡ some (record { number = h; rest = rest })
unfolding decimal
decimal_back h rest k =
    let m = minus_text h.minus in
    let ds = digits (h.size / 100) in
    let f = fraction (h.size % 100) in
    let e : m ++ ds ++ f ++ rest ≡ m ++ (ds ++ (f ++ rest)) = simp append_assoc in
    ap read_number e
    ∙ after-sign h.minus ds (f ++ rest) (digits-all (h.size / 100)) (some_digit (h.size / 100))
    ∙ whole_back h.minus (h.size / 100) (f ++ rest) (fraction_ends (h.size % 100) rest k)
    ∙ fraction_back h.minus (h.size / 100) rest (h.size % 100) (omega arith) k
    ∙ ap (λ (n : ℕ). some (read_as h.minus n rest)) (omega arith)

pub num_back : (v : Float) (rest : List ℕ) → NumberEnds rest → read_number (num_text v ++ rest) ≡ some (record { number = hundredths v; rest = rest })
unfolding num_text
num_back v rest h = decimal_back (hundredths v) rest h

-- ---- a written number begins with a byte from `-` on: no white space
abbrev pub Begins : List ℕ → Type 0
Begins [] = ⊥
Begins (b ∷ l) = nat_le (code "-") b ≡ true

digit_low : (b : ℕ) → is_digit b ≡ true → 48 ≤ b
digit_low b h = by_bool (nat_le 48 b) (λ (e : leb 48 b ≡ true). leb-true 48 b e) (λ (e : leb 48 b ≡ false). absurd (true≢false (sym h ∙ rw e)))

digits-begin : (ds l : List ℕ) → AllDigits ds → 0 < length ds → Begins (ds ++ l)
digits-begin [] l p h = absurd (omega arith)
digits-begin (d ∷ ds) l p h = le-leb 45 d (omega (arith, digit_low d p.0))

sign_begins : (minus : Bool) (l : List ℕ) → Begins l → Begins (minus_text minus ++ l)
unfolding minus_text
sign_begins true l h = refl
sign_begins false l h = h

pub num_begins : (v : Float) (rest : List ℕ) → Begins (num_text v ++ rest)
unfolding num_text decimal
num_begins v rest =
    let h = hundredths v in
    let m = minus_text h.minus in
    let ds = digits (h.size / 100) in
    let f = fraction (h.size % 100) in
    let e : m ++ ds ++ f ++ rest ≡ m ++ (ds ++ (f ++ rest)) = simp append_assoc in
    rw e (sign_begins h.minus (ds ++ (f ++ rest)) (digits-begin ds (f ++ rest) (digits-all (h.size / 100)) (some_digit (h.size / 100))))

-- ---- what stands after the first point: nothing, as there is none; or one or two digits of which the last is not `0`
unfoldable pub after_point : List ℕ → Option (List ℕ)
after_point [] = none
after_point (b ∷ l) = let later = after_point l in cond (b == (code ".")) (some l) later

abbrev pub tidy : Option (List ℕ) → Bool
tidy none = true
tidy (some []) = false
tidy (some (a ∷ [])) = is_digit a && not (a == (code "0"))
tidy (some (a ∷ b ∷ [])) = is_digit a && (is_digit b && not (b == (code "0")))
tidy (some (a ∷ b ∷ c ∷ l)) = false

skip : (ds l : List ℕ) → AllDigits ds → after_point (ds ++ l) ≡ after_point l
unfolding after_point
skip [] l p = refl
skip (d ∷ ds) l p = rw (ne_eqb d 46 (λ (e : d ≡ 46). true≢false (sym p.0 ∙ ap is_digit e))) (skip ds l p.1)

skip-minus : (minus : Bool) (l : List ℕ) → after_point (minus_text minus ++ l) ≡ after_point l
unfolding minus_text after_point
skip-minus true l = refl
skip-minus false l = refl

tidy-fraction : (f : ℕ) → f < 100 → tidy (after_point (fraction f)) ≡ true
unfolding fraction after_point
tidy-fraction f h =
    by_bool (f == 0) (λ (e : nat_eq f 0 ≡ true). rw e)
    (λ (e : nat_eq f 0 ≡ false). by_bool (f % 10 == 0)
    (λ (g : nat_eq (f % 10) 0 ≡ true). rw (e, g, digit_is (f / 10) (omega arith), ne_eqb (48 + f / 10) 48 (λ (z : 48 + f / 10 ≡ 48). eqb-false f 0 e (omega (arith, eqb-true (f % 10) 0 g)))))
    (λ (g : nat_eq (f % 10) 0 ≡ false). rw (e, g, digit_is (f / 10) (omega arith), digit_is (f % 10) (omega arith), ne_eqb (48 + f % 10) 48 (λ (z : 48 + f % 10 ≡ 48). eqb-false (f % 10) 0 g (omega arith)))))

-- "no trailing zeros", nor a trailing point, and "at most two decimals"
pub num_tidy : (v : Float) → tidy (after_point (num_text v)) ≡ true
unfolding num_text decimal
num_tidy v =
    let h = hundredths v in
    let m = minus_text h.minus in
    let ds = digits (h.size / 100) in
    let f = fraction (h.size % 100) in
    let e : m ++ ds ++ f ≡ m ++ (ds ++ f) = append_assoc m ds f in
    ap (λ (l : List ℕ). tidy (after_point l)) e
    ∙ ap tidy (skip-minus h.minus (ds ++ f) ∙ skip ds f (digits-all (h.size / 100)))
    ∙ tidy-fraction (h.size % 100) (omega arith)

-- "never -0": no hundredths are `0`, whatever the sign
pub num_text_zero : (v : Float) → rounded_size v ≡ 0 → num_text v ≡ ascii "0"
unfolding num_text decimal minus_text fraction digits digits_by
num_text_zero v e = go (negative v) (rounded_size v) e
  where
    go : (s : Bool) (n : ℕ) → n ≡ 0 → decimal (signed s n) ≡ ascii "0"
    go true n e = rw e
    go false n e = rw e

-- "not finite gives `0`": infinities of both signs and NaN
pub not_finite_zero : (v : Float) → finite v ≡ false → num_text v ≡ ascii "0"
not_finite_zero v e = num_text_zero v (none v e)
  where
    none : (v : Float) → finite v ≡ false → rounded_size v ≡ 0
    none nan e = unfold rounded_size Ieee.lt Ieee.of_bits in refl
    none (inf s) e = unfold rounded_size Ieee.lt Ieee.of_bits in refl
    none (fin s m x) e = absurd (true≢false e)

size_read : Option Read → ℕ
size_read none = 0
size_read (some r) = r.number.size

pub never_minus_zero : (v : Float) → num_text v ≢ ascii "-0"
unfolding read_number unsigned point leading following value over size_read
never_minus_zero v e =
    let z : rounded_size v ≡ 0 = sym (ap size_read (num_back v [] tt)) ∙ ap (λ (l : List ℕ). size_read (read_number (l ++ []))) e in
    let w : ascii "0" ≡ ascii "-0" = sym (num_text_zero v z) ∙ e in
    omega (arith, ap length w)
