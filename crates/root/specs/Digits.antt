-- The root of a * 2 ^ 52 taken digit by digit to the base 4, with numbers below 2 ^ 64 only. Assumes nothing.
use Rattle.std.specs.Prelude.{◌≡◌, refl, Bool, true, false, cond, ℕ, zero, suc, ◌+◌, ◌-◌, ◌*◌, ◌/◌, ◌%◌, ◌^◌, ◌≤◌, ◌<◌, leb, ltb}
use Rattle.std.proofs.Common.{sym, ap, ◌∙◌, subst, mul_assoc, mul_comm, mul-one, pow-suc, mul-le-mul, mul-le-mul_left, mul-le-mul_right, mul-lt-mul_of_pos_right, le_trans, lt_irrefl, lt_of_lt_of_le, arith, leb-true, leb-false, ltb-true, ltb-false, le-leb}
use Rattle.std.proofs.lemmas.Bool.{lt-leb}
use Rattle.root.specs.declared.Digits.{Digits}
use Rattle.root.specs.Root.{whole_root, nearest_root}
use Rattle.root.specs.Nearest.{whole_root_unique}

-- `Digits` is the root q of the digits taken so far, the remainder r, and the digits still to come, in the top places of x.
-- One digit: bring it down, and append 1 to the root if 4 q + 1 fits into the remainder, else 0.
abbrev pub digit_step : Digits → Digits
digit_step d =
    let down = 4 * d.r + d.x / 2 ^ 62 in
    let t = 4 * d.q + 1 in
    let rest = 4 * (d.x % 2 ^ 62) in
    cond (leb t down) (record { q = 2 * d.q + 1; r = down - t; x = rest }) (record { q = 2 * d.q; r = down; x = rest })

abbrev pub begin : ℕ → Digits
begin x = record { q = 0; r = 0; x = x }

-- with k digits to come, out of x0: what q and r are
pub record GoodDigits (x0 k q r x : ℕ) : Type 0 where
  pub value : ((q * q + r) * 2 ^ 64 + x) * 4 ^ k ≡ x0 * 4 ^ 53
  pub small : r ≤ 2 * q
  pub room : x < 2 ^ 64

abbrev pub Sound : ℕ → ℕ → Digits → Type 0
Sound x0 k d = GoodDigits x0 k d.q d.r d.x

four : (p k : ℕ) → 4 * p * 4 ^ k ≡ p * 4 ^ suc k
four p k = rw (pow-suc, mul_comm 4 p, mul_assoc, mul_comm 4 (4 ^ k))

-- the two outcomes of a digit
module _ (x0 k q r x : ℕ) (g : GoodDigits x0 (suc k) q r x) where
  one : 4 * q + 1 ≤ 4 * r + x / 2 ^ 62 → GoodDigits x0 k (2 * q + 1) (4 * r + x / 2 ^ 62 - (4 * q + 1)) (4 * (x % 2 ^ 62))
  one h =
      let e : ((2 * q + 1) * (2 * q + 1) + (4 * r + x / 2 ^ 62 - (4 * q + 1))) * 2 ^ 64 + 4 * (x % 2 ^ 62) ≡ 4 * ((q * q + r) * 2 ^ 64 + x) = omega arith in
      let s : r ≤ 2 * q = g.small in
      let w : x < 2 ^ 64 = g.room in
      record { value = ap (λ (n : ℕ). n * 4 ^ k) e ∙ four ((q * q + r) * 2 ^ 64 + x) k ∙ g.value; small = omega arith; room = omega arith }

  zero-digit : 4 * r + x / 2 ^ 62 < 4 * q + 1 → GoodDigits x0 k (2 * q) (4 * r + x / 2 ^ 62) (4 * (x % 2 ^ 62))
  zero-digit h =
      let e : (2 * q * (2 * q) + (4 * r + x / 2 ^ 62)) * 2 ^ 64 + 4 * (x % 2 ^ 62) ≡ 4 * ((q * q + r) * 2 ^ 64 + x) = omega arith in
      let w : x < 2 ^ 64 = g.room in
      record { value = ap (λ (n : ℕ). n * 4 ^ k) e ∙ four ((q * q + r) * 2 ^ 64 + x) k ∙ g.value; small = omega arith; room = omega arith }

pub step_sound : (x0 k : ℕ) (d : Digits) → Sound x0 (suc k) d → Sound x0 k (digit_step d)
step_sound x0 k d g = go (leb (4 * d.q + 1) (4 * d.r + d.x / 2 ^ 62)) refl
  where
    go : (b : Bool) → leb (4 * d.q + 1) (4 * d.r + d.x / 2 ^ 62) ≡ b → Sound x0 k (digit_step d)
    go true e = rw e (one x0 k d.q d.r d.x g (leb-true _ _ e))
    go false e = rw e (zero-digit x0 k d.q d.r d.x g (leb-false _ _ e))

pub begin_sound : (x0 : ℕ) → x0 < 2 ^ 64 → Sound x0 53 (begin x0)
begin_sound x0 h = record { value = refl_value; small = omega arith; room = h }
  where
    refl_value : ((0 * 0 + 0) * 2 ^ 64 + x0) * 4 ^ 53 ≡ x0 * 4 ^ 53
    refl_value = omega arith

-- no digit to come: q is the whole root, and r the remainder
pub sound_root : (a : ℕ) (d : Digits) → a < 2 ^ 54 → Sound (a * 1024) 0 d → (d.q ≡ whole_root (a * 2 ^ 52)) × (d.q * d.q + d.r ≡ a * 2 ^ 52)
sound_root a d h g = (whole_root_unique (a * 2 ^ 52) d.q (omega arith) (record { low = omega (arith, value); high = omega (arith, value, g.small) }), value)
  where
    value : d.q * d.q + d.r ≡ a * 2 ^ 52
    value = let e : ((d.q * d.q + d.r) * 2 ^ 64 + d.x) * 1 ≡ a * 1024 * 4 ^ 53 = g.value in omega (arith, g.room)

-- the nearest root by the remainder
pub digits_up : (n q r : ℕ) → q ≡ whole_root n → q * q + r ≡ n → q < r → q + 1 ≡ nearest_root n
unfolding nearest_root
digits_up n q r e f h = rw (← e, le-leb ((2 * q + 1) * (2 * q + 1)) (4 * n) (omega arith))

pub digits_stay : (n q r : ℕ) → q ≡ whole_root n → q * q + r ≡ n → r ≤ q → q ≡ nearest_root n
unfolding nearest_root
digits_stay n q r e f h = rw (← e, lt-leb ((2 * q + 1) * (2 * q + 1)) (4 * n) (omega arith))

-- ---- bounds for 64-bit words
pub pos4 : (k : ℕ) → 0 < 4 ^ k
pos4 zero = omega arith
pos4 (suc k) = let h : 0 < 4 ^ k = pos4 k in rw pow-suc (omega arith)

-- `omega` reads no number of more than 38 digits: by hand
too_big : (x0 p w s : ℕ) → x0 < 2 ^ 64 → 2 ^ 53 * 2 ^ 53 ≤ s → s * 2 ^ 64 ≤ p → p ≤ w → w ≡ x0 * 4 ^ 53 → ⊥
too_big x0 p w s h a b c d =
    let up : 2 ^ 53 * 2 ^ 53 * 2 ^ 64 ≤ w = le_trans (mul-le-mul_right (2 ^ 64) a) (le_trans b c) in
    let dn : w < 2 ^ 64 * 4 ^ 53 = subst (λ (n : ℕ). n < 2 ^ 64 * 4 ^ 53) (sym d) (mul-lt-mul_of_pos_right h (pos4 53)) in
    lt_irrefl w (lt_of_lt_of_le dn up)

pub root-lt : (x0 k q r x : ℕ) → GoodDigits x0 k q r x → x0 < 2 ^ 64 → q < 2 ^ 53
root-lt x0 k q r x g h = go (ltb q (2 ^ 53)) refl
  where
    part : (s t y : ℕ) → s * 2 ^ 64 ≤ (s + t) * 2 ^ 64 + y
    part s t y = omega arith

    go : (b : Bool) → ltb q (2 ^ 53) ≡ b → q < 2 ^ 53
    go true e = ltb-true q (2 ^ 53) e
    go false e =
        let p = (q * q + r) * 2 ^ 64 + x in
        let n : p ≤ p * 4 ^ k = subst (λ (m : ℕ). m ≤ p * 4 ^ k) (mul-one p) (mul-le-mul_left p (pos4 k)) in
        absurd (too_big x0 p (p * 4 ^ k) (q * q) h (mul-le-mul (ltb-false q (2 ^ 53) e) (ltb-false q (2 ^ 53) e)) (part (q * q) r x) n g.value)
