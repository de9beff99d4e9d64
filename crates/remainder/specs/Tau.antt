-- `rem` by TAU, by whole numbers: the significand, shifted up, modulo TAU's. Assumes nothing.
use Rattle.std.specs.Prelude.{◌≡◌, refl, Bool, true, false, T, ltb, ℤ, pos, negsuc, Float}
use Rattle.std.proofs.Common.{sym, ap, ◌∙◌, subst, subst₂, mul-pos, mul_assoc, add-mul, add-sub_of_le, mod-eq_of_lt, lt_of_mul-lt-mul_right, mul-lt-mul_of_pos_right, mul-le-mul_right, arith, le-ltb, pow-add, pow_pos}
use Prim.Native.Nat.{ℕ, zero, suc, ◌+◌, ◌-◌, ◌*◌, ◌/◌, ◌%◌, ◌^◌, ◌≤◌, ◌<◌, compare}
use Rattle.std.proofs.Math.Nat.{eq_of_mul-eq-mul_right, mod-eq-sub-mod}
use Rattle.std.specs.Float.{nan, inf, fin, binary64}
use Rattle.std.specs.Float.Ieee.{up, down, fits, to_bits, of_bits, of_fields, of_int, round, units, odd}
use Rattle.std.specs.Float.Ieee as Ieee
use Rattle.std.specs.Float.Ieee.Bits.{of_bits-to_bits}
use Rattle.std.specs.Float.Ieee.Exact.{HasValue}
use Rattle.std.specs.Float.Ieee.Fits.{down_pos}
use Rattle.std.specs.Float.Ieee.Back.{round_whole}
use Rattle.std.specs.Float.Ieee.Scale.{round_same}
use Rattle.laws.specs.Cases.{by_bool, by_lt}
use Rattle.root.specs.Rounded.{magnitude, bits-value}
use Rattle.root.specs.Closest.{magnitude-lt}
use Rattle.remainder.specs.Modulo.{mod-scale}
use Rattle.remainder.specs.Unique.{fits_sign, signed-bits, finite_bits, size-bits, big, round_own}

-- TAU, its significand of 53 places, and the same with no zeros at its end
abbrev pub τ : Float
τ = of_bits binary64 0x401921fb54442d18

abbrev pub significand : ℕ
significand = 7074237752028440

abbrev core : ℕ
core = 884279719003555

-- the bits of TAU, of 2 TAU and of infinity
abbrev pub tau_bits : ℕ
tau_bits = 0x401921fb54442d18

abbrev pub twice_bits : ℕ
twice_bits = 0x402921fb54442d18

abbrev pub infinity_bits : ℕ
infinity_bits = 2047 * 2 ^ 52

tau_is : τ ≡ fin false core (negsuc 46)
unfolding of_bits of_fields odd
tau_is = refl

rem-at : (s : Bool) (m : ℕ) (e : ℤ) → Ieee.rem binary64 (fin s m e) (fin false core (negsuc 46)) ≡ round binary64 s (m * up e * 2 ^ 47 % (core * down e)) (down e * 2 ^ 47)
unfolding Ieee.rem
rem-at s m e = refl

rem_is : (s : Bool) (m : ℕ) (e : ℤ) → Ieee.rem binary64 (fin s m e) τ ≡ round binary64 s (m * up e * 2 ^ 47 % (core * down e)) (down e * 2 ^ 47)
rem_is s m e = ap (Ieee.rem binary64 (fin s m e)) tau_is ∙ rem-at s m e

-- ---- whole numbers
-- x / d is the number, and M * 2 ^ k its size in units of 2 ^ -50
in_units : (x d M k : ℕ) → x * 2 ^ 1074 ≡ M * 2 ^ (k + 1024) * d → x * 2 ^ 50 ≡ M * 2 ^ k * d
in_units x d M k e =
    eq_of_mul-eq-mul_right (2 ^ 1024) (pow_pos 1024) (x * 2 ^ 50) (M * 2 ^ k * d)
    (mul_assoc x (2 ^ 50) (2 ^ 1024) ∙ e ∙ ap (λ (n : ℕ). M * n * d) (pow-add 2 k 1024) ∙ ring M (2 ^ k) (2 ^ 1024) d)
  where
    ring : (M a b d : ℕ) → M * (a * b) * d ≡ M * a * d * b
    ring M a b d = omega arith

eighths : (x : ℕ) → x * 2 ^ 47 * 8 ≡ x * 2 ^ 50
eighths x = omega arith

eighth : (y : ℕ) → y * 2 ^ 50 ≡ y * 8 * 2 ^ 47
eighth y = omega arith

modulo : (x d n : ℕ) → 0 < d → x * 2 ^ 50 ≡ n * d → x * 2 ^ 47 % (core * d) * 8 ≡ n % significand * d
modulo x d n p e =
    sym (mod-scale (x * 2 ^ 47) (core * d) 8 (omega arith) (omega arith))
    ∙ ap (λ (y : ℕ). y % (core * d * 8)) (eighths x ∙ e)
    ∙ ap (λ (y : ℕ). n * d % y) (whole d)
    ∙ mod-scale n significand d (omega arith) p
  where
    whole : (d : ℕ) → core * d * 8 ≡ significand * d
    whole d = omega arith

remainder_is : (x d n : ℕ) → 0 < d → x * 2 ^ 50 ≡ n * d → x * 2 ^ 47 % (core * d) * 2 ^ 50 ≡ n % significand * (d * 2 ^ 47)
remainder_is x d n p e = eighth (x * 2 ^ 47 % (core * d)) ∙ ap (λ (y : ℕ). y * 2 ^ 47) (modulo x d n p e) ∙ mul_assoc (n % significand) d (2 ^ 47)

-- ---- a difference from TAU on
at_least : (x d n : ℕ) → x * 2 ^ 50 ≡ n * d → significand ≤ n → core * d ≤ x * 2 ^ 47
at_least x d n e l = let h : significand * d ≤ n * d = mul-le-mul_right d l in omega arith

less_same : (x d n : ℕ) → x * 2 ^ 50 ≡ n * d → significand ≤ n → (x * 2 ^ 47 - core * d) * 2 ^ 50 ≡ (n - significand) * (d * 2 ^ 47)
less_same x d n e l =
    let k = n - significand in
    let p : n * d ≡ significand * d + k * d = ap (λ (y : ℕ). y * d) (sym (add-sub_of_le l)) ∙ add-mul significand k d in
    let q : (x * 2 ^ 47 - core * d) * 8 ≡ k * d = omega arith in
    eighth (x * 2 ^ 47 - core * d) ∙ ap (λ (y : ℕ). y * 2 ^ 47) q ∙ mul_assoc k d (2 ^ 47)

mod_once : (n c : ℕ) → c ≤ n → n < 2 * c → n % c ≡ n - c
mod_once n c l u = let h : n - c < c = omega arith in mod-eq-sub-mod l ∙ mod-eq_of_lt h

less_is : (m : ℕ) (e : ℤ) → core * down e ≤ m * up e * 2 ^ 47 → Ieee.sub binary64 (fin false m e) τ ≡ round binary64 false (m * up e * 2 ^ 47 - core * down e) (down e * 2 ^ 47)
less_is m e l = ap (Ieee.sub binary64 (fin false m e)) tau_is ∙ at m e l
  where
    at : (m : ℕ) (e : ℤ) → core * down e ≤ m * up e * 2 ^ 47 → Ieee.sub binary64 (fin false m e) (fin false core (negsuc 46)) ≡ round binary64 false (m * up e * 2 ^ 47 - core * down e) (down e * 2 ^ 47)
    at m e l = unfold Ieee.sub in unfold Ieee.add in unfold Ieee.neg in unfold Ieee.sum in rw (le-ltb (m * up e * 2 ^ 47) (core * down e) l)

-- ---- from TAU on, by the bits
-- the number with the bits b, in units of 2 ^ -50
abbrev pub shifted_bits : ℕ → ℕ
shifted_bits b = (2 ^ 52 + b % 2 ^ 52) * 2 ^ (b / 2 ^ 52 - 1025)

module _ (b : ℕ) (l : tau_bits ≤ b) where
  shifted_is : (x d : ℕ) → x * 2 ^ 1074 ≡ magnitude b * d → x * 2 ^ 50 ≡ shifted_bits b * d
  shifted_is x d e =
      let k = b / 2 ^ 52 - 1025 in
      let h : b / 2 ^ 52 ≡ suc (k + 1024) = omega arith in
      in_units x d (2 ^ 52 + b % 2 ^ 52) k (e ∙ ap (λ (n : ℕ). n * d) (big b (k + 1024) h))

  rem-shifted : (x : Float) → HasValue x false (magnitude b) (2 ^ 1074) → Ieee.rem binary64 x τ ≡ round binary64 false (shifted_bits b % significand) (2 ^ 50)
  rem-shifted nan h = absurd h
  rem-shifted (inf s) h = absurd h
  rem-shifted (fin true m e) h = absurd (subst T h.0 tt)
  rem-shifted (fin false m e) h =
      rem_is false m e
      ∙ round_same binary64 false (m * up e * 2 ^ 47 % (core * down e)) (down e * 2 ^ 47) (shifted_bits b % significand) (2 ^ 50) (mul-pos (down_pos e) (pow_pos 47)) (pow_pos 50)
      (remainder_is (m * up e) (down e) (shifted_bits b) (down_pos e) (shifted_is (m * up e) (down e) h.1))

  pub rem_from : b < infinity_bits → round binary64 false (shifted_bits b % significand) (2 ^ 50) ≡ Ieee.rem binary64 (of_bits binary64 b) τ
  rem_from u = sym (rem-shifted (of_bits binary64 b) (bits-value b u))

  -- below 2 TAU the significand goes once
  once : b < twice_bits → (significand ≤ shifted_bits b) × (shifted_bits b < 2 * significand)
  once u =
      by_lt b (1026 * 2 ^ 52)
      (λ (h : b < 1026 * 2 ^ 52). let e : b / 2 ^ 52 - 1025 ≡ 0 = omega arith in rw e (omega arith, omega arith))
      (λ (h : 1026 * 2 ^ 52 ≤ b). let e : b / 2 ^ 52 - 1025 ≡ 1 = omega arith in rw e (omega arith, omega arith))

  less_shifted : b < twice_bits → (x : Float) → HasValue x false (magnitude b) (2 ^ 1074) → Ieee.sub binary64 x τ ≡ round binary64 false (shifted_bits b % significand) (2 ^ 50)
  less_shifted u nan h = absurd h
  less_shifted u (inf s) h = absurd h
  less_shifted u (fin true m e) h = absurd (subst T h.0 tt)
  less_shifted u (fin false m e) h =
      let n = shifted_bits b in
      let d = down e in
      let x = m * up e in
      let o = once u in
      let w : x * 2 ^ 50 ≡ n * d = shifted_is x d h.1 in
      let g : core * d ≤ x * 2 ^ 47 = at_least x d n w o.0 in
      less_is m e g
      ∙ round_same binary64 false (x * 2 ^ 47 - core * d) (d * 2 ^ 47) (n % significand) (2 ^ 50) (mul-pos (down_pos e) (pow_pos 47)) (pow_pos 50)
      (less_same x d n w o.0 ∙ ap (λ (r : ℕ). r * (d * 2 ^ 47)) (sym (mod_once n significand o.0 o.1)))

  pub rem_once : b < twice_bits → Ieee.sub binary64 (of_bits binary64 b) τ ≡ Ieee.rem binary64 (of_bits binary64 b) τ
  rem_once u = let f : b < infinity_bits = omega arith in less_shifted u (of_bits binary64 b) (bits-value b f) ∙ rem_from f

-- ---- below TAU
below : (x d n : ℕ) → x * 2 ^ 1074 ≡ n * d → n < significand * 2 ^ 1024 → 0 < d → x * 2 ^ 47 < core * d
below x d n e l p =
    down x d
    (lt_of_mul-lt-mul_right (2 ^ 1024) {m = x * 2 ^ 50} {n = significand * d}
    (subst₂ ◌<◌ (sym e ∙ sym (mul_assoc x (2 ^ 50) (2 ^ 1024))) (ring significand (2 ^ 1024) d) (mul-lt-mul_of_pos_right l p)))
  where
    ring : (a b d : ℕ) → a * b * d ≡ a * d * b
    ring a b d = omega arith

    down : (x d : ℕ) → x * 2 ^ 50 < significand * d → x * 2 ^ 47 < core * d
    down x d l = omega arith

pub rem-small : (s : Bool) (m : ℕ) (e : ℤ) → T (fits binary64 (fin s m e)) → to_bits binary64 (fin false m e) < tau_bits → fin s m e ≡ Ieee.rem binary64 (fin s m e) τ
rem-small s m e h l =
    let f = fits_sign s false m e h in
    let b = to_bits binary64 (fin false m e) in
    let x = m * up e in
    let d = down e in
    let t : magnitude 0x401921fb54442d18 ≡ significand * 2 ^ 1024 = refl in
    let z : x * 2 ^ 47 < core * d = below x d (magnitude b) (size-bits m e f) (subst (λ (n : ℕ). magnitude b < n) t (magnitude-lt b 0x401921fb54442d18 l)) (down_pos e) in
    sym
    (rem_is s m e
    ∙ ap (λ (n : ℕ). round binary64 s n (d * 2 ^ 47)) (mod-eq_of_lt z)
    ∙ round_same binary64 s (x * 2 ^ 47) (d * 2 ^ 47) x d (mul-pos (down_pos e) (pow_pos 47)) (down_pos e) (ring x d (2 ^ 47))
    ∙ round_own s m e h)
  where
    ring : (x d p : ℕ) → x * p * d ≡ x * (d * p)
    ring x d p = omega arith

-- ---- the result as a float: r / 2 ^ 50, with the sign
opposite : (q k : ℕ) → Ieee.neg (units binary64 false q k) ≡ units binary64 true q k
unfolding units Ieee.neg odd
opposite zero k = by_bool (ltb (zero * 2 ^ k) (2 ^ 2098)) (λ t. rw t) (λ t. rw t)
opposite (suc q) k = by_bool (ltb (suc q * 2 ^ k) (2 ^ 2098)) (λ t. rw t) (λ t. rw t)

pub neg-round : (n d : ℕ) → Ieee.neg (round binary64 false n d) ≡ round binary64 true n d
unfolding round
neg-round n d =
    let w = n * 2 ^ 1074 in
    let k = Ieee.size (w / d) - 53 in
    let u = d * 2 ^ k in
    opposite (Ieee.nearest (w / u) (compare (w % u * 2) u)) k

abbrev pub quotient : ℕ → Float
quotient r = Ieee.div binary64 (of_int binary64 (pos r)) (of_bits binary64 0x4310000000000000)

divisor_is : of_bits binary64 0x4310000000000000 ≡ fin false 1 (pos 50)
unfolding of_bits of_fields odd
divisor_is = refl

divided : (x : Float) (r : ℕ) → HasValue x false r 1 → Ieee.div binary64 x (fin false 1 (pos 50)) ≡ round binary64 false r (2 ^ 50)
unfolding Ieee.div
divided nan r h = absurd h
divided (inf s) r h = absurd h
divided (fin true m e) r h = absurd (subst T h.0 tt)
divided (fin false m e) r h =
    round_same binary64 false (m * up e * 1) (1 * 2 ^ 50 * down e) r (2 ^ 50) (mul-pos (pow_pos 50) (down_pos e)) (pow_pos 50)
    (ap (λ (n : ℕ). n * 2 ^ 50) h.1 ∙ ring r (down e))
  where
    ring : (r d : ℕ) → r * d * 2 ^ 50 ≡ r * (2 ^ 50 * d)
    ring r d = omega arith

pub quotient_is : (r : ℕ) → r ≤ 2 ^ 53 → quotient r ≡ round binary64 false r (2 ^ 50)
unfolding of_int
quotient_is r h = ap (Ieee.div binary64 (round binary64 false r 1)) divisor_is ∙ divided (round binary64 false r 1) r (round_whole binary64 false r h)

pub small-enough : (n r : ℕ) → r ≡ n % significand → r ≤ 2 ^ 53
small-enough n r e = omega arith

-- ---- a float by its bits
pub rem_nan : nan ≡ Ieee.rem binary64 nan τ
unfolding Ieee.rem
rem_nan = refl

low_is : (s : Bool) (m : ℕ) (e : ℤ) → T (fits binary64 (fin s m e)) → to_bits binary64 (fin s m e) % 2 ^ 63 ≡ to_bits binary64 (fin false m e)
low_is true m e h = omega (arith, signed-bits m e, finite_bits m e (fits_sign true false m e h))
low_is false m e h = omega (arith, finite_bits m e h)

infinite_bits : (s : Bool) → to_bits binary64 (inf s) % 2 ^ 63 ≡ infinity_bits
unfolding to_bits
infinite_bits true = refl
infinite_bits false = refl

nan_itself : Ieee.ne nan nan ≡ false → ⊥
unfolding Ieee.ne Ieee.eq
nan_itself e = subst T e tt

pub small_is : (v : Float) → T (fits binary64 v) → Ieee.ne v v ≡ false → to_bits binary64 v % 2 ^ 63 < tau_bits → v ≡ Ieee.rem binary64 v τ
small_is nan h n l = absurd (nan_itself n)
small_is (inf s) h n l = absurd (omega (arith, infinite_bits s))
small_is (fin s m e) h n l = rem-small s m e h (omega (arith, low_is s m e h))

pub infinite_is : (v : Float) → T (fits binary64 v) → Ieee.ne v v ≡ false → infinity_bits ≤ to_bits binary64 v % 2 ^ 63 → Ieee.sub binary64 v v ≡ Ieee.rem binary64 v τ
unfolding Ieee.sub Ieee.add Ieee.neg Ieee.rem
infinite_is nan h n l = absurd (nan_itself n)
infinite_is (inf true) h n l = refl
infinite_is (inf false) h n l = refl
infinite_is (fin s m e) h n l = absurd (omega (arith, low_is s m e h, finite_bits m e (fits_sign s false m e h)))

-- from TAU on, the remainder of the number without its sign has the sign put on
neg-rem : (m : ℕ) (e : ℤ) → Ieee.neg (Ieee.rem binary64 (fin false m e) τ) ≡ Ieee.rem binary64 (fin true m e) τ
neg-rem m e = ap Ieee.neg (rem_is false m e) ∙ neg-round (m * up e * 2 ^ 47 % (core * down e)) (down e * 2 ^ 47) ∙ sym (rem_is true m e)

pub plus_is : (v : Float) (z : ℕ) → T (fits binary64 v) → to_bits binary64 v ≡ z → Ieee.rem binary64 (of_bits binary64 z) τ ≡ Ieee.rem binary64 v τ
plus_is v z h e = ap (λ (x : Float). Ieee.rem binary64 x τ) (ap (of_bits binary64) (sym e) ∙ of_bits-to_bits binary64 v h)

pub minus_is : (v : Float) (z : ℕ) → T (fits binary64 v) → Ieee.ne v v ≡ false → z ≡ to_bits binary64 v % 2 ^ 63 → z < infinity_bits
    → (to_bits binary64 v ≡ z → ⊥) → Ieee.neg (Ieee.rem binary64 (of_bits binary64 z) τ) ≡ Ieee.rem binary64 v τ
minus_is nan z h n e u p = absurd (nan_itself n)
minus_is (inf s) z h n e u p = absurd (omega (arith, infinite_bits s))
minus_is (fin false m x) z h n e u p = absurd (p (sym (e ∙ low_is false m x h)))
minus_is (fin true m x) z h n e u p =
    ap (λ (y : Float). Ieee.neg (Ieee.rem binary64 y τ))
    (ap (of_bits binary64) (e ∙ low_is true m x h) ∙ of_bits-to_bits binary64 (fin false m x) (fits_sign true false m x h))
    ∙ neg-rem m x
