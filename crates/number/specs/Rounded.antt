-- Below 10^13 the hundredths are the whole number that v · 100, rounded, is. Assumes nothing.
use Rattle.std.specs.Prelude.{◌≡◌, ℕ, zero, suc, ◌+◌, ◌-◌, ◌*◌, ◌/◌, ◌%◌, ◌^◌, ◌<◌, ◌≤◌, Bool, true, false, not, ◌&&◌, ◌||◌, T, ltb, ℤ, pos, ◌==◌, nat_eq, nat_lt, Float}
use Rattle.std.proofs.Common.{sym, ◌∙◌, subst, true≢false, div-lt_iff_lt-mul, mul-one, mul-le-mul_right, arith, ltb-true, ltb-false, lt-ltb, eqb-true, lt→ltb, le→leb}
use Prim.Native.Nat.{compare}
use Rattle.std.proofs.lemmas.Bool.{eqb-false}
use Rattle.std.specs.Float.{nan, inf, fin}
use Rattle.std.specs.Float.Ieee.{up, down, binary64, of_bits, of_int, in_float, to_unsigned}
use Rattle.std.specs.Float.Ieee as Ieee
use Rattle.std.specs.Float.Ieee.Back.{round_whole, unsigned_back}
use Rattle.std.specs.Float.Ieee.Exact.{HasValue}
use Rattle.std.specs.Float.Ieee.Fits.{down_pos}
use Rattle.std.specs.Float.Ieee.Order.{round_mono}
use Rattle.std.specs.Float.Ieee.Scale.{finite}
use Rattle.laws.specs.Cases.{by_bool}
use Rattle.float.specs.Ops.{◌⊗◌, lt, le}
use Rattle.float.specs.Constants.{f100, f1e13}
use Rattle.float.specs.Standins.{negative, abs, half_up, round}
use Rattle.number.specs.Number.{rounded_size, writable}

-- ---- the sign of a rounded number is that of the exact one, and its size is that of the exact size
abs_units : (s : Bool) (q k : ℕ) → (abs (Ieee.units binary64 s q k) ≡ Ieee.units binary64 false q k) × (negative (Ieee.units binary64 s q k) ≡ s)
unfolding Ieee.units Ieee.odd
abs_units s zero k = by_bool (nat_lt (zero * 2 ^ k) (2 ^ 2098)) (λ t. (rw t, rw t)) (λ t. (rw t, rw t))
abs_units s (suc q) k = by_bool (nat_lt (suc q * 2 ^ k) (2 ^ 2098)) (λ t. (rw t, rw t)) (λ t. (rw t, rw t))

abs-round : (s : Bool) (n d : ℕ) → (abs (Ieee.round binary64 s n d) ≡ Ieee.round binary64 false n d) × (negative (Ieee.round binary64 s n d) ≡ s)
unfolding Ieee.round
abs-round s n d =
    let w = n * 2 ^ 1074 in
    let k = Ieee.size (w / d) - 53 in
    let u = d * 2 ^ k in
    abs_units s (Ieee.nearest (w / u) (compare (w % u * 2) u)) k

-- ---- below 10^13 the hundredths are at most 10^15
half_bound : (a d : ℕ) → 0 < d → a ≤ 10 ^ 15 * d → half_up a d ≤ 10 ^ 15
half_bound a d p h =
    let l : half_up a d < 10 ^ 15 + 1 = (div-lt_iff_lt-mul {k = 2 * d} {x = 2 * a + d} {y = 10 ^ 15 + 1} (omega arith)).1 (omega arith) in
    omega arith

below_e13 : (m : ℕ) (e : ℤ) → lt (fin false m e) f1e13 ≡ true → m * up e < 10 ^ 13 * down e
unfolding of_bits Ieee.lt
below_e13 m e h = omega (arith, ltb-true (m * up e * 1) (1220703125 * 2 ^ 13 * down e) h)

-- a finite number of size at most 10^15
abbrev AtMost : Float → Type 0
AtMost nan = ⊥
AtMost (inf s) = ⊥
AtMost (fin s m e) = m * up e ≤ 10 ^ 15 * down e

abbrev e15 : Float
e15 = fin false 30517578125 (pos 15)

at_most : (x : Float) → T (le (abs x) e15) → AtMost x
unfolding Ieee.le Ieee.lt Ieee.eq
at_most nan h = h
at_most (inf t) h = h
at_most (fin t m e) h =
    let a = m * up e * 1 in
    let b = 30517578125 * 2 ^ 15 * down e in
    by_bool (nat_lt a b) (λ (l : ltb a b ≡ true). omega (arith, ltb-true a b l))
    (λ (l : ltb a b ≡ false). by_bool (a == b) (λ (k : nat_eq a b ≡ true). omega (arith, eqb-true a b k)) (λ (k : nat_eq a b ≡ false). absurd (rw (l, k) at h)))

times100 : (s : Bool) (m : ℕ) (e : ℤ) → fin s m e ⊗ f100 ≡ Ieee.round binary64 s (m * up e * 100) (down e)
unfolding of_bits Ieee.mul
times100 true m e = rw (mul-one (down e))
times100 false m e = rw (mul-one (down e))

within : (s : Bool) (m : ℕ) (e : ℤ) → lt (fin false m e) f1e13 ≡ true → AtMost (fin s m e ⊗ f100)
within s m e h =
    let a = m * up e * 100 in
    let l : m * up e < 10 ^ 13 * down e = below_e13 m e h in
    let r : T (le (Ieee.round binary64 false a (down e)) e15) = top a (down e) (down_pos e) (omega arith) in
    rw (times100 s m e) (at_most (Ieee.round binary64 s a (down e)) (rw (abs-round s a (down e)).0 r))
  where
    top : (a d : ℕ) → 0 < d → a * 1 ≤ 10 ^ 15 * d → T (le (Ieee.round binary64 false a d) e15)
    top a d p h = unfold Ieee.round in (round_mono binary64 a d (10 ^ 15) 1 p (omega arith) h)

-- ---- the whole number that x, rounded, is
abbrev whole_of : Float → ℕ
whole_of nan = 0
whole_of (inf s) = 0
whole_of (fin s m e) = half_up (m * up e) (down e)

record Whole (x : Float) : Type 0 where
  value : HasValue (round x) (negative x) (whole_of x) 1
  size : abs (round x) ≡ of_int binary64 (pos (whole_of x))
  size-value : HasValue (abs (round x)) false (whole_of x) 1
  small : whole_of x ≤ 10 ^ 15

whole : (x : Float) → AtMost x → Whole x
unfolding round of_int
whole nan h = absurd h
whole (inf s) h = absurd h
whole (fin s m e) h =
    let n = half_up (m * up e) (down e) in
    let l : n ≤ 10 ^ 15 = half_bound (m * up e) (down e) (down_pos e) h in
    let k : n ≤ 2 ^ 53 = omega arith in
    record {
      value = round_whole binary64 s n k;
      size = (abs-round s n 1).0;
      size-value = rw (abs-round s n 1).0 (round_whole binary64 false n k);
      small = l;
    }

-- ---- what the cast asks
castable : (x : Float) (n : ℕ) → HasValue x false n 1 → n ≤ 10 ^ 15 → T (lt (fin true 1 (pos 0)) x) × T (lt x (fin false 1 (pos 64)))
unfolding Ieee.lt
castable nan n p h = absurd p
castable (inf s) n p h = absurd p
castable (fin true m e) n p h = absurd (true≢false p.0)
castable (fin false m e) n p h =
    let d : 0 < down e = down_pos e in
    let l : n * down e ≤ 10 ^ 15 * down e = mul-le-mul_right (down e) h in
    (lt→ltb 0 (1 * 1 * down e + m * up e * 1) (omega arith), lt→ltb (m * up e * 1) (1 * 2 ^ 64 * down e) (omega (arith, p.1)))

-- Of a number below 10^13 in size: v · 100, rounded, is the whole number `size_of v` with the sign of v.
pub record HundredthsRounded (v : Float) : Type 0 where
  pub value : HasValue (round (v ⊗ f100)) (negative v) (rounded_size v) 1
  pub small : rounded_size v ≤ 10 ^ 15
  pub low : T (lt (fin true 1 (pos 0)) (abs (round (v ⊗ f100))))
  pub high : T (lt (abs (round (v ⊗ f100))) (fin false 1 (pos 64)))

same_sign : (s : Bool) (m : ℕ) (e : ℤ) → negative (fin s m e ⊗ f100) ≡ s
same_sign s m e = rw (times100 s m e) (abs-round s (m * up e * 100) (down e)).1

back : (n : ℕ) → n ≤ 10 ^ 15 → to_unsigned 64 (of_int binary64 (pos n)) ≡ n
unfolding in_float
back n h = (unsigned_back binary64 64 n (le→leb n (2 ^ 53) (omega arith)) (omega arith)).1

pub hundredths_rounded : (v : Float) → lt (abs v) f1e13 ≡ true → HundredthsRounded v
unfolding Ieee.lt
hundredths_rounded nan h = absurd (true≢false (sym h))
hundredths_rounded (inf s) h = absurd (unfold of_bits in (true≢false (sym h)))
hundredths_rounded (fin s m e) h =
    let v = fin s m e in
    let x = v ⊗ f100 in
    let w : Whole x = whole x (within s m e h) in
    let n : rounded_size v ≡ whole_of x = unfold rounded_size in (rw (h, w.size) (back (whole_of x) w.small)) in
    let c = castable (abs (round x)) (whole_of x) w.size-value w.small in
    record {
      value = rw n (subst (λ (b : Bool). HasValue (round x) b (whole_of x) 1) (same_sign s m e) w.value);
      small = rw n w.small;
      low = c.0;
      high = c.1;
    }

-- the same of any finite number that refusal 10 lets through
below : (x y : ℕ) → not (nat_lt y x || (y == x && true)) ≡ true → nat_lt x y ≡ true
below x y h =
    by_bool (nat_lt y x) (λ (e : ltb y x ≡ true). absurd (true≢false (sym h ∙ rw e)))
    (λ (e : ltb y x ≡ false). by_bool (y == x) (λ (g : nat_eq y x ≡ true). absurd (true≢false (sym h ∙ rw (e, g))))
    (λ (g : nat_eq y x ≡ false).
    let a : x ≤ y = ltb-false y x e in
    let b : y ≡ x → ⊥ = eqb-false y x g in
    lt-ltb x y (omega arith)))

pub writable_rounded : (v : Float) → writable v ≡ true → finite v ≡ true → HundredthsRounded v
unfolding Ieee.lt Ieee.le Ieee.eq of_bits
writable_rounded nan h f = absurd (true≢false (sym f))
writable_rounded (inf s) h f = absurd (true≢false (sym f))
writable_rounded (fin s m e) h f = hundredths_rounded (fin s m e) (unfold Ieee.lt Ieee.le Ieee.eq of_bits in (below (m * up e * 1) (10 ^ 13 * down e) h))
