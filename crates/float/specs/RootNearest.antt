-- Of all binary64 numbers, `root v` is the one nearest to the exact square root of v, and the only such one. Assumes nothing.
use Rattle.std.specs.Prelude.{◌≡◌, true, false, not, ℕ, ◌+◌, ◌*◌, ◌^◌, ◌≤◌, ◌<◌, T, leb, Float}
use Rattle.std.proofs.Math.Path.{refl}
use Rattle.std.proofs.Common.{sym, ap, ◌∙◌, subst, true≢false, arith, ltb-true, leb-true, ne_eqb}
use Rattle.std.proofs.Math.Nat.{eq_of_mul-eq-mul_right}
use Rattle.std.specs.Float.{nan, inf, fin, binary64}
use Rattle.std.specs.Float.Ieee.{down, fits, is_nan, to_bits, of_bits}
use Rattle.std.specs.Float.Ieee as Ieee
use Rattle.std.specs.Float.Ieee.Exact.{HasValue}
use Rattle.std.specs.Float.Ieee.Fits.{down_pos, inf-fits}
use Rattle.std.specs.Float.Ieee.Bits.{of_bits-to_bits, to_bits-of_bits, of_bits-fits, nan_bits_is}
use Rattle.laws.specs.Cases.{by_bool, holds}
use Rattle.laws.specs.Between.{below_num}
use Rattle.root.specs.Root.{root_bits}
use Rattle.root.specs.Rounded.{magnitude, bits-value, root_under}
use Rattle.root.specs.Closest.{Closest, root_closest, closest_unique}
use Rattle.root.specs.Plain.{plain, Plain, root_plain, value-plain}
use Rattle.float.specs.Constants.{f0}
use Rattle.float.specs.Ops.{neg, lt}
use Rattle.float.specs.Standins.{negative, root, root_of}
use Rattle.float.specs.Laws.{not-below}
use Rattle.float.specs.TotalOrder.{plain_less}
use Rattle.float.specs.RootLaws.{root_is}
use Rattle.laws.specs.Nan.{is_num, no_nan_bits}
use Rattle.float.specs.Signs.{sign_bit}

-- ---- the special cases: zero and plus infinity give themselves; what is below zero, and NaN, give 0
pub root-zero : root f0 ≡ f0
unfolding root root_of to_bits of_bits is_nan
root-zero = refl

pub root_minus_zero : root (neg f0) ≡ neg f0
unfolding root root_of to_bits of_bits is_nan Ieee.neg
root_minus_zero = refl

pub root-infinity : root (inf false) ≡ inf false
unfolding root root_of to_bits is_nan
root-infinity = refl

pub root_minus_infinity : root (inf true) ≡ f0
unfolding root root_of to_bits is_nan
root_minus_infinity = refl

pub root_nan : root nan ≡ f0
unfolding root is_nan
root_nan = refl

below-negative : (v : Float) → lt v f0 ≡ true → negative v ≡ true
below-negative v l = by_bool (negative v) (λ s. s) (λ s. absurd (true≢false (sym l ∙ not-below v s)))

-- what has the bits of −0 is not below zero
not_minus_zero : (v : Float) → T (fits binary64 v) → lt v f0 ≡ true → to_bits binary64 v ≡ 2 ^ 63 → ⊥
not_minus_zero v h l e = true≢false (sym l ∙ ap (λ (x : Float). lt x f0) (sym (of_bits-to_bits binary64 v h) ∙ ap (of_bits binary64) e) ∙ at)
  where
    at : lt (of_bits binary64 (2 ^ 63)) f0 ≡ false
    at = unfold of_bits in unfold Ieee.lt in refl

pub root-negative : (v : Float) → T (fits binary64 v) → lt v f0 ≡ true → root v ≡ f0
unfolding root root_of
root-negative v h l =
    let n : Ieee.ne v v ≡ false = below_num v f0 (holds l) in
    let s : leb (2 ^ 63) (to_bits binary64 v) ≡ true = sign_bit v h n ∙ below-negative v l in
    let g : 2 ^ 63 ≤ to_bits binary64 v = leb-true (2 ^ 63) (to_bits binary64 v) s in
    let z : to_bits binary64 v ≡ 0 → ⊥ = λ e. omega arith in
    rw (is_num v n, ne_eqb (to_bits binary64 v) 0 z, ne_eqb (to_bits binary64 v) (2 ^ 63) (not_minus_zero v h l), s)

-- ---- finite floats with the sign clear, and their bits
above_plain : (v : Float) → T (fits binary64 v) → lt f0 v ≡ true → Plain v
unfolding Ieee.lt of_bits
above_plain v h l = record { held = h; clear = go v l }
  where
    go : (v : Float) → lt f0 v ≡ true → plain v ≡ true
    go nan l = absurd (true≢false (sym l))
    go (inf s) l = l
    go (fin true m e) l = absurd (true≢false (sym l))
    go (fin false m e) l = refl

bits-over : (x : Float) → Plain x → lt f0 x ≡ true → 0 < to_bits binary64 x
unfolding of_bits to_bits
bits-over x p l = ltb-true 0 (to_bits binary64 x) (sym (plain_less f0 x (record { held = of_bits-fits binary64 0; clear = refl }) p) ∙ l)

bits_under : (x : Float) → Plain x → lt x (inf false) ≡ true → to_bits binary64 x < 2047 * 2 ^ 52
unfolding to_bits
bits_under x p l = ltb-true (to_bits binary64 x) (2047 * 2 ^ 52) (sym (plain_less x (inf false) p (record { held = inf-fits binary64 false; clear = refl })) ∙ l)

bits_less : (x y : Float) → Plain x → Plain y → lt x y ≡ true → to_bits binary64 x < to_bits binary64 y
bits_less x y p q l = ltb-true (to_bits binary64 x) (to_bits binary64 y) (sym (plain_less x y p q) ∙ l)

-- a finite float is a whole count of units of 2 ^ −1074, which its bits give
pub in_units : (x : Float) → Plain x → lt x (inf false) ≡ true → HasValue x false (magnitude (to_bits binary64 x)) (2 ^ 1074)
in_units x p l = subst (λ (y : Float). HasValue y false (magnitude (to_bits binary64 x)) (2 ^ 1074)) (of_bits-to_bits binary64 x p.held) (bits-value (to_bits binary64 x) (bits_under x p l))

-- what has such a count is finite, and has no other
plain_by : (x : Float) (a n : ℕ) → T (fits binary64 x) → HasValue x false a n → Plain x
plain_by x a n h w = record { held = h; clear = value-plain x a n w }

value_finite : (x : Float) (a n : ℕ) → HasValue x false a n → lt x (inf false) ≡ true
unfolding Ieee.lt
value_finite nan a n w = absurd w
value_finite (inf s) a n w = absurd w
value_finite (fin s m e) a n w = refl

one_value : (x : Float) (a b n : ℕ) → HasValue x false a n → HasValue x false b n → a ≡ b
one_value nan a b n w z = absurd w
one_value (inf s) a b n w z = absurd w
one_value (fin s m e) a b n w z = eq_of_mul-eq-mul_right (down e) (down_pos e) a b (sym w.1 ∙ z.1)

value_is : (x : Float) (a : ℕ) → T (fits binary64 x) → HasValue x false a (2 ^ 1074) → a ≡ magnitude (to_bits binary64 x)
value_is x a h w = one_value x a (magnitude (to_bits binary64 x)) (2 ^ 1074) w (in_units x (plain_by x a (2 ^ 1074) h w) (value_finite x a (2 ^ 1074) w))

plain_some : (b : ℕ) → 0 < b → b < 2047 * 2 ^ 52 → root_plain b ≡ root_bits b
unfolding root_plain
plain_some b o l =
    let z : b ≡ 0 → ⊥ = λ e. omega arith in
    let m : b ≡ 2047 * 2 ^ 52 → ⊥ = λ e. omega arith in
    rw (ne_eqb b 0 z, ne_eqb b (2047 * 2 ^ 52) m)

-- ---- of a number above zero and below infinity
module _ (v : Float) (h : T (fits binary64 v)) (l : lt f0 v ≡ true) (u : lt v (inf false) ≡ true) where
  over : 0 < to_bits binary64 v
  over = bits-over v (above_plain v h l) l

  under : to_bits binary64 v < 2047 * 2 ^ 52
  under = bits_under v (above_plain v h l) u

  root_by_bits : root v ≡ of_bits binary64 (root_bits (to_bits binary64 v))
  root_by_bits =
      ap root (sym (of_bits-to_bits binary64 v h)) ∙ root_is.at (to_bits binary64 v) (omega (arith, under))
      ∙ ap (of_bits binary64) (plain_some (to_bits binary64 v) over under)

  root-bits : to_bits binary64 (root v) ≡ root_bits (to_bits binary64 v)
  root-bits =
      let r : root_bits (to_bits binary64 v) < 2047 * 2 ^ 52 = root_under (to_bits binary64 v) over under in
      let n : T (not (is_nan (of_bits binary64 (root_bits (to_bits binary64 v))))) = rw nan_bits_is at (no_nan_bits (root_bits (to_bits binary64 v)) r) in
      ap (to_bits binary64) root_by_bits ∙ to_bits-of_bits binary64 (root_bits (to_bits binary64 v)) (omega arith) n

  -- No binary64 number lies nearer to the exact square root of v than `root v`, nor as near: between `root v` and any other number,
  -- the midpoint lies beyond the exact root (`Closest` of crate root, by the numbers' bits).
  pub root_is_nearest : Closest (to_bits binary64 v) (to_bits binary64 (root v))
  root_is_nearest = subst (Closest (to_bits binary64 v)) (sym root-bits) (root_closest (to_bits binary64 v) over)

  -- No other float has this property.
  pub root_only : (r : Float) → T (fits binary64 r) → Closest (to_bits binary64 v) (to_bits binary64 r) → r ≡ root v
  root_only r f c =
      sym (of_bits-to_bits binary64 r f) ∙ ap (of_bits binary64) (closest_unique (to_bits binary64 v) (to_bits binary64 r) over c) ∙ sym root_by_bits

  root_fits : T (fits binary64 (root v))
  root_fits = subst (λ (x : Float). T (fits binary64 x)) (sym root_by_bits) (of_bits-fits binary64 (root_bits (to_bits binary64 v)))

  -- The same in numbers. In units of 2 ^ −1074, of which every finite binary64 is a whole count (`in_units`), v is n, `root v` is r, and another float c that is
  -- not negative is k (one that is negative lies further off than 0). The exact root is that of n · 2 ^ 1074. Where c is above `root v`, it lies below
  -- the midpoint of r and k, and where c is below, above it: nearer to `root v`.
  pub root-nearer : (c : Float) → T (fits binary64 c) → (n r k : ℕ) → HasValue v false n (2 ^ 1074) → HasValue (root v) false r (2 ^ 1074) → HasValue c false k (2 ^ 1074)
      → (lt (root v) c ≡ true → 4 * (n * 2 ^ 1074) < (r + k) * (r + k)) × (lt c (root v) ≡ true → (r + k) * (r + k) < 4 * (n * 2 ^ 1074))
  root-nearer c f n r k x y z =
      let p : Plain (root v) = plain_by (root v) r (2 ^ 1074) root_fits y in
      let q : Plain c = plain_by c k (2 ^ 1074) f z in
      rw (value_is v n h x, value_is (root v) r root_fits y, value_is c k f z) (
        λ (g : lt (root v) c ≡ true). root_is_nearest.over (to_bits binary64 c) (bits_less (root v) c p q g),
        λ (g : lt c (root v) ≡ true). root_is_nearest.under (to_bits binary64 c) (bits_less c (root v) q p g),
      )
