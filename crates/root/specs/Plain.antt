-- Laws of a root over floats that are no NaN and have the sign clear, zero and infinity included: it rises, it passes `min` and `max`, and a bound on it is a bound on its argument. Assumes nothing.
use Rattle.std.specs.Prelude.{◌≡◌, refl, Bool, true, false, not, ◌||◌, cond, ℕ, zero, suc, ◌+◌, ◌-◌, ◌*◌, ◌/◌, ◌%◌, ◌^◌, ◌≤◌, ◌<◌, T, eqb, leb, ltb, Float}
use Rattle.std.proofs.Common.{sym, ap, ap₂, ◌∙◌, subst, true≢false, le_trans, le_antisymm, lt_of_le_of_lt, le_of_lt, arith, eqb-true, ltb-true, ltb-false, leb-true, leb-false, le-ltb, le-leb, eq-eqb, ne_eqb}
use Rattle.std.proofs.lemmas.Bool.{eqb-false}
use Rattle.std.specs.Float.{nan, inf, fin, Format, binary64}
use Rattle.std.specs.Float.Ieee.{prec, emax, low, up, down, fits, is_nan, of_bits, to_bits, of_fields, odd, units, round, sum, add, mul, lt, le, eq, ne}
use Rattle.std.specs.Float.Ieee.Exact.{HasValue}
use Rattle.std.specs.Float.Ieee.Fits.{round_is, add-fits}
use Rattle.std.specs.Float.Ieee.Bits.{of_bits-to_bits, to_bits-lt, of_bits-fits, nan_bits_is, nan_bits_above}
use Rattle.root.specs.Root.{root_bits}
use Rattle.root.specs.Rounded.{magnitude, bits-value, root_under}
use Rattle.root.specs.Closest.{root_monotone}
use Rattle.root.specs.Floats.{SameOrder, bits-order, le-or, ltb-same}

-- no NaN, and the sign clear
abbrev pub plain : Float → Bool
plain nan = false
plain (inf s) = not s
plain (fin s m e) = not s

-- ---- a sum of squares is plain
plain_odd : (d q k l : ℕ) → plain (odd d false q k l) ≡ true
unfolding odd
plain_odd d zero k l = refl
plain_odd d (suc q) k l = refl

plain_either : (b : Bool) (x y : Float) → plain x ≡ true → plain y ≡ true → plain (cond b x y) ≡ true
plain_either true x y h k = h
plain_either false x y h k = k

plain_units : (f : Format) (q k : ℕ) → plain (units f false q k) ≡ true
unfolding units
plain_units f q k = plain_either (ltb (q * 2 ^ k) (2 ^ (low f + suc (emax f)))) (odd (suc (prec f)) false q k (low f)) (inf false) (plain_odd (suc (prec f)) q k (low f)) refl

plain-round : (f : Format) (a c : ℕ) → plain (round f false a c) ≡ true
plain-round f a c = ap plain (round_is f false a c) ∙ plain_units f _ _

pub square_plain : (f : Format) (x : Float) → is_nan x ≡ false → plain (mul f x x) ≡ true
unfolding is_nan mul
square_plain f nan h = absurd (true≢false h)
square_plain f (inf true) h = refl
square_plain f (inf false) h = refl
square_plain f (fin true m e) h = plain-round f (m * up e * (m * up e)) (down e * down e)
square_plain f (fin false m e) h = plain-round f (m * up e * (m * up e)) (down e * down e)

pub sum_plain : (f : Format) (x y : Float) → plain x ≡ true → plain y ≡ true → plain (add f x y) ≡ true
unfolding add sum
sum_plain f nan y h k = absurd (true≢false (sym h))
sum_plain f (inf true) y h k = absurd (true≢false (sym h))
sum_plain f (inf false) nan h k = absurd (true≢false (sym k))
sum_plain f (inf false) (inf true) h k = absurd (true≢false (sym k))
sum_plain f (inf false) (inf false) h k = refl
sum_plain f (inf false) (fin t n d) h k = refl
sum_plain f (fin true m e) y h k = absurd (true≢false (sym h))
sum_plain f (fin false m e) nan h k = absurd (true≢false (sym k))
sum_plain f (fin false m e) (inf t) h k = k
sum_plain f (fin false m e) (fin true n d) h k = absurd (true≢false (sym k))
sum_plain f (fin false m e) (fin false n d) h k = plain-round f (m * up e * down d + n * up d * down e) (down e * down d)

-- ---- plain floats are those with bits up to infinity's
unplain_odd : (d q k l : ℕ) → plain (odd d true q k l) ≡ false
unfolding odd
unplain_odd d zero k l = refl
unplain_odd d (suc q) k l = refl

unplain_fields : (x t : ℕ) → plain (of_fields binary64 true x t) ≡ false
unfolding of_fields
unplain_fields zero t = unplain_odd 53 t 0 1074
unplain_fields (suc x) t = go (eqb (suc x) 2047) (eqb t 0) (odd 53 true (2 ^ 52 + t) x 1074) (unplain_odd 53 (2 ^ 52 + t) x 1074)
  where
    go : (a b : Bool) (v : Float) → plain v ≡ false → plain (cond a (cond b (inf true) nan) v) ≡ false
    go true true v h = refl
    go true false v h = refl
    go false b v h = h

unplain_nan : (v : Float) → is_nan v ≡ true → plain v ≡ false
unfolding is_nan
unplain_nan nan h = refl
unplain_nan (inf s) h = absurd (true≢false (sym h))
unplain_nan (fin s m e) h = absurd (true≢false (sym h))

plain-low : (b : ℕ) → b < 2 ^ 64 → plain (of_bits binary64 b) ≡ true → b ≤ 2047 * 2 ^ 52
unfolding of_bits
plain-low b h e = go (leb (2 ^ 63) b) refl (ltb (2047 * 2 ^ 52) b) refl
  where
    go : (s : Bool) → leb (2 ^ 63) b ≡ s → (t : Bool) → ltb (2047 * 2 ^ 52) b ≡ t → b ≤ 2047 * 2 ^ 52
    go true x t y = absurd (true≢false (sym e ∙ ap (λ (s : Bool). plain (of_fields binary64 s (b % 2 ^ 63 / 2 ^ 52) (b % 2 ^ 52))) x ∙ unplain_fields (b % 2 ^ 63 / 2 ^ 52) (b % 2 ^ 52)))
    go false x false y = ltb-false (2047 * 2 ^ 52) b y
    go false x true y =
        let m : b % 2 ^ 63 ≡ b = let l : b < 2 ^ 63 = leb-false (2 ^ 63) b x in omega arith in
        let n : is_nan (of_bits binary64 b) ≡ true = sym (nan_bits_is binary64 b) ∙ nan_bits_above binary64 b ∙ ap (λ (c : ℕ). ltb (2047 * 2 ^ 52) c) m ∙ y in
        absurd (true≢false (sym e ∙ unplain_nan (of_bits binary64 b) n))

pub plain-bits : (x : Float) → T (fits binary64 x) → plain x ≡ true → to_bits binary64 x ≤ 2047 * 2 ^ 52
plain-bits x f h = plain-low (to_bits binary64 x) (to_bits-lt binary64 x f) (ap plain (of_bits-to_bits binary64 x f) ∙ h)

-- ---- the order of bits up to infinity's
infinite : of_bits binary64 (2047 * 2 ^ 52) ≡ inf false
unfolding of_bits of_fields
infinite = refl

pub record Finite (x : Float) : Type 0 where
  pub under : lt x (inf false) ≡ true
  pub not-over : lt (inf false) x ≡ false
  pub differs : eq x (inf false) ≡ false
  pub differs_too : eq (inf false) x ≡ false

finite : (x : Float) (a n : ℕ) → HasValue x false a n → Finite x
unfolding lt eq
finite nan a n h = absurd h
finite (inf s) a n h = absurd h
finite (fin s m e) a n h = record { under = refl; not-over = refl; differs = refl; differs_too = refl }

at-infinity : SameOrder (2047 * 2 ^ 52) (2047 * 2 ^ 52)
unfolding of_bits of_fields lt eq le
at-infinity = record { less = refl; equal = refl; at_most = refl }

to-infinity : (b : ℕ) → b < 2047 * 2 ^ 52 → (lt (of_bits binary64 b) (of_bits binary64 (2047 * 2 ^ 52)) ≡ true) × (eq (of_bits binary64 b) (of_bits binary64 (2047 * 2 ^ 52)) ≡ false)
to-infinity b h = let f = finite (of_bits binary64 b) (magnitude b) (2 ^ 1074) (bits-value b h) in (ap (lt (of_bits binary64 b)) infinite ∙ f.under, ap (eq (of_bits binary64 b)) infinite ∙ f.differs)

from_infinity : (b : ℕ) → b < 2047 * 2 ^ 52 → (lt (of_bits binary64 (2047 * 2 ^ 52)) (of_bits binary64 b) ≡ false) × (eq (of_bits binary64 (2047 * 2 ^ 52)) (of_bits binary64 b) ≡ false)
from_infinity b h =
    let f = finite (of_bits binary64 b) (magnitude b) (2 ^ 1074) (bits-value b h) in
    (ap (λ (x : Float). lt x (of_bits binary64 b)) infinite ∙ f.not-over, ap (λ (x : Float). eq x (of_bits binary64 b)) infinite ∙ f.differs_too)

ordered : (b c : ℕ) → lt (of_bits binary64 b) (of_bits binary64 c) ≡ ltb b c → eq (of_bits binary64 b) (of_bits binary64 c) ≡ eqb b c → SameOrder b c
unfolding le
ordered b c l e = record { less = l; equal = e; at_most = ap₂ ◌||◌ l e ∙ le-or b c }

-- The order of floats that are plain is that of their bits.
pub plain-order : (b c : ℕ) → b ≤ 2047 * 2 ^ 52 → c ≤ 2047 * 2 ^ 52 → SameOrder b c
plain-order b c h k = go (ltb b (2047 * 2 ^ 52)) refl (ltb c (2047 * 2 ^ 52)) refl
  where
    end : (n : ℕ) → n ≤ 2047 * 2 ^ 52 → ltb n (2047 * 2 ^ 52) ≡ false → n ≡ 2047 * 2 ^ 52
    end n l e = le_antisymm l (ltb-false n (2047 * 2 ^ 52) e)

    go : (t : Bool) → ltb b (2047 * 2 ^ 52) ≡ t → (u : Bool) → ltb c (2047 * 2 ^ 52) ≡ u → SameOrder b c
    go true x true y = bits-order b c (ltb-true _ _ x) (ltb-true _ _ y)
    go true x false y =
        let l : b < 2047 * 2 ^ 52 = ltb-true b (2047 * 2 ^ 52) x in
        let i = to-infinity b l in
        subst (SameOrder b) (sym (end c k y)) (ordered b (2047 * 2 ^ 52) (i.0 ∙ sym x) (i.1 ∙ sym (ne_eqb b (2047 * 2 ^ 52) (λ (e : b ≡ 2047 * 2 ^ 52). omega arith))))
    go false x true y =
        let l : c < 2047 * 2 ^ 52 = ltb-true c (2047 * 2 ^ 52) y in
        let i = from_infinity c l in
        subst (λ (n : ℕ). SameOrder n c) (sym (end b h x)) (ordered (2047 * 2 ^ 52) c (i.0 ∙ sym (le-ltb (2047 * 2 ^ 52) c (le_of_lt l))) (i.1 ∙ sym (ne_eqb (2047 * 2 ^ 52) c (λ (e : 2047 * 2 ^ 52 ≡ c). omega arith))))
    go false x false y = subst (λ (n : ℕ). SameOrder n c) (sym (end b h x)) (subst (SameOrder (2047 * 2 ^ 52)) (sym (end c k y)) at-infinity)

-- ---- the root of a plain float
-- Its bits from the float's: the bits of the nearest root, and "Zero gives itself, plus infinity itself".
unfoldable pub root_plain : ℕ → ℕ
root_plain b = let r = root_bits b in cond (eqb b 0) 0 (cond (eqb b (2047 * 2 ^ 52)) (2047 * 2 ^ 52) r)

data Kind (b : ℕ) : Type 0 where
  none : b ≡ 0 → root_plain b ≡ 0 → Kind b
  some : 0 < b → b < 2047 * 2 ^ 52 → root_plain b ≡ root_bits b → Kind b
  all : b ≡ 2047 * 2 ^ 52 → root_plain b ≡ 2047 * 2 ^ 52 → Kind b

kind : (b : ℕ) → b ≤ 2047 * 2 ^ 52 → Kind b
unfolding root_plain
kind b h = go (eqb b 0) refl (eqb b (2047 * 2 ^ 52)) refl
  where
    go : (s : Bool) → eqb b 0 ≡ s → (t : Bool) → eqb b (2047 * 2 ^ 52) ≡ t → Kind b
    go true x t y = none (eqb-true b 0 x) (rw x)
    go false x true y = all (eqb-true b (2047 * 2 ^ 52) y) (rw (x, y))
    go false x false y =
        let p : b ≡ 0 → ⊥ = eqb-false b 0 x in
        let q : b ≡ 2047 * 2 ^ 52 → ⊥ = eqb-false b (2047 * 2 ^ 52) y in
        some (omega arith) (omega arith) (rw (x, y))

pub root_plain_under : (b : ℕ) → b ≤ 2047 * 2 ^ 52 → root_plain b ≤ 2047 * 2 ^ 52
root_plain_under b h = go (kind b h)
  where
    go : Kind b → root_plain b ≤ 2047 * 2 ^ 52
    go (none e f) = omega (arith, f)
    go (some z l f) = rw f (le_of_lt (root_under b z l))
    go (all e f) = omega (arith, f)

pub root_plain_monotone : (b c : ℕ) → b ≤ c → c ≤ 2047 * 2 ^ 52 → root_plain b ≤ root_plain c
root_plain_monotone b c h k = go (kind b (le_trans h k)) (kind c k)
  where
    go : Kind b → Kind c → root_plain b ≤ root_plain c
    go (none e f) y = omega (arith, f)
    go (some z l f) (none e g) = absurd (omega arith)
    go (some z l f) (some z' l' g) = rw (f, g) (root_monotone b c z h)
    go (some z l f) (all e g) = rw g (root_plain_under b (le_trans h k))
    go (all e f) (none e' g) = absurd (omega arith)
    go (all e f) (some z l g) = absurd (omega arith)
    go (all e f) (all e' g) = omega (arith, f, g)

-- a plain float of the format
pub record Plain (x : Float) : Type 0 where
  pub held : T (fits binary64 x)
  pub clear : plain x ≡ true

pub squares-plain : (x y : Float) → is_nan x ≡ false → is_nan y ≡ false → Plain (add binary64 (mul binary64 x x) (mul binary64 y y))
squares-plain x y h k = record { held = add-fits binary64 (mul binary64 x x) (mul binary64 y y); clear = sum_plain binary64 (mul binary64 x x) (mul binary64 y y) (square_plain binary64 x h) (square_plain binary64 y k) }

-- a plain float is equal to itself
pub plain-itself : (x : Float) → Plain x → ne x x ≡ false
unfolding ne eq
plain-itself nan p = absurd (true≢false (sym p.clear))
plain-itself (inf true) p = absurd (true≢false (sym p.clear))
plain-itself (inf false) p = refl
plain-itself (fin true m e) p = absurd (true≢false (sym p.clear))
plain-itself (fin false m e) p = let a = m * up e * down e in rw (eq-eqb a a refl)

pub value-plain : (x : Float) (a n : ℕ) → HasValue x false a n → plain x ≡ true
value-plain nan a n h = absurd h
value-plain (inf s) a n h = absurd h
value-plain (fin s m e) a n h = ap not h.0

pub bits-plain : (b : ℕ) → b ≤ 2047 * 2 ^ 52 → Plain (of_bits binary64 b)
bits-plain b h = record { held = of_bits-fits binary64 b; clear = go (ltb b (2047 * 2 ^ 52)) refl }
  where
    go : (t : Bool) → ltb b (2047 * 2 ^ 52) ≡ t → plain (of_bits binary64 b) ≡ true
    go true e = let l : b < 2047 * 2 ^ 52 = ltb-true b (2047 * 2 ^ 52) e in value-plain (of_bits binary64 b) (magnitude b) (2 ^ 1074) (bits-value b l)
    go false e = ap plain (ap (of_bits binary64) (le_antisymm h (ltb-false b (2047 * 2 ^ 52) e)) ∙ infinite)

-- what a root is over plain floats
pub record IsRoot (root : Float → Float) : Type 0 where
  pub at : (b : ℕ) → b ≤ 2047 * 2 ^ 52 → root (of_bits binary64 b) ≡ of_bits binary64 (root_plain b)

-- s is the first number whose root is t or more
pub record FirstRoot (s t : ℕ) : Type 0 where
  pub some : 0 < s
  pub number : s ≤ 2047 * 2 ^ 52
  pub bound : t ≤ 2047 * 2 ^ 52
  pub before : root_plain (s - 1) < t
  pub from : t ≤ root_plain s

module _ (s t : ℕ) (f : FirstRoot s t) (b : ℕ) (h : b ≤ 2047 * 2 ^ 52) where
  first_under : b < s → root_plain b < t
  first_under l = lt_of_le_of_lt (root_plain_monotone b (s - 1) (omega arith) (omega (arith, f.number))) f.before

  first-over : s ≤ b → t ≤ root_plain b
  first-over l = le_trans f.from (root_plain_monotone s b l h)

-- the bits of a plain float, the order by them, and the root by them
abbrev bits : Float → ℕ
bits x = to_bits binary64 x

bits-low : (x : Float) → Plain x → bits x ≤ 2047 * 2 ^ 52
bits-low x p = plain-bits x p.held p.clear

back : (x : Float) → Plain x → x ≡ of_bits binary64 (bits x)
back x p = sym (of_bits-to_bits binary64 x p.held)

lt-bits : (x y : Float) → Plain x → Plain y → lt x y ≡ ltb (bits x) (bits y)
lt-bits x y p q = ap₂ lt (back x p) (back y q) ∙ (plain-order (bits x) (bits y) (bits-low x p) (bits-low y q)).less

le-bits : (x y : Float) → Plain x → Plain y → le x y ≡ leb (bits x) (bits y)
le-bits x y p q = ap₂ le (back x p) (back y q) ∙ (plain-order (bits x) (bits y) (bits-low x p) (bits-low y q)).at_most

-- the laws of a root
module _ (root : Float → Float) (is : IsRoot root) where
  root_of_lem : (x : Float) → Plain x → root x ≡ of_bits binary64 (root_plain (bits x))
  root_of_lem x p = ap root (back x p) ∙ is.at (bits x) (bits-low x p)

  lt_roots : (x y : Float) → Plain x → Plain y → lt (root x) (root y) ≡ ltb (root_plain (bits x)) (root_plain (bits y))
  lt_roots x y p q =
      ap₂ lt (root_of_lem x p) (root_of_lem y q)
      ∙ (plain-order (root_plain (bits x)) (root_plain (bits y)) (root_plain_under (bits x) (bits-low x p)) (root_plain_under (bits y) (bits-low y q))).less

  le_roots : (x y : Float) → Plain x → Plain y → le (root x) (root y) ≡ leb (root_plain (bits x)) (root_plain (bits y))
  le_roots x y p q =
      ap₂ le (root_of_lem x p) (root_of_lem y q)
      ∙ (plain-order (root_plain (bits x)) (root_plain (bits y)) (root_plain_under (bits x) (bits-low x p)) (root_plain_under (bits y) (bits-low y q))).at_most

  pub root-plain : (x : Float) → Plain x → Plain (root x)
  root-plain x p = subst Plain (sym (root_of_lem x p)) (bits-plain (root_plain (bits x)) (root_plain_under (bits x) (bits-low x p)))

  -- it rises
  pub root-le : (x y : Float) → Plain x → Plain y → le x y ≡ true → le (root x) (root y) ≡ true
  root-le x y p q h =
      let l : bits x ≤ bits y = leb-true (bits x) (bits y) (sym (le-bits x y p q) ∙ h) in
      le_roots x y p q ∙ le-leb (root_plain (bits x)) (root_plain (bits y)) (root_plain_monotone (bits x) (bits y) l (bits-low y q))

  -- the lesser of two roots is the root of the lesser: where the roots are in another order than the numbers, they are the same
  same-root : (x y : Float) → Plain x → Plain y → lt x y ≡ true → lt (root x) (root y) ≡ false → root x ≡ root y
  same-root x y p q h k =
      let l : bits x < bits y = ltb-true (bits x) (bits y) (sym (lt-bits x y p q) ∙ h) in
      let m : root_plain (bits y) ≤ root_plain (bits x) = ltb-false (root_plain (bits x)) (root_plain (bits y)) (sym (lt_roots x y p q) ∙ k) in
      root_of_lem x p ∙ ap (of_bits binary64) (le_antisymm (root_plain_monotone (bits x) (bits y) (le_of_lt l) (bits-low y q)) m) ∙ sym (root_of_lem y q)

  not_less : (x y : Float) → Plain x → Plain y → lt x y ≡ false → lt (root x) (root y) ≡ false
  not_less x y p q h =
      let l : bits y ≤ bits x = ltb-false (bits x) (bits y) (sym (lt-bits x y p q) ∙ h) in
      lt_roots x y p q ∙ le-ltb (root_plain (bits x)) (root_plain (bits y)) (root_plain_monotone (bits y) (bits x) l (bits-low x p))

  pub root-min : (x y : Float) → Plain x → Plain y → cond (lt (root y) (root x)) (root y) (root x) ≡ root (cond (lt y x) y x)
  root-min x y p q = go (lt y x) refl (lt (root y) (root x)) refl
    where
      go : (s : Bool) → lt y x ≡ s → (t : Bool) → lt (root y) (root x) ≡ t → cond (lt (root y) (root x)) (root y) (root x) ≡ root (cond (lt y x) y x)
      go true e true f = rw (e, f)
      go true e false f = rw (e, f) (sym (same-root y x q p e f))
      go false e t f = rw (e, not_less y x q p e)

  -- bounds: t is a constant's bits, and s those of the constant that bounds the number
  module _ (s t : ℕ) (x : Float) (p : Plain x) where
    against : t ≤ 2047 * 2 ^ 52 → SameOrder (root_plain (bits x)) t × SameOrder t (root_plain (bits x))
    against k = (plain-order (root_plain (bits x)) t (root_plain_under (bits x) (bits-low x p)) k, plain-order t (root_plain (bits x)) k (root_plain_under (bits x) (bits-low x p)))

    pub root_lt_first : FirstRoot s t → lt (root x) (of_bits binary64 t) ≡ lt x (of_bits binary64 s)
    root_lt_first f =
        ap (λ (v : Float). lt v (of_bits binary64 t)) (root_of_lem x p)
        ∙ (against f.bound).0.less
        ∙ ltb-same (root_plain (bits x)) t (bits x) s (first_under s t f (bits x) (bits-low x p)) (first-over s t f (bits x) (bits-low x p))
        ∙ sym (plain-order (bits x) s (bits-low x p) f.number).less
        ∙ ap (λ (v : Float). lt v (of_bits binary64 s)) (sym (back x p))
