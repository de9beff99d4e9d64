-- `precedes` is a strict total order of the floats that binary64 holds, as every float of code is, and `total_cmp` says Equal of the same number
-- with the same sign, or of NaN twice, alone. Assumes nothing.
use Rattle.std.specs.Prelude.{◌≡◌, refl, Bool, true, false, cond, not, ◌&&◌, ◌⊎◌, ℕ, ◌+◌, ◌-◌, ◌*◌, ◌^◌, ◌≤◌, ◌<◌, T, ltb, Float}
use Rattle.std.proofs.Common.{sym, ap, ap₂, ◌∙◌, true≢false, inl, inr, arith, ltb-true, ltb-false, lt-ltb, le-ltb}
use Rattle.std.specs.Float.{nan, inf, fin, binary64}
use Rattle.std.specs.Float.Ieee.{up, down, fits, is_nan, to_bits, of_bits}
use Rattle.std.specs.Float.Ieee as Ieee
use Rattle.std.specs.Float.Ieee.Bits.{of_bits-to_bits}
use Rattle.std.specs.Float.Ieee.Fits.{inf-fits}
use Rattle.laws.specs.Cases.{by_bool, by_lt}
use Rattle.root.specs.Floats.{ltb-same}
use Rattle.root.specs.Plain.{plain, Plain, plain-bits, plain-order}
use Rattle.float.specs.Constants.{f0}
use Rattle.float.specs.Ops.{neg, lt, eq}
use Rattle.float.specs.Standins.{negative, abs, copysign, minus_first, precedes, total_cmp}
use Rattle.laws.specs.Nan.{is_nan_lem, nan_test}
use Rattle.float.specs.Signs.{abs-other}
use Rattle.remainder.specs.Unique.{fits_sign}
use Rattle.std.specs.declared.cmp.Ordering.TheVariants.{Less, Equal, Greater}

-- ---- the place of a float in the order: its bits without the sign, counted up from the middle, or down where the sign is set; NaN's bits are above infinity's
abbrev pub sided : Bool → ℕ → ℕ
sided true n = 2 ^ 63 - 1 - n
sided false n = 2 ^ 63 + n

abbrev pub rank : Float → ℕ
rank v = sided (negative v) (to_bits binary64 (abs v))

-- where the sign is clear, the order of numbers is that of their bits
pub plain_less : (x y : Float) → Plain x → Plain y → lt x y ≡ ltb (to_bits binary64 x) (to_bits binary64 y)
plain_less x y p q =
    ap₂ Ieee.lt (sym (of_bits-to_bits binary64 x p.held)) (sym (of_bits-to_bits binary64 y q.held))
    ∙ (plain-order (to_bits binary64 x) (to_bits binary64 y) (plain-bits x p.held p.clear) (plain-bits y q.held q.clear)).less

abs_fits : (v : Float) → T (fits binary64 v) → T (fits binary64 (abs v))
abs_fits nan h = h
abs_fits (inf s) h = inf-fits binary64 false
abs_fits (fin s m e) h = fits_sign s false m e h

abs-plain : (v : Float) → T (fits binary64 v) → is_nan v ≡ false → Plain (abs v)
unfolding is_nan
abs-plain v h n = record { held = abs_fits v h; clear = go v n }
  where
    go : (v : Float) → is_nan v ≡ false → plain (abs v) ≡ true
    go nan n = absurd (true≢false n)
    go (inf s) n = refl
    go (fin s m e) n = refl

bits_up_to : (v : Float) → T (fits binary64 v) → is_nan v ≡ false → to_bits binary64 (abs v) ≤ 2047 * 2 ^ 52
bits_up_to v h n = let p = abs-plain v h n in plain-bits (abs v) p.held p.clear

-- of two numbers with the sign set, the larger in size is the lesser
both-minus : (a b : Float) → negative a ≡ true → negative b ≡ true → lt a b ≡ lt (abs b) (abs a)
unfolding Ieee.lt
both-minus nan b s t = absurd (true≢false (sym s))
both-minus (inf x) nan s t = absurd (true≢false (sym t))
both-minus (inf x) (inf y) s t = rw (s, t)
both-minus (inf x) (fin y n d) s t = s
both-minus (fin x m e) nan s t = absurd (true≢false (sym t))
both-minus (fin x m e) (inf y) s t = rw t
both-minus (fin x m e) (fin y n d) s t = rw (s, t)

-- with the same sign it is the order of numbers
pub same_sign : (a b : Float) → negative a ≡ negative b → is_nan b ≡ false → precedes a b ≡ lt a b
unfolding precedes
same_sign a b s n = rw (s, n) (go (lt a b) (eq a b) (negative b) (is_nan a))
  where
    go : (l e s n : Bool) → cond l true (cond e (minus_first s s) (not n && false)) ≡ l
    go true e s n = refl
    go false true true n = refl
    go false true false n = refl
    go false false s true = refl
    go false false s false = refl

-- a set sign stands before a clear one
pub minus_plus : (a b : Float) → negative a ≡ true → negative b ≡ false → is_nan b ≡ false → precedes a b ≡ true
unfolding precedes Ieee.lt Ieee.eq is_nan
minus_plus nan b s t n = absurd (true≢false (sym s))
minus_plus (inf x) nan s t n = absurd (true≢false n)
minus_plus (inf x) (inf y) s t n = rw (s, t)
minus_plus (inf x) (fin y k d) s t n = rw s
minus_plus (fin x m e) nan s t n = absurd (true≢false n)
minus_plus (fin x m e) (inf y) s t n = rw t
minus_plus (fin x m e) (fin y k d) s t n = rw (s, t) (go (m * up e * down d) (k * up d * down e))
  where
    go : (p q : ℕ) → cond (Ieee.below true p false q) true (cond (Ieee.level true p false q) true false) ≡ true
    go p q = by_lt 0 (p + q) (λ (h : 0 < p + q). rw (lt-ltb 0 (p + q) h))
        (λ (h : p + q ≤ 0). let x : p ≡ 0 = omega arith in let y : q ≡ 0 = omega arith in rw (x, y))

pub plus_minus : (a b : Float) → negative a ≡ false → negative b ≡ true → is_nan b ≡ false → precedes a b ≡ false
unfolding precedes Ieee.lt Ieee.eq is_nan
plus_minus nan b s t n = refl
plus_minus (inf x) nan s t n = absurd (true≢false n)
plus_minus (inf x) (inf y) s t n = rw (s, t)
plus_minus (inf x) (fin y k d) s t n = rw s
plus_minus (fin x m e) nan s t n = absurd (true≢false n)
plus_minus (fin x m e) (inf y) s t n = rw t
plus_minus (fin x m e) (fin y k d) s t n = rw (s, t) (go (Ieee.level false (m * up e * down d) true (k * up d * down e)))
  where
    go : (b : Bool) → cond b false false ≡ false
    go true = refl
    go false = refl

-- NaN stands before nothing, and each number before NaN
pub nan_before : (b : Float) → precedes nan b ≡ false
unfolding precedes Ieee.lt Ieee.eq is_nan
nan_before b = refl

pub nan_last : (a : Float) → is_nan a ≡ false → precedes a nan ≡ true
unfolding precedes Ieee.lt Ieee.eq is_nan
nan_last nan n = absurd (true≢false n)
nan_last (inf s) n = refl
nan_last (fin s m e) n = refl

rank_nan : rank nan ≡ 2 ^ 63 + 2047 * 2 ^ 52 + 2 ^ 51
unfolding to_bits
rank_nan = refl

rank-number : (v : Float) → T (fits binary64 v) → is_nan v ≡ false → rank v ≤ 2 ^ 63 + 2047 * 2 ^ 52
rank-number v h n = go (negative v) (to_bits binary64 (abs v)) (bits_up_to v h n)
  where
    go : (s : Bool) (p : ℕ) → p ≤ 2047 * 2 ^ 52 → sided s p ≤ 2 ^ 63 + 2047 * 2 ^ 52
    go true p l = omega arith
    go false p l = omega arith

-- the one that stands first has the lesser rank
numbers : (a b : Float) → T (fits binary64 a) → T (fits binary64 b) → is_nan a ≡ false → is_nan b ≡ false → precedes a b ≡ ltb (rank a) (rank b)
numbers a b h k n m = go (negative a) refl (negative b) refl
  where
    p : ℕ
    p = to_bits binary64 (abs a)

    q : ℕ
    q = to_bits binary64 (abs b)

    l : p ≤ 2047 * 2 ^ 52
    l = bits_up_to a h n

    r : q ≤ 2047 * 2 ^ 52
    r = bits_up_to b k m

    go : (s : Bool) → negative a ≡ s → (t : Bool) → negative b ≡ t → precedes a b ≡ ltb (rank a) (rank b)
    go true x true y =
        rw (x, y)
        (same_sign a b (x ∙ sym y) m ∙ both-minus a b x y ∙ plain_less (abs b) (abs a) (abs-plain b k m) (abs-plain a h n)
        ∙ sym (ltb-same (2 ^ 63 - 1 - p) (2 ^ 63 - 1 - q) q p (λ (u : q < p). omega (arith, l)) (λ (u : p ≤ q). omega arith)))
    go true x false y = rw (x, y) (minus_plus a b x y m ∙ sym (lt-ltb (2 ^ 63 - 1 - p) (2 ^ 63 + q) (omega arith)))
    go false x true y = rw (x, y) (plus_minus a b x y m ∙ sym (le-ltb (2 ^ 63 + p) (2 ^ 63 - 1 - q) (omega arith)))
    go false x false y =
        rw (x, y)
        (same_sign a b (x ∙ sym y) m ∙ ap₂ Ieee.lt (abs-other a x) (abs-other b y) ∙ plain_less (abs a) (abs b) (abs-plain a h n) (abs-plain b k m)
        ∙ sym (ltb-same (2 ^ 63 + p) (2 ^ 63 + q) p q (λ (u : p < q). omega arith) (λ (u : q ≤ p). omega arith)))

pub precedes-rank : (a b : Float) → T (fits binary64 a) → T (fits binary64 b) → precedes a b ≡ ltb (rank a) (rank b)
precedes-rank a b h k = go (is_nan a) refl (is_nan b) refl
  where
    go : (s : Bool) → is_nan a ≡ s → (t : Bool) → is_nan b ≡ t → precedes a b ≡ ltb (rank a) (rank b)
    go true x true y = rw (is_nan_lem a (nan_test a ∙ x), is_nan_lem b (nan_test b ∙ y)) (nan_before nan ∙ sym (le-ltb (rank nan) (rank nan) (omega arith)))
    go true x false y = rw (is_nan_lem a (nan_test a ∙ x)) (nan_before b ∙ sym (le-ltb (rank nan) (rank b) (omega (arith, rank_nan, rank-number b k y))))
    go false x true y = rw (is_nan_lem b (nan_test b ∙ y)) (nan_last a x ∙ sym (lt-ltb (rank a) (rank nan) (omega (arith, rank_nan, rank-number a h x))))
    go false x false y = numbers a b h k x y

-- no two have the same rank
bits-low : (v : Float) → T (fits binary64 v) → to_bits binary64 (abs v) < 2 ^ 63
bits-low v h = by_bool (is_nan v) (λ x. rw (is_nan_lem v (nan_test v ∙ x)) (unfold to_bits in omega arith)) (λ x. omega (arith, bits_up_to v h x))

sided-same : (s t : Bool) (p q : ℕ) → p < 2 ^ 63 → q < 2 ^ 63 → sided s p ≡ sided t q → (s ≡ t) × (p ≡ q)
sided-same true true p q h k e = (refl, omega arith)
sided-same true false p q h k e = absurd (omega arith)
sided-same false true p q h k e = absurd (omega arith)
sided-same false false p q h k e = (refl, omega arith)

own_sign : (v : Float) → copysign v v ≡ v
unfolding Ieee.neg
own_sign nan = refl
own_sign (inf true) = refl
own_sign (inf false) = refl
own_sign (fin true m e) = refl
own_sign (fin false m e) = refl

pub rank_same : (a b : Float) → T (fits binary64 a) → T (fits binary64 b) → rank a ≡ rank b → a ≡ b
rank_same a b h k e =
    let r = sided-same (negative a) (negative b) (to_bits binary64 (abs a)) (to_bits binary64 (abs b)) (bits-low a h) (bits-low b k) e in
    let s : abs a ≡ abs b = sym (of_bits-to_bits binary64 (abs a) (abs_fits a h)) ∙ ap (of_bits binary64) r.1 ∙ of_bits-to_bits binary64 (abs b) (abs_fits b k) in
    sym (own_sign a) ∙ ap₂ (λ (s : Bool) (x : Float). cond s (neg x) x) r.0 s ∙ own_sign b

-- ---- the laws
-- a number below another stands before it
pub lesser_first : (a b : Float) → lt a b ≡ true → precedes a b ≡ true
unfolding precedes
lesser_first a b h = rw h

-- −0 stands before 0
pub minus_zero_first : total_cmp (neg f0) f0 ≡ Less
unfolding precedes of_bits Ieee.neg Ieee.lt Ieee.eq
minus_zero_first = refl

pub precedes-itself : (a : Float) → T (fits binary64 a) → precedes a a ≡ false
precedes-itself a h = precedes-rank a a h h ∙ le-ltb (rank a) (rank a) (omega arith)

pub precedes_trans : (a b c : Float) → T (fits binary64 a) → T (fits binary64 b) → T (fits binary64 c) → precedes a b ≡ true → precedes b c ≡ true → precedes a c ≡ true
precedes_trans a b c h k l x y =
    let u : rank a < rank b = ltb-true (rank a) (rank b) (sym (precedes-rank a b h k) ∙ x) in
    let v : rank b < rank c = ltb-true (rank b) (rank c) (sym (precedes-rank b c k l) ∙ y) in
    precedes-rank a c h l ∙ lt-ltb (rank a) (rank c) (omega arith)

-- what the answer says of the two tests
pub said_less : (p q : Bool) → cond p Less (cond q Greater Equal) ≡ Less → p ≡ true
said_less true q e = refl
said_less false true e = cc
said_less false false e = cc

pub said_greater : (p q : Bool) → cond p Less (cond q Greater Equal) ≡ Greater → q ≡ true
said_greater true q e = cc
said_greater false true e = refl
said_greater false false e = cc

pub said_equal : (p q : Bool) → cond p Less (cond q Greater Equal) ≡ Equal → (p ≡ false) × (q ≡ false)
said_equal true q e = (cc, cc)
said_equal false true e = (refl, cc)
said_equal false false e = (refl, refl)

module _ (a b : Float) (h : T (fits binary64 a)) (k : T (fits binary64 b)) where
  -- never both ways
  pub precedes_one_way : precedes a b ≡ true → precedes b a ≡ false
  precedes_one_way x =
      let u : rank a < rank b = ltb-true (rank a) (rank b) (sym (precedes-rank a b h k) ∙ x) in
      precedes-rank b a k h ∙ le-ltb (rank b) (rank a) (omega arith)

  -- neither way only where they are the same
  pub neither_same : precedes a b ≡ false → precedes b a ≡ false → a ≡ b
  neither_same x y =
      let u : rank b ≤ rank a = ltb-false (rank a) (rank b) (sym (precedes-rank a b h k) ∙ x) in
      let v : rank a ≤ rank b = ltb-false (rank b) (rank a) (sym (precedes-rank b a k h) ∙ y) in
      rank_same a b h k (omega arith)

  -- they are the same, or one stands before the other
  pub precedes-total : (a ≡ b) ⊎ ((precedes a b ≡ true) ⊎ (precedes b a ≡ true))
  precedes-total = by_bool (precedes a b) (λ x. inr (inl x)) (λ x. by_bool (precedes b a) (λ y. inr (inr y)) (λ y. inl (neither_same x y)))

  -- `total_cmp` says Less of what stands before, Greater of what stands after, and Equal of the same alone
  pub is_less : total_cmp a b ≡ Less → precedes a b ≡ true
  is_less e = said_less (precedes a b) (precedes b a) e

  pub is_greater : total_cmp a b ≡ Greater → precedes b a ≡ true
  is_greater e = said_greater (precedes a b) (precedes b a) e

  pub equal_same : total_cmp a b ≡ Equal → a ≡ b
  equal_same e = let n = said_equal (precedes a b) (precedes b a) e in neither_same n.0 n.1

  pub same_equal : a ≡ b → total_cmp a b ≡ Equal
  same_equal e = rw (← e, precedes-itself a h)

-- the other way round, less is greater and greater less
pub less_greater : (a b : Float) → T (fits binary64 a) → T (fits binary64 b) → total_cmp a b ≡ Less → total_cmp b a ≡ Greater
less_greater a b h k e = let x = is_less a b h k e in rw (precedes_one_way a b h k x, x)

pub greater_less : (a b : Float) → T (fits binary64 a) → T (fits binary64 b) → total_cmp a b ≡ Greater → total_cmp b a ≡ Less
greater_less a b h k e = rw (is_greater a b h k e)

pub less_trans : (a b c : Float) → T (fits binary64 a) → T (fits binary64 b) → T (fits binary64 c) → total_cmp a b ≡ Less → total_cmp b c ≡ Less → total_cmp a c ≡ Less
less_trans a b c h k l x y = rw (precedes_trans a b c h k l (is_less a b h k x) (is_less b c k l y))
