-- Finite numbers that are not negative are in the order of their bits. Assumes nothing.
use Rattle.std.specs.Prelude.{◌≡◌, refl, Bool, true, false, ◌||◌, ℕ, ◌*◌, ◌^◌, ◌≤◌, ◌<◌, eqb, leb, ltb, Float}
use Rattle.std.proofs.Common.{sym, ap, ap₂, ◌∙◌, subst, true≢false, mul-le-mul_right, le_of_mul-le-mul_right, le_antisymm, le_of_eq, lt_of_lt_of_le, lt_irrefl, arith, pow_pos, eqb-true, ltb-true, ltb-false, lt-ltb, le-ltb, le-leb, eq-eqb, ne_eqb}
use Rattle.std.proofs.lemmas.Bool.{eqb-false, lt-leb}
use Rattle.std.specs.Float.{nan, inf, fin, binary64}
use Rattle.std.specs.Float.Ieee.{of_bits, lt, le, eq, up, down}
use Rattle.std.specs.Float.Ieee.Exact.{HasValue}
use Rattle.std.specs.Float.Ieee.Fits.{down_pos}
use Rattle.std.specs.Float.Ieee.Order.{transfer}
use Rattle.laws.specs.Bools.{and_true}
use Rattle.root.specs.Rounded.{magnitude, bits-value}
use Rattle.root.specs.Closest.{magnitude-lt, magnitude-le}

-- tests that agree both ways
pub ltb-same : (x y a b : ℕ) → (a < b → x < y) → (b ≤ a → y ≤ x) → ltb x y ≡ ltb a b
ltb-same x y a b f g = go (ltb a b) refl
  where
    go : (t : Bool) → ltb a b ≡ t → ltb x y ≡ ltb a b
    go true e = lt-ltb x y (f (ltb-true a b e)) ∙ sym e
    go false e = le-ltb x y (g (ltb-false a b e)) ∙ sym e

eqb_same : (x y a b : ℕ) → (a ≡ b → x ≡ y) → (x ≡ y → a ≡ b) → eqb x y ≡ eqb a b
eqb_same x y a b f g = go (eqb a b) refl
  where
    go : (t : Bool) → eqb a b ≡ t → eqb x y ≡ eqb a b
    go true e = eq-eqb x y (f (eqb-true a b e)) ∙ sym e
    go false e = ne_eqb x y (λ (h : x ≡ y). eqb-false a b e (g h)) ∙ sym e

pub le-or : (a b : ℕ) → (ltb a b || eqb a b) ≡ leb a b
le-or a b = go (ltb a b) refl
  where
    go : (t : Bool) → ltb a b ≡ t → (ltb a b || eqb a b) ≡ leb a b
    go true e = let h : a < b = ltb-true a b e in rw (e, le-leb a b (omega arith))
    go false e = rw e (rest (eqb a b) refl)
      where
        rest : (t : Bool) → eqb a b ≡ t → eqb a b ≡ leb a b
        rest true f = let h : a ≡ b = eqb-true a b f in rw (f, le-leb a b (omega arith))
        rest false f =
            let h : b ≤ a = ltb-false a b e in
            let g : a ≡ b → ⊥ = eqb-false a b f in
            rw (f, lt-leb a b (omega arith))

-- the fractions x / de, which is a / n, and y / dd, which is b / n
module _ (x y de dd a b n : ℕ) (N : 0 < n) (E : 0 < de) (D : 0 < dd) (p : x * n ≡ a * de) (q : y * n ≡ b * dd) where
  up_to : a ≤ b → x * dd ≤ y * de
  up_to h = transfer x y de dd a b n n N N p q (mul-le-mul_right n h)

  back_to : x * dd ≤ y * de → a ≤ b
  back_to h = le_of_mul-le-mul_right (transfer a b n n x y de dd E D (sym p) (sym q) h) N

  strict : b < a → y * de < x * dd
  strict h = go (ltb (y * de) (x * dd)) refl
    where
      go : (t : Bool) → ltb (y * de) (x * dd) ≡ t → y * de < x * dd
      go true f = ltb-true (y * de) (x * dd) f
      go false f = absurd (lt_irrefl b (lt_of_lt_of_le h (back_to (ltb-false (y * de) (x * dd) f))))

cross_same : (x y de dd a b n : ℕ) → 0 < n → 0 < de → 0 < dd → x * n ≡ a * de → y * n ≡ b * dd → (ltb (x * dd) (y * de) ≡ ltb a b) × (eqb (x * dd) (y * de) ≡ eqb a b)
cross_same x y de dd a b n N E D p q = (
  ltb-same (x * dd) (y * de) a b (strict y x dd de b a n N D E q p) (up_to y x dd de b a n N D E q p),
  eqb_same (x * dd) (y * de) a b
      (λ (h : a ≡ b). le_antisymm (up_to x y de dd a b n N E D p q (le_of_eq h)) (up_to y x dd de b a n N D E q p (le_of_eq (sym h))))
      (λ (h : x * dd ≡ y * de). le_antisymm (back_to x y de dd a b n N E D p q (le_of_eq h)) (back_to y x dd de b a n N D E q p (le_of_eq (sym h)))),
)

-- floats with the values a / n and b / n
value-order : (x y : Float) (a b n : ℕ) → 0 < n → HasValue x false a n → HasValue y false b n → (lt x y ≡ ltb a b) × (eq x y ≡ eqb a b)
unfolding lt eq
value-order nan y a b n N p q = absurd p
value-order (inf s) y a b n N p q = absurd p
value-order (fin true m e) y a b n N p q = absurd (true≢false p.0)
value-order (fin false m e) nan a b n N p q = absurd q
value-order (fin false m e) (inf t) a b n N p q = absurd q
value-order (fin false m e) (fin true k d) a b n N p q = absurd (true≢false q.0)
value-order (fin false m e) (fin false k d) a b n N p q =
    let c = cross_same (m * up e) (k * up d) (down e) (down d) a b n N (down_pos e) (down_pos d) p.1 q.1 in
    (c.0, and_true (eqb (m * up e * down d) (k * up d * down e)) ∙ c.1)

-- The order of finite numbers that are not negative is that of their bits.
pub record SameOrder (b c : ℕ) : Type 0 where
  pub less : lt (of_bits binary64 b) (of_bits binary64 c) ≡ ltb b c
  pub equal : eq (of_bits binary64 b) (of_bits binary64 c) ≡ eqb b c
  pub at_most : le (of_bits binary64 b) (of_bits binary64 c) ≡ leb b c

magnitude-same : (b c : ℕ) → magnitude b ≡ magnitude c → b ≡ c
magnitude-same b c e = go (ltb b c) refl (ltb c b) refl
  where
    go : (t : Bool) → ltb b c ≡ t → (u : Bool) → ltb c b ≡ u → b ≡ c
    go true f u g = absurd (lt_irrefl (magnitude c) (subst (λ (n : ℕ). n < magnitude c) e (magnitude-lt b c (ltb-true b c f))))
    go false f true g = absurd (lt_irrefl (magnitude c) (subst (λ (n : ℕ). magnitude c < n) e (magnitude-lt c b (ltb-true c b g))))
    go false f false g = le_antisymm (ltb-false c b g) (ltb-false b c f)

pub bits-order : (b c : ℕ) → b < 2047 * 2 ^ 52 → c < 2047 * 2 ^ 52 → SameOrder b c
unfolding le
bits-order b c h k = record { less = l; equal = e; at_most = ap₂ ◌||◌ l e ∙ le-or b c }
  where
    v : (lt (of_bits binary64 b) (of_bits binary64 c) ≡ ltb (magnitude b) (magnitude c)) × (eq (of_bits binary64 b) (of_bits binary64 c) ≡ eqb (magnitude b) (magnitude c))
    v = value-order (of_bits binary64 b) (of_bits binary64 c) (magnitude b) (magnitude c) (2 ^ 1074) (pow_pos 1074) (bits-value b h) (bits-value c k)

    l : lt (of_bits binary64 b) (of_bits binary64 c) ≡ ltb b c
    l = v.0 ∙ ltb-same (magnitude b) (magnitude c) b c (magnitude-lt b c) (magnitude-le c b)

    e : eq (of_bits binary64 b) (of_bits binary64 c) ≡ eqb b c
    e = v.1 ∙ eqb_same (magnitude b) (magnitude c) b c (ap magnitude) (magnitude-same b c)
