-- Of all binary64 numbers the root is the one closest to the exact root, the only such one, and it never falls where the number rises. Assumes nothing.
use Rattle.std.specs.Prelude.{◌≡◌, refl, Bool, true, false, ℕ, zero, suc, ◌+◌, ◌-◌, ◌*◌, ◌/◌, ◌%◌, ◌^◌, ◌≤◌, ◌<◌, eqb, ltb}
use Rattle.std.proofs.Common.{sym, ap, ◌∙◌, subst, add-zero, add-suc, add_comm, pow-suc, mul-le-mul, mul-le-mul_right, mul-lt-mul_of_pos_right, le_refl, le_of_eq, le_of_lt, le_antisymm, le_trans, lt_of_lt_of_le, lt_of_le_of_lt, lt_trans, arith, pow_pos, eqb-true, ltb-true, ltb-false, ne_eqb}
use Rattle.std.proofs.Math.Nat.{mul-mul-mul_comm}
use Rattle.std.proofs.lemmas.Bool.{eqb-false}
use Rattle.root.specs.Root.{root_bits}
use Rattle.root.specs.Nearest.{twice_less}
use Rattle.root.specs.Rounded.{magnitude, NearestRoot, four_square, root_digits, root_power, root_bits_are, root-number, number-reaches, root-nearest, root-digits, magnitude_of}

-- ---- magnitudes are in the order of their bits
-- by the field x and the digits t
value : ℕ → ℕ → ℕ
value zero t = t
value (suc x) t = (2 ^ 52 + t) * 2 ^ x

magnitude_is : (b x t : ℕ) → b ≡ x * 2 ^ 52 + t → t < 2 ^ 52 → magnitude b ≡ value x t
unfolding value
magnitude_is b zero t e h =
    let d : b / 2 ^ 52 ≡ 0 = omega arith in
    let m : b % 2 ^ 52 ≡ t = omega arith in
    rw (d, m)
magnitude_is b (suc x) t e h =
    let n : b / 2 ^ 52 ≡ 0 → ⊥ = λ z. omega arith in
    let d : b / 2 ^ 52 - 1 ≡ x = omega arith in
    let m : b % 2 ^ 52 ≡ t = omega arith in
    rw (ne_eqb _ _ n, d, m)

value-next : (x t : ℕ) → value x t < value x (suc t)
unfolding value
value-next zero t = omega arith
value-next (suc x) t = mul-lt-mul_of_pos_right {m = 2 ^ 52 + t} {n = 2 ^ 52 + suc t} (omega arith) (pow_pos x)

value-carry : (x : ℕ) → value x (2 ^ 52 - 1) < value (suc x) 0
unfolding value
value-carry zero = omega arith
value-carry (suc x) = rw (pow-suc 2 x) (less (2 ^ x) (pow_pos x))
  where
    less : (p : ℕ) → 0 < p → (2 ^ 52 + (2 ^ 52 - 1)) * p < (2 ^ 52 + 0) * (p * 2)
    less p h = omega arith

less : {m n u v : ℕ} → m ≡ u → n ≡ v → u < v → m < n
less d e h = rw (d, e) h

magnitude-next : (b : ℕ) → magnitude b < magnitude (suc b)
magnitude-next b = go (eqb (b % 2 ^ 52) (2 ^ 52 - 1)) refl
  where
    go : (q : Bool) → eqb (b % 2 ^ 52) (2 ^ 52 - 1) ≡ q → magnitude b < magnitude (suc b)
    go true e =
        let h : b % 2 ^ 52 ≡ 2 ^ 52 - 1 = eqb-true (b % 2 ^ 52) (2 ^ 52 - 1) e in
        less (magnitude_is b (b / 2 ^ 52) (2 ^ 52 - 1) (omega arith) (omega arith)) (magnitude_is (suc b) (suc (b / 2 ^ 52)) 0 (omega arith) (omega arith)) (value-carry (b / 2 ^ 52))
    go false e =
        let h : b % 2 ^ 52 ≡ 2 ^ 52 - 1 → ⊥ = eqb-false (b % 2 ^ 52) (2 ^ 52 - 1) e in
        less (magnitude_is b (b / 2 ^ 52) (b % 2 ^ 52) (omega arith) (omega arith)) (magnitude_is (suc b) (b / 2 ^ 52) (suc (b % 2 ^ 52)) (omega arith) (omega arith)) (value-next (b / 2 ^ 52) (b % 2 ^ 52))

magnitude-past : (b k : ℕ) → magnitude b < magnitude (suc (b + k))
magnitude-past b zero = rw add-zero (magnitude-next b)
magnitude-past b (suc k) = rw (add-suc b k) (lt_trans (magnitude-past b k) (magnitude-next (suc (b + k))))

pub magnitude-lt : (b c : ℕ) → b < c → magnitude b < magnitude c
magnitude-lt b c h = let e : suc (b + (c - suc b)) ≡ c = omega arith in subst (λ (n : ℕ). magnitude b < magnitude n) e (magnitude-past b (c - suc b))

pub magnitude-le : (b c : ℕ) → b ≤ c → magnitude b ≤ magnitude c
magnitude-le b c h = go (ltb b c) refl
  where
    go : (t : Bool) → ltb b c ≡ t → magnitude b ≤ magnitude c
    go true e = le_of_lt (magnitude-lt b c (ltb-true b c e))
    go false e = let l : c ≤ b = ltb-false b c e in let s : b ≡ c = omega arith in le_of_eq (ap magnitude s)

-- ---- closest
-- r is the bits of the number closest to the exact root of the number with the bits b: for whatever other bits c, the midpoint between the two numbers
-- lies beyond the exact root. In units of 2 ^ -1074, with v for b's number: the exact root is the root of v * 2 ^ 1074, and the midpoint half of magnitude r + magnitude c.
pub record Closest (b r : ℕ) : Type 0 where
  pub over : (c : ℕ) → r < c → 4 * (magnitude b * 2 ^ 1074) < (magnitude r + magnitude c) * (magnitude r + magnitude c)
  pub under : (c : ℕ) → c < r → (magnitude r + magnitude c) * (magnitude r + magnitude c) < 4 * (magnitude b * 2 ^ 1074)

-- with P for 2 ^ k
spread : (p P : ℕ) → p * p * (P * P) ≡ p * P * (p * P)
spread p P = mul-mul-mul_comm p p P P

over_by : (p P R C M : ℕ) → R ≡ p * P → (p + 1) * P ≤ C → M < (2 * p + 1) * (2 * p + 1) * (P * P) → M < (R + C) * (R + C)
over_by p P R C M e h l =
    let s : (2 * p + 1) * P ≤ R + C = omega arith in
    lt_of_lt_of_le (subst (λ (n : ℕ). M < n) (spread (2 * p + 1) P) l) (mul-le-mul s s)

under_by : (p P R C M : ℕ) → R ≡ suc p * P → C ≤ p * P → (2 * p + 1) * (2 * p + 1) * (P * P) < M → (R + C) * (R + C) < M
under_by p P R C M e h l =
    let s : R + C ≤ (2 * p + 1) * P = omega arith in
    lt_of_le_of_lt (mul-le-mul s s) (subst (λ (n : ℕ). n < M) (spread (2 * p + 1) P) l)

under_least : (R C M : ℕ) → C < R → R * R ≤ M → (R + C) * (R + C) < 4 * M
under_least R C M h l =
    let s : R + C + 1 ≤ 2 * R = omega arith in
    let t : (R + C + 1) * (R + C + 1) ≤ 2 * R * (2 * R) = mul-le-mul s s in
    omega arith

-- the next number's magnitude is a unit of the last place more, or two where the exponent changes
next_up : (k p : ℕ) → 2 ^ 52 ≤ p → p ≤ 2 ^ 53 → (p + 1) * 2 ^ k ≤ magnitude (suc (k * 2 ^ 52 + p))
next_up k p l u = go (eqb p (2 ^ 53)) refl
  where
    more : (P : ℕ) → (2 ^ 53 + 1) * P ≤ (2 ^ 52 + 1) * (P * 2)
    more P = omega arith

    go : (b : Bool) → eqb p (2 ^ 53) ≡ b → (p + 1) * 2 ^ k ≤ magnitude (suc (k * 2 ^ 52 + p))
    go true x =
        let e : p ≡ 2 ^ 53 = eqb-true p (2 ^ 53) x in
        let s : suc (k * 2 ^ 52 + p) ≡ suc k * 2 ^ 52 + (2 ^ 52 + 1) = omega arith in
        subst (λ (n : ℕ). (p + 1) * 2 ^ k ≤ magnitude n) (sym s)
        (subst (λ (n : ℕ). (p + 1) * 2 ^ k ≤ n) (sym (magnitude_of (suc k) (2 ^ 52 + 1) (omega arith) (omega arith) ∙ ap (λ (n : ℕ). (2 ^ 52 + 1) * n) (pow-suc 2 k)))
        (subst (λ (n : ℕ). (n + 1) * 2 ^ k ≤ (2 ^ 52 + 1) * (2 ^ k * 2)) (sym e) (more (2 ^ k))))
    go false x =
        let e : p ≡ 2 ^ 53 → ⊥ = eqb-false p (2 ^ 53) x in
        let s : suc (k * 2 ^ 52 + p) ≡ k * 2 ^ 52 + (p + 1) = omega arith in
        subst (λ (n : ℕ). (p + 1) * 2 ^ k ≤ magnitude n) (sym s) (le_of_eq (sym (magnitude_of k (p + 1) (omega arith) (omega arith))))

-- the parts of `Closest`, with M for v * 2 ^ 1074
is_over : (k p M : ℕ) → 2 ^ 52 ≤ p → p ≤ 2 ^ 53 → 4 * M < (2 * p + 1) * (2 * p + 1) * 4 ^ k → (c : ℕ) → k * 2 ^ 52 + p < c
    → 4 * M < (magnitude (k * 2 ^ 52 + p) + magnitude c) * (magnitude (k * 2 ^ 52 + p) + magnitude c)
is_over k p M l u n c h =
    over_by p (2 ^ k) (magnitude (k * 2 ^ 52 + p)) (magnitude c) (4 * M) (magnitude_of k p l u)
    (le_trans (next_up k p l u) (magnitude-le (suc (k * 2 ^ 52 + p)) c h))
    (subst (λ (q : ℕ). 4 * M < (2 * p + 1) * (2 * p + 1) * q) (four_square k) n)

is_under : (k p M : ℕ) → 2 ^ 52 ≤ p → p ≤ 2 ^ 53 → (2 * p - 1) * (2 * p - 1) * 4 ^ k < 4 * M → 2 ^ 104 * 4 ^ k ≤ M → (c : ℕ) → c < k * 2 ^ 52 + p
    → (magnitude (k * 2 ^ 52 + p) + magnitude c) * (magnitude (k * 2 ^ 52 + p) + magnitude c) < 4 * M
is_under k zero M l u n m c h = absurd (omega arith)
is_under k (suc q) M l u n m c h = go (ltb q (2 ^ 52)) refl
  where
    go : (b : Bool) → ltb q (2 ^ 52) ≡ b → (magnitude (k * 2 ^ 52 + suc q) + magnitude c) * (magnitude (k * 2 ^ 52 + suc q) + magnitude c) < 4 * M
    go true x =
        let y : q < 2 ^ 52 = ltb-true q (2 ^ 52) x in
        let e : suc q ≡ 2 ^ 52 = omega arith in
        let f : magnitude (k * 2 ^ 52 + suc q) ≡ 2 ^ 52 * 2 ^ k = magnitude_of k (suc q) l u ∙ ap (λ (n : ℕ). n * 2 ^ k) e in
        under_least (magnitude (k * 2 ^ 52 + suc q)) (magnitude c) M (magnitude-lt c (k * 2 ^ 52 + suc q) h)
        (subst (λ (n : ℕ). n * n ≤ M) (sym f) (subst (λ (n : ℕ). n ≤ M) (ap (λ (n : ℕ). 2 ^ 104 * n) (four_square k) ∙ spread (2 ^ 52) (2 ^ k)) m))
    go false x =
        let y : 2 ^ 52 ≤ q = ltb-false q (2 ^ 52) x in
        under_by q (2 ^ k) (magnitude (k * 2 ^ 52 + suc q)) (magnitude c) (4 * M) (magnitude_of k (suc q) l u)
        (subst (λ (n : ℕ). magnitude c ≤ n) (magnitude_of k q y (omega arith)) (magnitude-le c (k * 2 ^ 52 + q) (omega arith)))
        (subst (λ (n : ℕ). (2 * q + 1) * (2 * q + 1) * n < 4 * M) (four_square k) (subst (λ (n : ℕ). n * n * 4 ^ k < 4 * M) (twice_less q) n))

-- The root's bits are those of the binary64 closest to the exact root.
pub root_closest : (b : ℕ) → 0 < b → Closest b (root_bits b)
root_closest b z = subst (Closest b) (sym (root_bits_are b)) (record { over = is_over k p M d.0 d.1 n.below; under = is_under k p M d.0 d.1 n.above least })
  where
    k : ℕ
    k = root_power b

    p : ℕ
    p = root_digits b

    M : ℕ
    M = magnitude b * 2 ^ 1074

    d : (2 ^ 52 ≤ root_digits b) × (root_digits b ≤ 2 ^ 53)
    d = root-digits b z

    n : NearestRoot (magnitude b) (root_digits b) (root_power b)
    n = root-nearest b z

    least : 2 ^ 104 * 4 ^ root_power b ≤ magnitude b * 2 ^ 1074
    least = subst (λ (m : ℕ). 2 ^ 104 * 4 ^ root_power b ≤ m) (root-number b z) (mul-le-mul_right (4 ^ root_power b) (number-reaches b z))

-- where the numbers rise, the closest to their roots do not fall
crossed : (m m' s t : ℕ) → m ≤ m' → t ≡ s → s < 4 * m → 4 * m' < t → ⊥
crossed m m' s t h e a b = omega arith

pub closest_monotone : (b c r s : ℕ) → b ≤ c → Closest b r → Closest c s → r ≤ s
closest_monotone b c r s h f g = go (ltb s r) refl
  where
    go : (t : Bool) → ltb s r ≡ t → r ≤ s
    go false e = ltb-false s r e
    go true e =
        let l : s < r = ltb-true s r e in
        absurd (crossed (magnitude b * 2 ^ 1074) (magnitude c * 2 ^ 1074) ((magnitude r + magnitude s) * (magnitude r + magnitude s)) ((magnitude s + magnitude r) * (magnitude s + magnitude r))
        (mul-le-mul_right (2 ^ 1074) (magnitude-le b c h)) (ap (λ (n : ℕ). n * n) (add_comm (magnitude s) (magnitude r))) (f.under s l) (g.over r l))

-- no other bits will do
pub closest_unique : (b r : ℕ) → 0 < b → Closest b r → r ≡ root_bits b
closest_unique b r z f = le_antisymm (closest_monotone b b r (root_bits b) (le_refl b) f (root_closest b z)) (closest_monotone b b (root_bits b) r (le_refl b) (root_closest b z) f)

-- The root never falls where the number rises.
pub root_monotone : (b c : ℕ) → 0 < b → b ≤ c → root_bits b ≤ root_bits c
root_monotone b c z h = closest_monotone b c (root_bits b) (root_bits c) h (root_closest b z) (root_closest c (omega arith))
