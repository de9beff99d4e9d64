-- Rounding to whole numbers by the bits: from 2 ^ 52 on a number is whole; below it the significand is shifted down. Assumes nothing.
use Rattle.std.specs.Prelude.{◌≡◌, refl, Bool, true, false, cond, ℕ, zero, suc, ◌+◌, ◌-◌, ◌*◌, ◌/◌, ◌%◌, ◌^◌, ◌≤◌, ◌<◌, T, ℤ, Float}
use Rattle.std.proofs.Common.{sym, ap, ◌∙◌, subst, mul-pos, mul_assoc, mul-one, pow-suc, lt_of_lt_of_le, mul_right_comm, arith, pow-add, pow_pos, pow_mono, shl_lt}
use Rattle.std.proofs.Math.Nat.{div-eq_of_lt, div-eq_of_lt-le, add-div_right, div-div-eq-div-mul, eq_of_mul-eq-mul_right}
use Rattle.std.proofs.lemmas.Nat.{shr_le}
use Rattle.std.specs.Float.{nan, inf, fin, binary64}
use Rattle.std.specs.Float.Ieee.{up, down, fits, to_bits, of_int}
use Rattle.std.specs.Float.Ieee as Ieee
use Rattle.std.specs.Float.Ieee.Exact.{HasValue, round_exact}
use Rattle.std.specs.Float.Ieee.Back.{whole_unique}
use Rattle.std.specs.Float.Ieee.Fits.{down_pos, round-fits}
use Rattle.std.specs.Float.Ieee.Nearest.{div_same}
use Rattle.root.specs.Rounded.{magnitude}
use Rattle.float.specs.Ops.{neg, ne, of_nat}
use Rattle.float.specs.Standins.{negative, abs, half_up, round}
use Rattle.remainder.specs.Unique.{fits_sign, finite_bits, size-bits, big}
use Rattle.remainder.specs.Tau.{neg-round}

-- ---- the size, by the bits

-- the fraction's name does not matter
half_same : (a d b c : ℕ) → 0 < d → 0 < c → a * c ≡ b * d → half_up a d ≡ half_up b c
half_same a d b c p q e = div_same (2 * a + d) (2 * d) (2 * b + c) (2 * c) (omega arith) (omega arith) (cross a d b c e)
  where
    cross : (a d b c : ℕ) → a * c ≡ b * d → (2 * a + d) * (2 * c) ≡ (2 * b + c) * (2 * d)
    cross a d b c e = omega arith

pub half_bits : (m : ℕ) (e : ℤ) → T (fits binary64 (fin false m e))
    → half_up (m * up e) (down e) ≡ half_up (magnitude (to_bits binary64 (fin false m e))) (2 ^ 1074)
half_bits m e h = half_same (m * up e) (down e) (magnitude (to_bits binary64 (fin false m e))) (2 ^ 1074) (down_pos e) (pow_pos 1074) (size-bits m e h)

-- ---- below a half, and up to 2 ^ 52
tiny : (b : ℕ) → b / 2 ^ 52 ≡ 0 → magnitude b ≡ b % 2 ^ 52
tiny b e = rw e

none : (a d : ℕ) → 2 * a < d → half_up a d ≡ 0
none a d h = div-eq_of_lt (omega arith)

-- twice a number of j digits has one more
twice_lt : (a i j : ℕ) → a < 2 ^ i → i < j → 2 * a < 2 ^ j
twice_lt a i j h l = lt_of_lt_of_le (go a (2 ^ i) h) (subst (λ (n : ℕ). n ≤ 2 ^ j) (pow-suc 2 i) (pow_mono l))
  where
    go : (a p : ℕ) → a < p → 2 * a < p * 2
    go a p h = omega arith

pub half_none : (b : ℕ) → b / 2 ^ 52 < 1022 → half_up (magnitude b) (2 ^ 1074) ≡ 0
half_none b h = go (b / 2 ^ 52) refl h
  where
    go : (x : ℕ) → b / 2 ^ 52 ≡ x → x < 1022 → half_up (magnitude b) (2 ^ 1074) ≡ 0
    go zero e l = none (magnitude b) (2 ^ 1074) (rw (tiny b e) (twice_lt (b % 2 ^ 52) 52 1074 (omega arith) (omega arith)))
    go (suc x) e l = none (magnitude b) (2 ^ 1074) (rw (big b x e) (twice_lt ((2 ^ 52 + b % 2 ^ 52) * 2 ^ x) (53 + x) 1074 (shl_lt 53 x (omega arith)) (omega arith)))

-- half a unit added, then the places below the unit dropped: one place at a time, from j places on
shifted : (s j : ℕ) → (s / 2 ^ j + 1) / 2 ≡ (s + 2 ^ j) / 2 ^ suc j
shifted s j =
    ap (λ (n : ℕ). n / 2) (sym (add-div_right s (pow_pos j)))
    ∙ div-div-eq-div-mul (s + 2 ^ j) (2 ^ j) 2
    ∙ ap (λ (n : ℕ). (s + 2 ^ j) / n) (sym (pow-suc 2 j))

pub half_shifted : (b j : ℕ) → b / 2 ^ 52 + suc j ≡ 1075 → j < 53 → half_up (magnitude b) (2 ^ 1074) ≡ ((2 ^ 52 + b % 2 ^ 52) / 2 ^ j + 1) / 2
half_shifted b j e l =
    let x = b / 2 ^ 52 - 1 in
    let f : b / 2 ^ 52 ≡ suc x = omega arith in
    let p : 2 ^ 1074 ≡ 2 ^ suc x * 2 ^ j = ap (λ (n : ℕ). 2 ^ n) (go x j (ap (λ (n : ℕ). n + suc j) (sym f) ∙ e)) ∙ pow-add 2 (suc x) j in
    let s = 2 ^ 52 + b % 2 ^ 52 in
    ap (λ (n : ℕ). half_up n (2 ^ 1074)) (big b x f)
    ∙ ap (λ (n : ℕ). half_up (s * 2 ^ x) n) p
    ∙ div_same (2 * (s * 2 ^ x) + 2 ^ suc x * 2 ^ j) (2 * (2 ^ suc x * 2 ^ j)) (s + 2 ^ j) (2 ^ suc j) (twice (2 ^ suc x * 2 ^ j) (mul-pos (pow_pos (suc x)) (pow_pos j))) (pow_pos (suc j))
    (rw (pow-suc 2 x, pow-suc 2 j) (ring s (2 ^ x) (2 ^ j)))
    ∙ sym (shifted s j)
  where
    go : (x j : ℕ) → suc x + suc j ≡ 1075 → 1074 ≡ suc x + j
    go x j h = omega arith

    twice : (n : ℕ) → 0 < n → 0 < 2 * n
    twice n h = omega arith

    ring : (s p q : ℕ) → (2 * (s * p) + p * 2 * q) * (q * 2) ≡ (s + q) * (2 * (p * 2 * q))
    ring s p q = omega arith

-- ---- from 2 ^ 52 on
whole-bits : (b : ℕ) → 1075 ≤ b / 2 ^ 52 → magnitude b ≡ (2 ^ 52 + b % 2 ^ 52) * 2 ^ (b / 2 ^ 52 - 1075) * 2 ^ 1074
whole-bits b h =
    let x = b / 2 ^ 52 - 1 in
    let f : b / 2 ^ 52 ≡ suc x = omega arith in
    let g : x ≡ (b / 2 ^ 52 - 1075) + 1074 = omega arith in
    big b x f ∙ ap (λ (n : ℕ). (2 ^ 52 + b % 2 ^ 52) * n) (ap (λ (n : ℕ). 2 ^ n) g ∙ pow-add 2 (b / 2 ^ 52 - 1075) 1074) ∙ sym (mul_assoc (2 ^ 52 + b % 2 ^ 52) (2 ^ (b / 2 ^ 52 - 1075)) (2 ^ 1074))

-- a whole number rounds to itself
half_whole : (n d : ℕ) → 0 < d → half_up (n * d) d ≡ n
half_whole n d h = div-eq_of_lt-le (2 * d) (low n d) (high n d h)
  where
    low : (n d : ℕ) → n * (2 * d) ≤ 2 * (n * d) + d
    low n d = omega arith

    high : (n d : ℕ) → 0 < d → 2 * (n * d) + d < (n + 1) * (2 * d)
    high n d h = omega arith

pub round_large : (s : Bool) (m : ℕ) (e : ℤ) → T (fits binary64 (fin s m e)) → 1075 * 2 ^ 52 ≤ to_bits binary64 (fin false m e)
    → fin s m e ≡ round (fin s m e)
unfolding round
round_large s m e h l =
    let b = to_bits binary64 (fin false m e) in
    let f = fits_sign s false m e h in
    let u : b < 2047 * 2 ^ 52 = finite_bits m e f in
    let q = 2 ^ 52 + b % 2 ^ 52 in
    let j = b / 2 ^ 52 - 1075 in
    let n = q * 2 ^ j in
    let w : magnitude b ≡ n * 2 ^ 1074 = whole-bits b (omega arith) in
    let v : half_up (m * up e) (down e) ≡ n = half_bits m e f ∙ ap (λ (x : ℕ). half_up x (2 ^ 1074)) w ∙ half_whole n (2 ^ 1074) (pow_pos 1074) in
    let small : q < 2 ^ 53 = omega arith in
    let scaled : n * 2 ^ 1074 ≡ q * 2 ^ (j + 1074) = mul_assoc q (2 ^ j) (2 ^ 1074) ∙ ap (λ (x : ℕ). q * x) (sym (pow-add 2 j 1074)) in
    let range : q * 2 ^ (j + 1074) < 2 ^ 2098 = lt_of_lt_of_le (shl_lt 53 (j + 1074) small) (pow_mono {i = 53 + (j + 1074)} {j = 2098} (omega arith)) in
    let exact : HasValue (Ieee.round binary64 s n 1) s n 1 = round_exact binary64 s n 1 q (j + 1074) (omega arith) small range (scaled ∙ sym (mul-one (q * 2 ^ (j + 1074)))) in
    let own : m * up e ≡ n * down e =
    eq_of_mul-eq-mul_right (2 ^ 1074) (pow_pos 1074) (m * up e) (n * down e) (size-bits m e f ∙ ap (λ (x : ℕ). x * down e) w ∙ mul_right_comm n (2 ^ 1074) (down e)) in
    rw v (whole_unique binary64 (fin s m e) (Ieee.round binary64 s n 1) s n h (round-fits binary64 s n 1) (refl, mul-one (m * up e) ∙ own) exact)

-- ---- what the code finds: q is the size rounded, by the bits
size_is_lem : (m : ℕ) (x : ℤ) (b q : ℕ) → T (fits binary64 (fin false m x)) → b ≡ to_bits binary64 (fin false m x) → q ≡ half_up (magnitude b) (2 ^ 1074) → q ≡ half_up (m * up x) (down x)
size_is_lem m x b q h e z = z ∙ ap (λ (k : ℕ). half_up (magnitude k) (2 ^ 1074)) e ∙ sym (half_bits m x h)

round_by : (v : Float) (b q : ℕ) → T (fits binary64 v) → ne v v ≡ false → b ≡ to_bits binary64 (abs v) → b < 1075 * 2 ^ 52 → q ≡ half_up (magnitude b) (2 ^ 1074)
    → cond (negative v) (neg (of_nat q)) (of_nat q) ≡ round v
unfolding round of_int to_bits Ieee.ne Ieee.eq
round_by nan b q h n e l z = absurd (subst T n tt)
round_by (inf s) b q h n e l z = absurd (too_big b e l)
  where
    too_big : (b : ℕ) → b ≡ 2047 * 2 ^ 52 → b < 1075 * 2 ^ 52 → ⊥
    too_big b e l = omega arith
round_by (fin true m x) b q h n e l z = neg-round q 1 ∙ ap (λ (k : ℕ). Ieee.round binary64 true k 1) (size_is_lem m x b q (fits_sign true false m x h) e z)
round_by (fin false m x) b q h n e l z = ap (λ (k : ℕ). Ieee.round binary64 false k 1) (size_is_lem m x b q h e z)

module _ (v : Float) (b q : ℕ) (h : T (fits binary64 v)) (n : ne v v ≡ false) (e : b ≡ to_bits binary64 (abs v)) (l : b < 1075 * 2 ^ 52) (z : q ≡ half_up (magnitude b) (2 ^ 1074)) where
  pub round-minus : negative v ≡ true → neg (of_nat q) ≡ round v
  round-minus s = sym (rw s) ∙ round_by v b q h n e l z

  pub round_plus : negative v ≡ false → of_nat q ≡ round v
  round_plus s = sym (rw s) ∙ round_by v b q h n e l z

pub round-itself : (v : Float) (b : ℕ) → T (fits binary64 v) → b ≡ to_bits binary64 (abs v) → 1075 * 2 ^ 52 ≤ b → v ≡ round v
unfolding round
round-itself nan b h e l = refl
round-itself (inf s) b h e l = refl
round-itself (fin s m x) b h e l = unfold round in (round_large s m x h (omega arith))

-- the size rounded is at most 2 ^ 53
pub half_small : (s j : ℕ) → s < 2 ^ 53 → (s / 2 ^ j + 1) / 2 ≤ 2 ^ 53
half_small s j h = omega (arith, shr_le s j)
