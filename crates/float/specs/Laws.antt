-- What later crates cite of the stand-ins: the larger and the smaller, and the arctangent at zeros (roots: RootLaws); and of numbers without a sign. Assumes nothing.
-- (`<` of floats is transitive and irreflexive, with NaN and the infinities: `float_lt_trans`, `lt-itself` of laws.)
use Rattle.std.specs.Prelude.{◌≡◌, refl, Bool, true, cond, ℕ, zero, suc, ◌+◌, ◌*◌, T, ltb, ℤ, Float}
use Rattle.std.proofs.Common.{ap, ap₂, ◌∙◌, subst, mul-pos, mul-one, zero-mul, ne_eqb, le-ltb, ltb-false}
use Rattle.std.proofs.Math.Bool.{false}
use native.Mathlib.Omega.{arith}
use Rattle.std.specs.Float.{nan, inf, fin}
use Rattle.std.specs.Float.Ieee.{up, down, binary64, fits, is_nan, to_bits, of_bits}
use Rattle.std.specs.Float.Ieee as Ieee
use Rattle.std.specs.Float.Ieee.Scale.{round_same}
use Rattle.std.specs.Float.Ieee.Fits.{up_pos}
use Rattle.laws.specs.Cases.{by_bool, holds}
use Rattle.laws.specs.Between.{below_num, above_num, self_num, self_inf}
use Rattle.root.specs.Root.{root_bits}
use Rattle.remainder.specs.Unique.{fits_sign, round_own}
use Rattle.float.specs.Constants.{f0, π}
use Rattle.float.specs.Ops.{◌⊕◌, ◌⊘◌, neg, lt, eq, ne}
use Rattle.float.specs.Standins.{negative, abs, min, max, root, root_of, arctangent_of, share, quarter, atan2, arc_series}
use Rattle.float.specs.Signs.{abs_num}
use Rattle.float.specs.Sizes.{round_form, form_unsigned, equals_itself}

-- ---- the larger and the smaller
pub max-second : (a b : Float) → lt a b ≡ true → max a b ≡ b
max-second a b h = rw (below_num a b (holds h), h)

pub max-first : (a b : Float) → ne a a ≡ false → lt a b ≡ false → max a b ≡ a
max-first a b n h = rw (n, h)

pub min-second : (a b : Float) → lt b a ≡ true → min a b ≡ b
min-second a b h = rw (above_num b a (holds h), h)

pub min-first : (a b : Float) → ne a a ≡ false → lt b a ≡ false → min a b ≡ a
min-first a b n h = rw (n, h)

-- "a NaN gives way to the other"
pub max_nan : (a : Float) → (max nan a ≡ a) × (max a nan ≡ a)
unfolding Ieee.ne Ieee.eq Ieee.lt
max_nan nan = (refl, refl)
max_nan (inf s) = (refl, rw (self_inf s))
max_nan (fin s m e) = (refl, rw (self_num s m e))

pub min_nan : (a : Float) → (min nan a ≡ a) × (min a nan ≡ a)
unfolding Ieee.ne Ieee.eq Ieee.lt
min_nan nan = (refl, refl)
min_nan (inf s) = (refl, rw (self_inf s))
min_nan (fin s m e) = (refl, rw (self_num s m e))

-- ---- the arctangent: its sign, and where y is zero
pub atan2-down : (y x : Float) → negative y ≡ false → ne y y ≡ false → atan2 (neg y) x ≡ neg (atan2 y x)
unfolding atan2 Ieee.neg Ieee.ne Ieee.eq
atan2-down nan x s n = absurd (subst T n tt)
atan2-down (inf t) x s n = rw s
atan2-down (fin t m e) x s n = rw s

zero-over : (m : ℕ) (e : ℤ) → f0 ⊘ fin false (suc m) e ≡ f0
unfolding of_bits Ieee.div
zero-over m e =
    let n : suc m ≡ 0 → ⊥ = λ z. omega arith in
    rw (ne_eqb _ _ n)
    (round_same binary64 false (0 * 1 * down e) (suc m * up e * 1) 0 1 (mul-pos (mul-pos (omega arith) (up_pos e)) (omega arith)) (omega arith) (omega arith) ∙ unfold Ieee.round in refl)

zero-share : (a : Float) → negative a ≡ false → ne a a ≡ false → share f0 a ≡ f0
unfolding Ieee.eq Ieee.ne of_bits
zero-share nan s n = absurd (subst T n tt)
zero-share (inf t) s n = rw s (unfold Ieee.div in refl)
zero-share (fin t zero e) s n = rw (zero-mul (up e), zero-mul (down e), s)
zero-share (fin t (suc m) e) s n = by_bool (eq (fin t (suc m) e) f0) (λ w. rw w) (λ w. rw (w, s) (zero-over m e))

arc-zero : arctangent_of f0 ≡ f0
unfolding arctangent_of arc_series root root_of root_bits Rattle.root.specs.Root.nearest_root Rattle.root.specs.Root.whole_root Rattle.root.specs.Root.try_digits Rattle.root.specs.Root.scale Rattle.laws.specs.Loops.down Ieee.add Ieee.sub Ieee.mul Ieee.div Ieee.round Ieee.of_int of_bits Ieee.to_bits is_nan
arc-zero = refl

-- at y = 0 the quarter's angle is 0, so the answer is 0 for an x that is not negative and PI for one that is, with y's sign
pub not-below : (x : Float) → negative x ≡ false → lt x f0 ≡ false
unfolding Ieee.lt of_bits
not-below nan s = refl
not-below (inf t) s = s
not-below (fin t m e) s = rw (s, zero-mul (down e)) (le-ltb (m * up e * 1) 0 (omega arith))

is_zero : (x : Float) → negative x ≡ false → ne x x ≡ false → lt f0 x ≡ false → eq x f0 ≡ true
unfolding Ieee.lt Ieee.eq Ieee.ne of_bits
is_zero nan s n l = absurd (subst T n tt)
is_zero (inf t) s n l = absurd (subst T l (rw s tt))
is_zero (fin t m e) s n l =
    let k : ltb (0 * down e) (m * up e * 1) ≡ false = subst (λ (b : Bool). Ieee.below false (0 * down e) b (m * up e * 1) ≡ false) s l in
    let w : m * up e * 1 ≡ 0 = omega (arith, ltb-false (0 * down e) (m * up e * 1) k) in
    rw (s, w, zero-mul (down e))

quarter-zero : (x : Float) → negative x ≡ false → ne x x ≡ false → quarter f0 x ≡ f0
unfolding quarter
quarter-zero x s n =
    by_bool (lt f0 x)
    (λ t. rw (min-second x f0 t, max-first x f0 n (not-below x s), not-below x s, zero-share x s n) arc-zero)
    (λ t. rw (min-first x f0 n t, max-first x f0 n (not-below x s), not-below x s, is_zero x s n t) arc-zero)

pub atan2-zero : (x : Float) → ne x x ≡ false → atan2 f0 x ≡ cond (negative x) π f0
unfolding atan2 of_bits Ieee.sub Ieee.add Ieee.neg Ieee.sum Ieee.round
atan2-zero x n = rw (quarter-zero (abs x) (unsigned x) (abs_num x (abs x) refl n)) (by_bool (negative x) (λ t. rw t) (λ t. rw t))
  where
    unsigned : (x : Float) → negative (abs x) ≡ false
    unsigned nan = refl
    unsigned (inf t) = refl
    unsigned (fin t m e) = refl

pub atan2_minus_zero : (x : Float) → ne x x ≡ false → atan2 (neg f0) x ≡ neg (cond (negative x) π f0)
unfolding of_bits Ieee.ne Ieee.eq
atan2_minus_zero x n = atan2-down f0 x refl refl ∙ ap Ieee.neg (atan2-zero x n)

-- ---- numbers without a sign: 0 and what lies above it, infinity too, but not -0
pub record Unsigned (x : Float) : Type 0 where
  pub plus : negative x ≡ false
  pub number : ne x x ≡ false

-- 0 added: the same number, where -0 would become 0
pub add-zero : (x : Float) → T (fits binary64 x) → Unsigned x → x ⊕ f0 ≡ x
unfolding Ieee.add of_bits
add-zero nan h u = refl
add-zero (inf s) h u = refl
add-zero (fin s m e) h u =
    rw u.plus
    (unfold Ieee.sum in (ap₂ (Ieee.round binary64 false) (none (m * up e) (down e)) (mul-one (down e)) ∙ round_own false m e (fits_sign s false m e h)))
  where
    none : (a d : ℕ) → a * 1 + 0 * 1 * d ≡ a
    none a d = omega arith

-- and 0 is not larger
pub max-zero : (x : Float) → Unsigned x → max x f0 ≡ x
max-zero x u = max-first x f0 u.number (not-below x u.plus)

-- sums, and the larger of two
pub add-unsigned : (x y : Float) → Unsigned x → Unsigned y → Unsigned (x ⊕ y)
unfolding Ieee.add Ieee.ne Ieee.eq
add-unsigned nan y u v = absurd (subst T u.number tt)
add-unsigned (inf s) nan u v = absurd (subst T v.number tt)
add-unsigned (inf s) (inf t) u v = rw (u.plus, v.plus) (record { plus = refl; number = self_inf false })
add-unsigned (inf s) (fin t m e) u v = u
add-unsigned (fin s m e) nan u v = absurd (subst T v.number tt)
add-unsigned (fin s m e) (inf t) u v = v
add-unsigned (fin s m e) (fin t l d) u v =
    let f = round_form (m * up e * down d + l * up d * down e) (down e * down d) in
    rw (u.plus, v.plus) (unfold Ieee.sum in (record { plus = form_unsigned f; number = (equals_itself f).0 }))

pub max-unsigned : (x y : Float) → Unsigned x → Unsigned y → Unsigned (max x y)
max-unsigned x y u v = rw u.number (by_bool (lt x y) (λ t. rw t v) (λ t. rw t u))
