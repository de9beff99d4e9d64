-- The stand-ins of document 01 for the library's float functions, in its words. Each operation rounds once.
use Rattle.std.specs.Prelude.{Bool, true, false, cond, not, ◌&&◌, ℕ, ◌+◌, ◌-◌, ◌*◌, ◌/◌, ◌^◌, leb, eqb, Float}
use Rattle.std.specs.Float.{nan, inf, fin, binary64}
use Rattle.std.specs.Float.Ieee.{is_nan, of_bits, to_bits, up, down}
use Rattle.std.specs.Float.Ieee as Ieee
use Rattle.laws.specs.Loops.{down as countdown}
use Rattle.root.specs.Root.{root_bits}
use Rattle.float.specs.Constants.{f0, f1, f2, f4, f25, π, τ}
use Rattle.float.specs.Ops.{◌⊕◌, ◌⊖◌, ◌⊗◌, ◌⊘◌, rem, neg, lt, eq, ne, of_nat}
use Rattle.std.specs.declared.cmp.Ordering.{Ordering}
use Rattle.std.specs.declared.cmp.Ordering.TheVariants.{Less, Equal, Greater}

-- ---- signs

-- whether the sign bit is set; the one NaN counts as unsigned
abbrev pub negative : Float → Bool
negative nan = false
negative (inf s) = s
negative (fin s m e) = s

-- abs as Rust's library documents: the sign bit cleared
abbrev pub abs : Float → Float
abs nan = nan
abs (inf s) = inf false
abs (fin s m e) = fin false m e

-- "copysign": the size of the first with the sign of the second
abbrev pub copysign : Float → Float → Float
copysign v s = cond (negative s) (neg (abs v)) (abs v)

-- "signum": 1 with the number's sign, NaN for NaN
abbrev pub signum : Float → Float
signum v = cond (is_nan v) nan (copysign f1 v)

-- ---- the larger, the smaller, and between

-- "min and max return the first argument unless the second is strictly smaller or larger; a NaN gives way to the other"
abbrev pub min : Float → Float → Float
min a b = cond (ne a a) b (cond (lt b a) b a)

abbrev pub max : Float → Float → Float
max a b = cond (ne a a) b (cond (lt a b) b a)

-- "clamp": the low end below it, the high end above it, else the number
abbrev pub clamp : Float → Float → Float → Float
clamp v low high = cond (lt v low) low (cond (lt high v) high v)

-- ---- root, hypot, midpoint, round, rem_euclid

-- "root(v): the f64 nearest the exact square root of v" (`root_bits`, for the bits of a finite number above zero);
-- "Zero gives itself, plus infinity itself; negative or NaN gives 0"
unfoldable pub root_of : Float → ℕ → Float
root_of v b =
    let nearest = of_bits binary64 (root_bits b) in
    cond (eqb b 0) v
    (cond (eqb b (2 ^ 63)) v
    (cond (leb (2 ^ 63) b) f0
    (cond (leb (2047 * 2 ^ 52) b) v
    nearest)))

unfoldable pub root : Float → Float
root v = let by_bits = root_of v (to_bits binary64 v) in cond (is_nan v) f0 by_bits

-- "hypot(a, b) = root(a·a + b·b)"
abbrev pub hypot : Float → Float → Float
hypot a b = root (a ⊗ a ⊕ b ⊗ b)

-- "midpoint = (a + b)/2"
abbrev pub midpoint : Float → Float → Float
midpoint a b = (a ⊕ b) ⊘ f2

-- the whole number nearest a / d, a half upwards
abbrev pub half_up : ℕ → ℕ → ℕ
half_up a d = (2 * a + d) / (2 * d)

-- "round goes half away from zero": the size rounded with a half upwards, the sign kept
unfoldable pub round : Float → Float
round nan = nan
round (inf s) = inf s
round (fin s m e) = Ieee.round binary64 s (half_up (m * up e) (down e)) 1

-- "rem_euclid(a, TAU): r = a % TAU; where r < 0, r + TAU"
abbrev pub rem_euclid : Float → Float
rem_euclid a = let r = rem a τ in cond (lt r f0) (r ⊕ τ) r

-- ---- sine and cosine

-- "r = a % TAU; above PI subtract TAU, below −PI add TAU"
unfoldable pub reduced : Float → Float
reduced a = let r = rem a τ in cond (lt π r) (r ⊖ τ) (cond (lt r (neg π)) (r ⊕ τ) r)

-- "t = 1 − (z / d)·t"
abbrev pub term : Float → ℕ → Float → Float
term z d t = f1 ⊖ z ⊘ of_nat d ⊗ t

-- "d = 2k(2k+1) for sine and (2k−1)·2k for cosine"
abbrev pub sine_divisor : ℕ → ℕ
sine_divisor k = 2 * k * (2 * k + 1)

abbrev pub cosine_divisor : ℕ → ℕ
cosine_divisor k = (2 * k - 1) * (2 * k)

-- "t = 1. For k = 14 down to 1"
unfoldable pub series : (ℕ → ℕ) → Float → Float
series d z = countdown (λ k. term z (d k)) 14 f1

-- "z = r·r", "Sine is r·t, cosine t"
unfoldable pub sin : Float → Float
sin a = let r = reduced a in r ⊗ series sine_divisor (r ⊗ r)

unfoldable pub cos : Float → Float
cos a = let r = reduced a in series cosine_divisor (r ⊗ r)

-- ---- arctangent

-- "u = u / (1 + root(1 + u·u))"
abbrev pub halved : Float → Float
halved u = u ⊘ (f1 ⊕ root (f1 ⊕ u ⊗ u))

-- "t = 1/25; for k = 11 down to 0, t = 1/(2k+1) − z·t"; the step with k counts as step k + 1
abbrev pub arc_term : Float → ℕ → Float → Float
arc_term z n t = f1 ⊘ of_nat (2 * (n - 1) + 1) ⊖ z ⊗ t

unfoldable pub arc_series : Float → Float
arc_series z = countdown (arc_term z) 12 (f1 ⊘ f25)

-- "Twice u = u / (1 + root(1 + u·u)). z = u·u; .. The angle is 4·(u·t)"
unfoldable pub arctangent_of : Float → Float
arctangent_of w = let u = halved (halved w) in f4 ⊗ (u ⊗ arc_series (u ⊗ u))

-- "u = b/a, or 0 where a = 0"
abbrev pub share : Float → Float → Float
share b a = cond (eq a f0) f0 (b ⊘ a)

-- the angle of the upper right quarter, of sizes y and x: "a the larger, b the smaller of |x|, |y|", "Where |y| > |x| it becomes PI/2 minus it"
unfoldable pub quarter : Float → Float → Float
quarter y x = let angle = arctangent_of (share (min x y) (max x y)) in cond (lt x y) (π ⊘ f2 ⊖ angle) angle

-- "then, if x's sign bit is set, PI minus it"
abbrev pub turned_back : Bool → Float → Float
turned_back back angle = cond back (π ⊖ angle) angle

-- "then, if y's is set, its negative"
unfoldable pub atan2 : Float → Float → Float
atan2 y x = let half = turned_back (negative x) (quarter (abs y) (abs x)) in cond (negative y) (neg half) half

-- ---- total order

-- "total_cmp puts −0 before 0": of equals, the one whose sign bit alone is set
abbrev pub minus_first : Bool → Bool → Bool
minus_first first second = first && not second

-- whether a stands before b: by number, then −0 before 0; NaN stands last
unfoldable pub precedes : Float → Float → Bool
precedes a b =
    cond (lt a b) true
    (cond (eq a b) (minus_first (negative a) (negative b))
    (not (is_nan a) && is_nan b))

abbrev pub total_cmp : Float → Float → Ordering
total_cmp a b = cond (precedes a b) Less (cond (precedes b a) Greater Equal)
