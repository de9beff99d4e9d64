-- Where the square of an angle is at most 4, the cosine's series is not below -1: each step but the last keeps within 0 and 1, and the last takes away 2 at most.
-- Assumes nothing.
use Rattle.std.specs.Prelude.{◌≡◌, refl, Bool, true, false, T, leb, ltb, ℤ, Float}
use Rattle.std.proofs.Common.{sym, ap, ◌∙◌, subst, le_trans, le_of_eq, mul-pos, mul-le-mul, mul-le-mul_right, arith, le-ltb, ltb-false, leb-true, ne_eqb}
use Prim.Native.Nat.{ℕ, zero, suc, ◌-◌, ◌*◌, ◌^◌, ◌≤◌, ◌<◌}
use Rattle.std.specs.Float.{nan, inf, fin, binary64}
use Rattle.std.specs.Float.Ieee.{up, down, of_bits, of_int, round}
use Rattle.std.specs.Float.Ieee as Ieee
use Rattle.std.specs.Float.Ieee.Exact.{HasValue}
use Rattle.std.specs.Float.Ieee.Back.{round_whole}
use Rattle.std.specs.Float.Ieee.Fits.{up_pos, down_pos}
use Rattle.std.specs.Float.Ieee.Order.{round_mono}
use Rattle.std.specs.Float.Ieee.Positive.{through, first_pos}
use Rattle.laws.specs.Cases.{by_bool}
use Rattle.laws.specs.Loops.{down as countdown}
use Rattle.float.specs.Constants.{f1}
use Rattle.float.specs.Ops.{◌⊖◌, ◌⊗◌, ◌⊘◌, neg, lt, of_nat}
use Rattle.float.specs.Standins.{term, cosine_divisor, series}
use Rattle.float.specs.Sizes.{Form, round_form, sizes-ordered, signs_apart}

-- not negative, and at most n
abbrev UpTo : ℕ → Float → Type 0
UpTo n nan = ⊥
UpTo n (inf s) = ⊥
UpTo n (fin true m e) = ⊥
UpTo n (fin false m e) = m * up e ≤ n * down e

-- the same as a test, up to 4
abbrev pub gentle : Float → Bool
gentle nan = false
gentle (inf s) = false
gentle (fin true m e) = false
gentle (fin false m e) = leb (m * up e) (4 * down e)

gentle-up : (z : Float) → gentle z ≡ true → UpTo 4 z
gentle-up nan t = absurd (subst T (sym t) tt)
gentle-up (inf s) t = absurd (subst T (sym t) tt)
gentle-up (fin true m e) t = absurd (subst T (sym t) tt)
gentle-up (fin false m e) t = leb-true (m * up e) (4 * down e) t

-- ---- a fraction of at most n rounds to at most n

not-over : {u u' : Float} (y : Float) (n : ℕ) → Form u u' → HasValue y false n 1 → lt y u ≡ false → UpTo n u
unfolding Ieee.lt
not-over nan n f v t = absurd v
not-over (inf s) n f v t = absurd v
not-over (fin true k d) n f v t = absurd (subst T v.0 tt)
not-over (fin false k d) n Form.endless v t = absurd (subst T t tt)
not-over (fin false k d) n (Form.finite {m} {e}) v t =
    omega (arith, through (m * up e) (k * up d) n (down e) (down d) 1 (down_pos d) (ltb-false (k * up d * down e) (m * up e * down d) t) (le_of_eq v.1))

round_up_to : (n a d : ℕ) → n ≤ 2 ^ 53 → 0 < d → a ≤ n * d → UpTo n (round binary64 false a d)
round_up_to n a d l p h =
    not-over (round binary64 false n 1) n (round_form a d) (round_whole binary64 false n l)
    (sizes-ordered (round_form a d) (round_form n 1) (round_mono binary64 a d n 1 p (omega arith) (omega arith))).0

-- ---- quotient, product and difference

div_is : (m : ℕ) (e : ℤ) (k : ℕ) (d : ℤ) → 0 < k → fin false m e ⊘ fin false k d ≡ round binary64 false (m * up e * down d) (k * up d * down e)
unfolding Ieee.div
div_is m e k d h = let z : k ≡ 0 → ⊥ = λ w. omega arith in rw (ne_eqb k 0 z)

over-whole : (a b d : ℕ) (z : Float) → b ≤ 2 ^ 53 → 0 < d → d ≤ 2 ^ 53 → a ≤ b * d → UpTo a z → UpTo b (z ⊘ of_nat d)
unfolding of_int
over-whole a b d z l p w h u = go z (round binary64 false d 1) u (round_whole binary64 false d w)
  where
    scaled : (x y c e : ℕ) → x ≤ a * e → y * 1 ≡ d * c → x * c ≤ b * (y * e)
    scaled x y c e v q =
        let i : x * c ≤ a * e * c = mul-le-mul_right c v in
        let j : a * (e * c) ≤ b * d * (e * c) = mul-le-mul_right (e * c) h in
        let k : b * (y * e) ≡ b * d * (e * c) = ap (λ (n : ℕ). b * (n * e)) (omega (arith, q)) ∙ regroup b d c e in
        omega (arith, i, j, k)
      where
        regroup : (b d c e : ℕ) → b * (d * c * e) ≡ b * d * (e * c)
        regroup b d c e = omega arith

    go : (z y : Float) → UpTo a z → HasValue y false d 1 → UpTo b (z ⊘ y)
    go nan y v q = absurd v
    go (inf s) y v q = absurd v
    go (fin true m e) y v q = absurd v
    go (fin false m e) nan v q = absurd q
    go (fin false m e) (inf s) v q = absurd q
    go (fin false m e) (fin true k c) v q = absurd (subst T q.0 tt)
    go (fin false m e) (fin false k c) v q =
        let K : 0 < k = first_pos k (up c) (omega (arith, q.1, mul-pos p (down_pos c))) in
        rw (div_is m e k c K)
        (round_up_to b (m * up e * down c) (k * up c * down e) l (mul-pos (mul-pos K (up_pos c)) (down_pos e)) (scaled (m * up e) (k * up c) (down c) (down e) v q.1))

times_one : (n : ℕ) (x y : Float) → n ≤ 2 ^ 53 → UpTo n x → UpTo 1 y → UpTo n (x ⊗ y)
unfolding Ieee.mul
times_one n nan y l v w = absurd v
times_one n (inf s) y l v w = absurd v
times_one n (fin true m e) y l v w = absurd v
times_one n (fin false m e) nan l v w = absurd w
times_one n (fin false m e) (inf s) l v w = absurd w
times_one n (fin false m e) (fin true k d) l v w = absurd w
times_one n (fin false m e) (fin false k d) l v w =
    let h : m * up e * (k * up d) ≤ n * down e * (1 * down d) = mul-le-mul v w in
    round_up_to n (m * up e * (k * up d)) (down e * down d) l (mul-pos (down_pos e) (down_pos d)) (omega (arith, h))

from_one : (x : Float) → UpTo 1 x → UpTo 1 (f1 ⊖ x)
unfolding Ieee.sub Ieee.add Ieee.neg Ieee.sum of_bits
from_one nan v = absurd v
from_one (inf s) v = absurd v
from_one (fin true m e) v = absurd v
from_one (fin false m e) v =
    let o : ltb (1 * 1 * down e) (m * up e * 1) ≡ false = le-ltb (1 * 1 * down e) (m * up e * 1) (omega arith) in
    rw o (round_up_to 1 (1 * 1 * down e - m * up e * 1) (1 * down e) (omega arith) (omega (arith, down_pos e)) (omega arith))

-- the last step
minus_one : round binary64 true 1 1 ≡ neg f1
unfolding round Ieee.neg of_bits
minus_one = refl

from_two : (x : Float) → UpTo 2 x → lt (f1 ⊖ x) (neg f1) ≡ false
unfolding Ieee.sub Ieee.add Ieee.neg Ieee.sum of_bits
from_two nan v = absurd v
from_two (inf s) v = absurd v
from_two (fin true m e) v = absurd v
from_two (fin false m e) v =
    by_bool (ltb (1 * 1 * down e) (m * up e * 1))
    (λ o. rw o (ap (lt (round binary64 true (m * up e * 1 - 1 * 1 * down e) (1 * down e))) (sym minus_one)
    ∙ (sizes-ordered (round_form (m * up e * 1 - 1 * 1 * down e) (1 * down e)) (round_form 1 1)
    (round_mono binary64 (m * up e * 1 - 1 * 1 * down e) (1 * down e) 1 1 (omega (arith, down_pos e)) (omega arith) (omega arith))).1))
    (λ o. rw o (ap (lt (round binary64 false (1 * 1 * down e - m * up e * 1) (1 * down e))) (sym minus_one)
    ∙ signs_apart (round_form (1 * 1 * down e - m * up e * 1) (1 * down e)) (round_form 1 1)))

-- ---- the series

divisor_from : (k : ℕ) → 2 ≤ k → 4 ≤ cosine_divisor k
divisor_from k h = le_trans (omega arith) (mul-le-mul {n₁ = 2} {m₁ = 2} {n₂ = 2 * k - 1} {m₂ = 2 * k} (omega arith) (omega arith))

divisor-to : (k : ℕ) → k ≤ 14 → cosine_divisor k ≤ 2 ^ 53
divisor-to k h = le_trans (mul-le-mul {n₁ = 2 * k - 1} {m₁ = 2 * k} {n₂ = 27} {m₂ = 28} (omega arith) (omega arith)) (omega arith)

module _ (z : Float) (u : UpTo 4 z) where
  step_in_lem : (d : ℕ) (t : Float) → 4 ≤ d → d ≤ 2 ^ 53 → UpTo 1 t → UpTo 1 (term z d t)
  step_in_lem d t h w v = from_one (z ⊘ of_nat d ⊗ t) (times_one 1 (z ⊘ of_nat d) t (omega arith) (over-whole 4 1 d z (omega arith) (omega arith) w (omega arith) u) v)

  steps_above : (n : ℕ) (t : Float) → n ≤ 13 → UpTo 1 t → lt (countdown (λ k. term z (cosine_divisor k)) (suc n) t) (neg f1) ≡ false
  unfolding countdown
  steps_above zero t h v = from_two (z ⊘ of_nat 2 ⊗ t) (times_one 2 (z ⊘ of_nat 2) t (omega arith) (over-whole 4 2 2 z (omega arith) (omega arith) (omega arith) (omega arith) u) v)
  steps_above (suc n) t h v =
      steps_above n (term z (cosine_divisor (suc (suc n))) t) (omega arith)
      (step_in_lem (cosine_divisor (suc (suc n))) t (divisor_from (suc (suc n)) (omega arith)) (divisor-to (suc (suc n)) (omega arith)) v)

one_in : UpTo 1 f1
unfolding of_bits
one_in = omega arith

pub gentle_above : (z : Float) → gentle z ≡ true → lt (series cosine_divisor z) (neg f1) ≡ false
unfolding series
gentle_above z t = steps_above z (gentle-up z t) 13 f1 (omega arith) one_in
