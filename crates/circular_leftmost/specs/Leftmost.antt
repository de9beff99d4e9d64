-- On a ring of 2 to 64 states no state lies farther left than the start state, whatever the label's width (`start_leftmost`). Assumes nothing.
use Rattle.std.specs.Prelude.{◌≡◌, refl, Bool, true, false, not, ℕ, zero, suc, ◌+◌, ◌-◌, ◌*◌, ◌/◌, ◌%◌, ◌≤◌, ◌<◌, T, eqb, get_or, Float}
use Rattle.std.proofs.Common.{sym, ap₂, ◌∙◌, subst, mul-pos, mul-le-mul_left, ne_eqb, ltb-false, eqb→eq}
use Rattle.std.proofs.Math.Path.{ap}
use native.Mathlib.Omega.{arith}
use Rattle.std.specs.Float.Ieee.{nan, up, down, fits, of_bits, to_bits, round}
use Rattle.std.specs.Float.{inf, fin, binary64}
use Rattle.std.specs.Float.Ieee as Ieee
use Rattle.std.specs.Float.Ieee.Fits.{down_pos, and_l, and_r, add-fits}
use Rattle.std.specs.Float.Ieee.Bits.{of_bits-to_bits}
use Rattle.std.specs.Float.Ieee.Order.{round_mono}
use Rattle.laws.specs.Cases.{by_bool, by_lt}
use Rattle.laws.specs.Tables.{table_at}
use Rattle.float.specs.Constants.{f1, f2, f20, f24, π, node_radius, circle_gap}
use Rattle.float.specs.Ops.{◌⊕◌, ◌⊗◌, ◌⊘◌, neg, lt, of_nat, same_bits}
use Rattle.float.specs.Standins.{negative, clamp, reduced, cosine_divisor, series, sin, cos}
use Rattle.float.specs.Sizes.{round_form, sizes-ordered, signs_apart, form_unsigned}
use Rattle.circular.specs.Ring.{ring_chord, radius, ring_place, place_angle, cos_at, around_ring, ringed, circular_xs}
use Rattle.circular.specs.Places.{place-below, start_left}
use Rattle.circular_leftmost.specs.Bound.{gentle, gentle_above}
use Rattle.circular_leftmost.specs.Tests.{all_below, all_from, keeps_right, not_left, odd_ring, odd_places, even_places, radius_upward, sines, odd_ring_0, odd_ring_20, odd_ring_27, odd_places_0, odd_places_27, even_places_0, even_places_25}

-- ---- a factor that is not negative keeps what is not below -1 at or above its product with -1

over-infinity : (y : Float) → lt (inf false) y ≡ false
unfolding Ieee.lt
over-infinity nan = refl
over-infinity (inf t) = refl
over-infinity (fin t n d) = refl

-- n / d ≤ 1 times m / e
shrunk : (m e n d : ℕ) → n ≤ d → m * n * (e * 1) ≤ m * (1 * 1) * (e * d)
shrunk m e n d h = let w : m * e * n ≤ m * e * d = mul-le-mul_left (m * e) h in omega (arith, w)

pub times-left : (r c : Float) → negative r ≡ false → lt c (neg f1) ≡ false → lt (r ⊗ c) (r ⊗ neg f1) ≡ false
unfolding Ieee.lt Ieee.mul Ieee.neg of_bits
times-left nan c s h = refl
times-left (inf true) c s h = absurd (subst T s tt)
times-left (inf false) nan s h = refl
times-left (inf false) (inf true) s h = refl
times-left (inf false) (inf false) s h = refl
times-left (inf false) (fin true n d) s h = by_bool (eqb n 0) (λ e. rw e) (λ e. rw e)
times-left (inf false) (fin false n d) s h = by_bool (eqb n 0) (λ e. rw e) (λ e. rw e)
times-left (fin true m e) c s h = absurd (subst T s tt)
times-left (fin false m e) nan s h = refl
times-left (fin false m e) (inf true) s h = absurd (subst T h tt)
times-left (fin false m e) (inf false) s h = by_bool (eqb m 0) (λ q. rw q) (λ q. rw q (over-infinity (fin false m e ⊗ neg f1)))
times-left (fin false m e) (fin false n d) s h = signs_apart (round_form (m * up e * (n * up d)) (down e * down d)) (round_form (m * up e * (1 * 1)) (down e * 1))
times-left (fin false m e) (fin true n d) s h =
    let k : n * up d ≤ down d = omega (arith, ltb-false (1 * 1 * down d) (n * up d * 1) h) in
    (sizes-ordered (round_form (m * up e * (n * up d)) (down e * down d)) (round_form (m * up e * (1 * 1)) (down e * 1))
    (round_mono binary64 (m * up e * (n * up d)) (down e * down d) (m * up e * (1 * 1)) (down e * 1) (mul-pos (down_pos e) (down_pos d)) (mul-pos (down_pos e) (omega arith))
    (shrunk (m * up e) (down e) (n * up d) (down d) k))).1

-- ---- the radius is not negative

over-unsigned : (x y : Float) → negative x ≡ false → negative y ≡ false → negative (x ⊘ y) ≡ false
unfolding Ieee.div
over-unsigned nan y s t = refl
over-unsigned (inf true) y s t = absurd (subst T s tt)
over-unsigned (inf false) nan s t = refl
over-unsigned (inf false) (inf b) s t = refl
over-unsigned (inf false) (fin true n d) s t = absurd (subst T t tt)
over-unsigned (inf false) (fin false n d) s t = refl
over-unsigned (fin true m e) y s t = absurd (subst T s tt)
over-unsigned (fin false m e) nan s t = refl
over-unsigned (fin false m e) (inf true) s t = absurd (subst T t tt)
over-unsigned (fin false m e) (inf false) s t = refl
over-unsigned (fin false m e) (fin true n d) s t = absurd (subst T t tt)
over-unsigned (fin false m e) (fin false n d) s t =
    by_bool (eqb n 0) (λ p. rw p (by_bool (eqb m 0) (λ q. rw q) (λ q. rw q))) (λ p. rw p (form_unsigned (round_form (m * up e * down d) (n * up d * down e))))

from_150 : (v : Float) → lt v circle_gap ≡ false → negative v ≡ false
unfolding Ieee.lt of_bits
from_150 nan h = refl
from_150 (inf true) h = absurd (subst T h tt)
from_150 (inf false) h = refl
from_150 (fin true m e) h = absurd (omega (arith, ltb-false 0 (m * up e * 1 + 75 * 2 * down e) h, down_pos e))
from_150 (fin false m e) h = refl

unsigned_150 : negative circle_gap ≡ false
unfolding of_bits
unsigned_150 = refl

unsigned_320 : negative (f2 ⊗ circle_gap ⊕ f20) ≡ false
unfolding Ieee.add Ieee.mul Ieee.sum of_bits round
unsigned_320 = refl

pub clamp-unsigned : (v high : Float) → negative high ≡ false → negative (clamp v circle_gap high) ≡ false
clamp-unsigned v high s = by_bool (lt v circle_gap) (λ h. rw h unsigned_150) (λ h. rw h (by_bool (lt high v) (λ k. rw k s) (λ k. rw k (from_150 v h))))

-- ---- from the tables

below_at : (p : ℕ → Bool) (n : ℕ) → T (all_below p n) → (k : ℕ) → k < n → T (p k)
below_at p zero t k h = absurd (omega arith)
below_at p (suc n) t k h =
    by_lt k n (λ (l : k < n). below_at p n (and_r (p n) (all_below p n) t) k l)
    (λ (l : n ≤ k). let e : n ≡ k = omega arith in subst (λ (j : ℕ). T (p j)) e (and_l (p n) (all_below p n) t))

denied : (b : Bool) → T (not b) → b ≡ false
denied true t = absurd t
denied false t = refl

from_at : (p : ℕ → Bool) (n a m : ℕ) → T (all_from p a m) → a ≤ n → n < a + m → T (p n)
from_at p n a m t h k = let e : a + (n - a) ≡ n = omega arith in subst (λ (j : ℕ). T (p j)) e (below_at (λ j. p (a + j)) m t (n - a) (omega arith))

odd_ring_lem : (h : ℕ) → h < 32 → T (odd_ring h)
odd_ring_lem h l =
    by_lt h 20 (λ (u : h < 20). from_at odd_ring h 0 20 odd_ring_0 (omega arith) (omega arith)) (λ (g20 : 20 ≤ h).
    by_lt h 27 (λ (u : h < 27). from_at odd_ring h 20 7 odd_ring_20 (omega arith) (omega arith)) (λ (g27 : 27 ≤ h).
    from_at odd_ring h 27 5 odd_ring_27 (omega arith) (omega arith)))

odd_places_lem : (h : ℕ) → h ≤ 32 → T (odd_places h)
odd_places_lem h l =
    by_lt h 27 (λ (u : h < 27). from_at odd_places h 0 27 odd_places_0 (omega arith) (omega arith)) (λ (g27 : 27 ≤ h).
    from_at odd_places h 27 6 odd_places_27 (omega arith) (omega arith))

even-places : (h : ℕ) → h ≤ 32 → T (even_places h)
even-places h l =
    by_lt h 25 (λ (u : h < 25). from_at even_places h 0 25 even_places_0 (omega arith) (omega arith)) (λ (g25 : 25 ≤ h).
    from_at even_places h 25 8 even_places_25 (omega arith) (omega arith))

same_is : (a b : Float) → T (fits binary64 a) → T (fits binary64 b) → T (same_bits a b) → a ≡ b
same_is a b f g t = sym (of_bits-to_bits binary64 a f) ∙ ap (of_bits binary64) (eqb→eq (to_bits binary64 a) (to_bits binary64 b) t) ∙ of_bits-to_bits binary64 b g

even-angle : (h j : ℕ) → h ≤ 32 → j < h → place_angle (2 * h) (2 * j) ≡ place_angle h j
even-angle h j l k =
    same_is (place_angle (2 * h) (2 * j)) (place_angle h j) (add-fits binary64 π _) (add-fits binary64 π _)
    (below_at (λ j. same_bits (place_angle (2 * h) (2 * j)) (place_angle h j)) h (even-places h l) j k)

-- a ring has an odd number of states, or it is its odd places and a ring of half as many states
not_left_lem : (fuel n k : ℕ) → n ≤ fuel → n ≤ 64 → k < n → T (not_left n k)
not_left_lem zero n k f l h = absurd (omega arith)
not_left_lem (suc fuel) n k f l h =
    by_lt (n % 2) 1
    (λ (e : n % 2 < 1).
    let a : 2 * (n / 2) ≡ n = omega arith in
    by_lt (k % 2) 1
    (λ (o : k % 2 < 1).
    let b : 2 * (k / 2) ≡ k = omega arith in
    let p : place_angle (2 * (n / 2)) (2 * (k / 2)) ≡ place_angle (n / 2) (k / 2) = even-angle (n / 2) (k / 2) (omega arith) (omega arith) in
    let q : T (not_left (2 * (n / 2)) (2 * (k / 2))) = subst (λ (a : Float). T (keeps_right a)) (sym p) (not_left_lem fuel (n / 2) (k / 2) (omega arith) (omega arith) (omega arith)) in
    subst (λ (j : ℕ). T (not_left n j)) b (subst (λ (i : ℕ). T (not_left i (2 * (k / 2)))) a q))
    (λ (o : 1 ≤ k % 2).
    let b : 2 * (k / 2) + 1 ≡ k = omega arith in
    let q : T (not_left (2 * (n / 2)) (2 * (k / 2) + 1)) = below_at (λ j. not_left (2 * (n / 2)) (2 * j + 1)) (n / 2) (odd_places_lem (n / 2) (omega arith)) (k / 2) (omega arith) in
    subst (λ (j : ℕ). T (not_left n j)) b (subst (λ (i : ℕ). T (not_left i (2 * (k / 2) + 1))) a q)))
    (λ (e : 1 ≤ n % 2).
    let a : 2 * (n / 2) + 1 ≡ n = omega arith in
    subst (λ (i : ℕ). T (not_left i k)) a (below_at (not_left (2 * (n / 2) + 1)) (2 * (n / 2) + 1) (odd_ring_lem (n / 2) (omega arith)) k (omega arith)))

-- what the tests say of an angle
angle_above : (a : Float) → T (keeps_right a) → lt (cos a) (neg f1) ≡ false
unfolding cos
angle_above a t =
    let r = reduced a in
    by_bool (gentle (r ⊗ r)) (λ g. gentle_above (r ⊗ r) g) (λ g. denied (lt (series cosine_divisor (r ⊗ r)) (neg f1)) (rw g at t))

-- no cosine on the ring is below -1
pub cos_above : (n k : ℕ) → n ≤ 64 → k < n → lt (cos_at n k) (neg f1) ≡ false
cos_above n k l h = angle_above (place_angle n k) (not_left_lem n n k (omega arith) l h)

pub radius-unsigned : (n : ℕ) (label : Float) → n ≤ 64 → negative (radius n label) ≡ false
radius-unsigned n label l =
    over-unsigned (ring_chord label) (f2 ⊗ sin (π ⊘ of_nat n)) (clamp-unsigned (label ⊕ f2 ⊗ node_radius ⊕ f24) (f2 ⊗ circle_gap ⊕ f20) unsigned_320)
    (denied (negative (f2 ⊗ sin (π ⊘ of_nat n))) (below_at radius_upward 65 sines n (omega arith)))

-- ---- the start state is leftmost

module _ (n start : ℕ) (label : Float) (m : 1 < n) (l : n ≤ 64) (h : start < n) where
  at_state : (i : ℕ) → i < n → get_or (circular_xs n start label) i nan ≡ radius n label ⊗ cos_at n (ring_place n start i)
  unfolding ringed around_ring
  at_state i k =
      let z : n ≡ 1 → ⊥ = λ z. omega arith in
      rw (ne_eqb n 1 z)
      (table_at (λ i. radius n label ⊗ cos_at n (ring_place n start i)) 0 n i nan k
      ∙ ap (λ (j : ℕ). radius n label ⊗ cos_at n (ring_place n start j)) (omega arith))

  -- no state's x is less than the start state's, for any width of the label, NaN included
  pub start_leftmost : (i : ℕ) → i < n → lt (get_or (circular_xs n start label) i nan) (get_or (circular_xs n start label) start nan) ≡ false
  start_leftmost i k =
      ap₂ lt (at_state i k) (start_left n start label m l h).0
      ∙ times-left (radius n label) (cos_at n (ring_place n start i)) (radius-unsigned n label l) (cos_above n (ring_place n start i) l (place-below n start h i))
