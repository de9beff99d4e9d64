-- The places on the ring, each taken once; the start state at the left. Assumes nothing.
use Rattle.std.specs.Prelude.{◌≡◌, refl, true, false, ℕ, zero, suc, ◌+◌, ◌-◌, ◌*◌, ◌%◌, ◌^◌, ◌≤◌, ◌<◌, T, ℤ, get_or, Float}
use Rattle.std.proofs.Math.Path.{ap}
use Rattle.std.proofs.Common.{◌∙◌, subst, mod-eq_of_lt, mod-lt, mul-pos, zero-mul, ne_eqb}
use Rattle.std.proofs.Math.Nat.{add-mod_right}
use native.Mathlib.Omega.{arith}
use Rattle.std.specs.Float.Ieee.{nan, up, down, of_bits, of_int, round, sum}
use Rattle.std.specs.Float.{inf, fin, binary64}
use Rattle.std.specs.Float.Ieee as Ieee
use Rattle.std.specs.Float.Ieee.Exact.{HasValue}
use Rattle.std.specs.Float.Ieee.Fits.{up_pos, down_pos}
use Rattle.std.specs.Float.Ieee.Back.{round_whole}
use Rattle.std.specs.Float.Ieee.Scale.{round_same}
use Rattle.laws.specs.Cases.{by_lt}
use Rattle.laws.specs.Loops as Loops
use Rattle.laws.specs.Tables.{table_at}
use Rattle.float.specs.Constants.{f0, f1, π, τ}
use Rattle.float.specs.Ops.{◌⊕◌, ◌⊗◌, ◌⊘◌, neg, of_nat}
use Rattle.float.specs.Standins.{sin, cos, reduced, series}
use Rattle.circular.specs.Ring.{radius, ring_place, place_angle, cos_at, sin_at, around_ring, ringed, circular_xs, circular_ys}

-- ---- places

-- the state at place k
abbrev pub state_at : ℕ → ℕ → ℕ → ℕ
state_at n start k = (k + start) % n

before : (n start i : ℕ) → start < n → i < start → ring_place n start i ≡ i + (n - start)
before n start i h k = let e : i + n - start ≡ i + (n - start) = omega arith in rw e (mod-eq_of_lt (omega arith))

after : (n start i : ℕ) → i < n → start ≤ i → ring_place n start i ≡ i - start
after n start i h k = let e : i + n - start ≡ (i - start) + n = omega arith in rw e (add-mod_right (i - start) n ∙ mod-eq_of_lt (omega arith))

early : (n start k : ℕ) → k + start < n → state_at n start k ≡ k + start
early n start k h = mod-eq_of_lt h

late : (n start k : ℕ) → k < n → start < n → n ≤ k + start → state_at n start k ≡ k + start - n
late n start k h g m = let e : k + start ≡ (k + start - n) + n = omega arith in ap (λ (x : ℕ). x % n) e ∙ add-mod_right (k + start - n) n ∙ mod-eq_of_lt (omega arith)

module _ (n start : ℕ) (h : start < n) where
  pub place-start : ring_place n start start ≡ 0
  place-start = after n start start h (omega arith) ∙ omega arith

  pub place-below : (i : ℕ) → ring_place n start i < n
  place-below i = mod-lt (i + n - start) (omega arith)

  -- the places are the numbers below n, each taken by one state: each place has its state, and each state its place
  pub place_back : (k : ℕ) → k < n → ring_place n start (state_at n start k) ≡ k
  place_back k l =
      by_lt (k + start) n
      (λ (m : k + start < n). ap (ring_place n start) (early n start k m) ∙ after n start (k + start) m (omega arith) ∙ omega arith)
      (λ (m : n ≤ k + start). ap (ring_place n start) (late n start k l h m) ∙ before n start (k + start - n) h (omega arith) ∙ omega arith)

  pub state_back : (i : ℕ) → i < n → state_at n start (ring_place n start i) ≡ i
  state_back i l =
      by_lt i start
      (λ (m : i < start). ap (state_at n start) (before n start i h m) ∙ late n start (i + (n - start)) (omega arith) h (omega arith) ∙ omega arith)
      (λ (m : start ≤ i). ap (state_at n start) (after n start i l m) ∙ early n start (i - start) (omega arith) ∙ omega arith)

-- ---- the direction of place 0

over-count : (x : Float) (n : ℕ) → 0 < n → HasValue x false n 1 → f0 ⊘ x ≡ f0
unfolding of_bits Ieee.div
over-count nan n p v = absurd v
over-count (inf s) n p v = absurd v
over-count (fin true m e) n p v = absurd (subst T v.0 tt)
over-count (fin false zero e) n p v = absurd (none e v.1)
  where
    none : (e : ℤ) → 0 * up e * 1 ≡ n * down e → ⊥
    none e w = omega (arith, w, zero-mul (up e), mul-pos p (down_pos e))
over-count (fin false (suc m) e) n p v =
    let z : suc m ≡ 0 → ⊥ = λ z. omega arith in
    rw (ne_eqb _ _ z)
    (round_same binary64 false (0 * 1 * down e) (suc m * up e * 1) 0 1 (mul-pos (mul-pos (omega arith) (up_pos e)) (omega arith)) (omega arith) (omega arith) ∙ unfold round in refl)

zero_turn : τ ⊗ of_nat 0 ≡ f0
unfolding Ieee.mul of_int of_bits round
zero_turn = refl

no_turn : π ⊕ f0 ≡ π
unfolding Ieee.add of_bits round sum
no_turn = refl

zero-over : (n : ℕ) → 0 < n → n ≤ 2 ^ 53 → f0 ⊘ of_nat n ≡ f0
unfolding of_int
zero-over n p h = over-count (round binary64 false n 1) n p (round_whole binary64 false n h)

pub left-angle : (n : ℕ) → 0 < n → n ≤ 64 → place_angle n 0 ≡ π
left-angle n p h = ap (λ (x : Float). π ⊕ x ⊘ of_nat n) zero_turn ∙ ap (λ (x : Float). π ⊕ x) (zero-over n p (omega arith)) ∙ no_turn

pub cos-left : cos π ≡ neg f1
unfolding cos reduced series Loops.down Ieee.add Ieee.sub Ieee.mul Ieee.div Ieee.rem Ieee.neg Ieee.lt of_int round sum of_bits
cos-left = refl

pub sin-left : sin π ≡ f0
unfolding sin reduced series Loops.down Ieee.add Ieee.sub Ieee.mul Ieee.div Ieee.rem Ieee.neg Ieee.lt of_int round sum of_bits
sin-left = refl

-- ---- the start state is at the left: x is the radius times -1, y the radius times 0

module _ (n start : ℕ) (label : Float) (m : 1 < n) (l : n ≤ 64) (h : start < n) where
  at-start : (part : ℕ → ℕ → Float) (x : Float) → part n 0 ≡ x → get_or (ringed part n start label) start nan ≡ radius n label ⊗ x
  unfolding ringed around_ring
  at-start part x e =
      let z : n ≡ 1 → ⊥ = λ z. omega arith in
      rw (ne_eqb n 1 z)
      (table_at (λ i. radius n label ⊗ part n (ring_place n start i)) 0 n start nan h
      ∙ ap (λ (k : ℕ). radius n label ⊗ part n k) (ap (ring_place n start) (omega arith) ∙ place-start n start h) ∙ ap (λ (y : Float). radius n label ⊗ y) e)

  pub start_left : (get_or (circular_xs n start label) start nan ≡ radius n label ⊗ neg f1) × (get_or (circular_ys n start label) start nan ≡ radius n label ⊗ f0)
  start_left =
      let p : 0 < n = omega arith in
      (at-start cos_at (neg f1) (ap cos (left-angle n p l) ∙ cos-left), at-start sin_at f0 (ap sin (left-angle n p l) ∙ sin-left))
