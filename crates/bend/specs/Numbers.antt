-- No bow is NaN, whatever floats the centres are (`bend-number`): a two-way pair's is above 0 (`pair_above`), a single arrow's above 0 or
-- below (`single_off`). A chord's length is a root, which is never NaN, and the search moves only to an end that it has compared.
-- Assumes nothing.
use Rattle.std.specs.Prelude.{◌≡◌, refl, Bool, true, false, List, ◌⊎◌, ℕ, suc, ◌+◌, ◌*◌, ◌≤◌, ◌<◌, ℤ, negsuc, Float}
use Rattle.std.proofs.Common.{sym, ap, ◌∙◌, subst, true≢false, inl, ⊎_elim, mul-pos, arith, ne_eqb, ltb→lt, lt→ltb}
use Rattle.std.proofs.Math.Logic.{inr}
use Rattle.std.proofs.Math.Dec.{T}
use Rattle.std.specs.Float.{nan, inf, fin, binary64}
use Rattle.std.specs.Float.Ieee.{up, down, of_bits, round, is_nan}
use Rattle.std.specs.Float.Ieee as Ieee
use Rattle.std.specs.Float.Ieee.Fits.{down_pos, up_pos}
use Rattle.std.specs.Float.Ieee.Order.{round_mono}
use Rattle.std.specs.Float.Ieee.Positive.{positive, above, above_of_le}
use Rattle.laws.specs.Cases.{by_bool}
use Rattle.laws.specs.Between.{lt-between, above_num, below_num, self_inf}
use Rattle.laws.specs.Order.{float_lt_trans}
use Rattle.root.specs.Plain.{plain, root-plain}
use Rattle.float.specs.Ops.{◌⊕◌, ◌⊗◌, lt, ne, neg}
use Rattle.float.specs.Constants.{f0, f24, f28, f48, f64_0, f160, f0_3, f1_5}
use Rattle.float.specs.Standins.{negative, abs, max, clamp, root}
use Rattle.laws.specs.Nan.{is_num}
use Rattle.float.specs.Sizes.{round_form, equals_itself}
use Rattle.float.specs.RootLaws.{root_is}
use Rattle.shape.specs.declared.«V».{«V»}
use Rattle.shape.specs.Plane.{dist, dist_squared}
use Rattle.shape.specs.Squares.{dist-plain as squared-plain, dist-root}
use Rattle.free.specs.declared.Chord.{Chord}
use Rattle.free.specs.declared.Span.{Span}
use Rattle.free.specs.declared.Search.TheVariants as Search
use Rattle.free.specs.Chords.{chord}
use Rattle.free.specs.Blocked.{blocked}
use Rattle.free.specs.Free.{inside_some, first_free}
use Rattle.free.specs.Moves.{ahead, free_keeps}
use Rattle.bend.specs.Choice.{none, more_of, verified_has}
use Rattle.bend.specs.Bend.{base, pair_up, pair_bow, cap, capped, single_up, single_down, down_first, single_bow, bend}

-- ---- numbers above 0

above_lt : (h : Float) → T (above h) → T (lt f0 h)
unfolding Ieee.lt of_bits
above_lt nan t = absurd t
above_lt (inf s) t = t
above_lt (fin true m e) t = absurd t
above_lt (fin false m e) t =
    let k : 0 < m * up e = mul-pos (ltb→lt 0 m t) (up_pos e) in lt→ltb (0 * 1 * down e) (m * up e * 1) (omega arith)

-- a sum of at least k is rounded to a number above 0
sum_above : (k a c : ℕ) → T (positive (round binary64 false k 1)) → 0 < c → k * c ≤ a * 1 → T (lt f0 (round binary64 false a c))
sum_above k a c p h g =
    let low = round binary64 false k 1 in
    let sum = round binary64 false a c in
    above_lt sum (above_of_le low sum p (round_mono binary64 k 1 a c (omega arith) h g))

pub above_24 : (h : Float) → T (lt f0 h) → T (lt f0 (h ⊕ f24))
unfolding of_bits Ieee.add Ieee.sum
above_24 nan t = absurd (unfold Ieee.lt in t)
above_24 (inf true) t = absurd (unfold Ieee.lt in t)
above_24 (inf false) t = unfold Ieee.lt in tt
above_24 (fin true m e) t = absurd (unfold Ieee.lt in t)
above_24 (fin false m e) t =
    sum_above 24 (m * up e * 1 + 3 * 8 * down e) (down e * 1) (unfold round in tt) (mul-pos (down_pos e) (omega arith)) (omega arith)

pub above_48 : (h : Float) → T (lt f0 h) → T (lt f0 (h ⊕ f48))
unfolding of_bits Ieee.add Ieee.sum
above_48 nan t = absurd (unfold Ieee.lt in t)
above_48 (inf true) t = absurd (unfold Ieee.lt in t)
above_48 (inf false) t = unfold Ieee.lt in tt
above_48 (fin true m e) t = absurd (unfold Ieee.lt in t)
above_48 (fin false m e) t =
    sum_above 48 (m * up e * 1 + 3 * 16 * down e) (down e * 1) (unfold round in tt) (mul-pos (down_pos e) (omega arith)) (omega arith)

-- 0 is below each of these
below_28 : T (lt f0 f28)
unfolding Ieee.lt of_bits
below_28 = tt

below_64 : T (lt f0 f64_0)
unfolding Ieee.lt of_bits
below_64 = tt

below_160 : T (lt f0 f160)
unfolding Ieee.lt of_bits
below_160 = tt

-- a number not below k > 0
from_on : (x k : Float) → T (lt f0 k) → ne x x ≡ false → lt x k ≡ false → T (lt f0 x)
from_on x k t n e = ⊎_elim (λ (a : T (lt f0 x)). a) (λ (a : T (lt x k)). absurd (subst T e a)) (lt-between f0 x k n t)

pub clamp_above : (x : Float) → ne x x ≡ false → T (lt f0 (clamp x f28 f64_0))
clamp_above x n =
    by_bool (lt x f28) (λ a. rw a below_28)
    (λ a. by_bool (lt f64_0 x) (λ b. rw (a, b) below_64) (λ b. rw (a, b) (from_on x f28 below_28 n a)))

-- ---- upwards the search stays above 0, downwards below

pub free_above : (l : List Span) (h : Float) → T (lt f0 h) → T (lt f0 (first_free Search.Up l h))
free_above l h t = free_keeps Search.Up l (λ x. T (lt f0 x)) (λ x y k a. float_lt_trans f0 x y k (unfold ahead in a)) h t

pub free-below : (l : List Span) (h : Float) → T (lt h f0) → T (lt (first_free Search.Down l h) f0)
free-below l h t = free_keeps Search.Down l (λ x. T (lt x f0)) (λ x y k a. float_lt_trans y x f0 (unfold ahead in a) k) h t

-- ---- a single arrow, with any chord

-- above 0 or below
unfoldable pub Off : Float → Type 0
Off h = T (lt f0 h) ⊎ T (lt h f0)

cap_above : (c : Chord) → T (lt f0 (cap c))
cap_above c = go (f1_5 ⊗ c.len)
  where
    go : (x : Float) → T (lt f0 (max x f160))
    go x =
        by_bool (ne x x) (λ n. rw n below_160)
        (λ n. by_bool (lt x f160) (λ a. rw (n, a) below_160) (λ a. rw (n, a) (from_on x f160 below_160 n a)))

-- the size of m > 0 with either sign
size_above : (m : Float) → T (lt f0 m) → T (lt f0 (abs m))
unfolding Ieee.lt of_bits
size_above nan t = absurd t
size_above (inf s) t = tt
size_above (fin true m e) t = absurd t
size_above (fin false m e) t = t

not_negative : (h : Float) → T (lt f0 h) → negative h ≡ false
unfolding Ieee.lt of_bits
not_negative nan t = absurd t
not_negative (inf true) t = absurd t
not_negative (inf false) t = refl
not_negative (fin true m e) t = absurd t
not_negative (fin false m e) t = refl

minus-below : (m : Float) → T (lt f0 m) → T (lt (neg (abs m)) f0)
unfolding Ieee.lt of_bits Ieee.neg
minus-below nan t = absurd t
minus-below (inf s) t = tt
minus-below (fin true m e) t = absurd t
minus-below (fin false m e) t = let k = ltb→lt (0 * 1 * down e) (m * up e * 1) t in lt→ltb 0 (m * up e * 1 + 0 * 1 * down e) (omega arith)

is_negative : (h : Float) → T (lt h f0) → negative h ≡ true
unfolding Ieee.lt of_bits
is_negative nan t = absurd t
is_negative (inf true) t = refl
is_negative (inf false) t = absurd t
is_negative (fin true m e) t = refl
is_negative (fin false m e) t = let k = ltb→lt (m * up e * 1) (0 * 1 * down e) t in absurd (omega arith)

capped_above : (m h : Float) → T (lt f0 m) → T (lt f0 h) → T (lt f0 (capped m h))
capped_above m h t u = by_bool (lt m (abs h)) (λ b. rw (b, not_negative h u) (size_above m t)) (λ b. rw b u)

capped-below : (m h : Float) → T (lt f0 m) → T (lt h f0) → T (lt (capped m h) f0)
capped-below m h t u = by_bool (lt m (abs h)) (λ b. rw (b, is_negative h u) (minus-below m t)) (λ b. rw b u)

pub single_off : (c : Chord) (ps : List «V») (l : List Span) → Off (single_bow c ps l)
unfolding single_bow Off
single_off c ps l =
    let high = inl (capped_above (cap c) (single_up l) (cap_above c) (free_above l f24 (unfold Ieee.lt of_bits in tt))) in
    let low = inr (capped-below (cap c) (single_down l) (cap_above c) (free-below l (neg f24) (unfold Ieee.lt of_bits Ieee.neg in tt))) in
    by_bool (down_first l)
    (λ e. rw e (verified_has Off c ps (more_of low (more_of high none))))
    (λ e. rw e (verified_has Off c ps (more_of high (more_of low none))))

-- ---- a two-way pair, with the chord of two states

dist-plain : (p o : «V») → plain (dist p o) ≡ true
dist-plain p o = ap plain (dist-root p o) ∙ (root-plain root root_is (dist_squared p o) (squared-plain p o)).clear

round_num : (s : Bool) (a c : ℕ) → ne (round binary64 s a c) (round binary64 s a c) ≡ false
round_num true a c = (equals_itself (round_form a c)).1
round_num false a c = (equals_itself (round_form a c)).0

-- a number other than 0, times one that is not below 0
times_num : (k : ℕ) (d : ℤ) (x : Float) → plain x ≡ true → ne (fin false (suc k) d ⊗ x) (fin false (suc k) d ⊗ x) ≡ false
unfolding Ieee.mul
times_num k d nan p = absurd (true≢false (sym p))
times_num k d (inf true) p = absurd (true≢false (sym p))
times_num k d (inf false) p = let n : suc k ≡ 0 → ⊥ = λ z. omega arith in rw (ne_eqb (suc k) 0 n) (self_inf false)
times_num k d (fin true m e) p = absurd (true≢false (sym p))
times_num k d (fin false m e) p = round_num false (suc k * up d * (m * up e)) (down d * down e)

scaled_num : (x : Float) → plain x ≡ true → ne (f0_3 ⊗ x) (f0_3 ⊗ x) ≡ false
unfolding of_bits
scaled_num x p = times_num 5404319552844594 (negsuc 53) x p

module _ (ps : List «V») (from to : ℕ) where
  base_above : T (lt f0 (base (chord ps from to)))
  unfolding chord
  base_above = clamp_above (f0_3 ⊗ (chord ps from to).len) (scaled_num (chord ps from to).len (dist-plain _ _))

  -- Its first free bow is above 0, and so is its bow.
  pub first_above : (l : List Span) → T (lt f0 (pair_up (chord ps from to) l))
  first_above l = free_above l (base (chord ps from to)) base_above

  pub pair_above : (l : List Span) → T (lt f0 (pair_bow (chord ps from to) ps l))
  unfolding pair_bow
  pair_above l =
      let u = first_above l in
      let h = pair_up (chord ps from to) l in
      verified_has (λ x. T (lt f0 x)) (chord ps from to) ps (more_of u (more_of (above_24 h u) (more_of (above_48 h u) none)))

-- ---- every arrow between two states

off_num : (h : Float) → Off h → ne h h ≡ false
unfolding Off
off_num h = ⊎_elim (above_num f0 h) (below_num h f0)

pub bend-number : (ps : List «V») (from to : ℕ) (bothWays : Bool) → is_nan (bend (chord ps from to) ps bothWays) ≡ false
unfolding bend
bend-number ps from to true =
    let c = chord ps from to in
    is_num _ (above_num f0 _ (pair_above ps from to (blocked c ps)))
bend-number ps from to false =
    let c = chord ps from to in
    let l = blocked c ps in
    by_bool (inside_some l f0)
    (λ e. rw e (is_num (single_bow c ps l) (off_num (single_bow c ps l) (single_off c ps l))))
    (λ e. rw e (unfold is_nan of_bits in refl))
