-- A state whose square of the distance is not less leaves the clearance as it is, so its root need not be taken. Subtracting the radius keeps
-- the order of distances, with its rounding. Assumes nothing.
use Rattle.std.specs.Prelude.{◌≡◌, true, false, cond, ℕ, ◌+◌, ◌-◌, ◌*◌, ◌^◌, ◌≤◌, ◌<◌, T, ltb, ℤ, Float, List}
use Rattle.std.proofs.Math.Path.{refl, ap}
use Rattle.std.proofs.Common.{sym, ◌∙◌, subst, true≢false, mul-le-mul_right, mul-lt-mul_of_pos_right, ltb-true, ltb-false}
use native.Mathlib.Omega.{arith}
use Rattle.std.specs.Float.{nan, inf, fin}
use Rattle.std.specs.Float.Ieee.{up, down, binary64, of_bits, round, is_nan}
use Rattle.std.specs.Float.Ieee as Ieee
use Rattle.std.specs.Float.Ieee.Fits.{down_pos}
use Rattle.std.specs.Float.Ieee.Order.{round_mono}
use Rattle.laws.specs.Cases.{by_bool, holds as yes_of}
use Rattle.root.specs.Plain.{plain, Plain, bits-plain, root-plain}
use Rattle.float.specs.Ops.{◌⊖◌, lt, le, ne, neg}
use Rattle.float.specs.Constants.{node_radius, infinity}
use Rattle.float.specs.Standins.{min, root, root_of}
use Rattle.float.specs.Sizes.{Form, endless, finite, round_form, sizes-ordered, signs_apart, equals_itself}
use Rattle.shape.specs.declared.«V».{«V»}
use Rattle.shape.specs.Plane.{dist_squared}
use Rattle.shape.specs.Squares.{dist-plain, dist-root}
use Rattle.free.specs.declared.Chord.{Chord}
use Rattle.free.specs.Chords.{is_end}
use Rattle.bend.specs.declared.Near.{Near}
use Rattle.bend.specs.Clear.{beside, nearest}
use Rattle.float.specs.RootLaws.{root_is, root_rises}

-- ---- less 22: x / d and y / g, as fractions
module _ (x d : ℕ) where
  less : Float
  less = cond (ltb (x * 1) (11 * 2 * d)) (round binary64 true (11 * 2 * d - x * 1) (d * 1)) (round binary64 false (x * 1 - 11 * 2 * d) (d * 1))

module _ (x d y g : ℕ) (hd : 0 < d) (hg : 0 < g) (h : x * g ≤ y * d) where
  less_order : lt (less y g) (less x d) ≡ false
  unfolding less
  less_order =
      by_bool (ltb (x * 1) (11 * 2 * d))
      (λ e. by_bool (ltb (y * 1) (11 * 2 * g))
      (λ f. rw (e, f) (sizes-ordered (round_form (11 * 2 * g - y * 1) (g * 1)) (round_form (11 * 2 * d - x * 1) (d * 1)) (round_mono binary64 (11 * 2 * g - y * 1) (g * 1) (11 * 2 * d - x * 1) (d * 1) (omega arith) (omega arith) (under (ltb-true _ _ e) (ltb-true _ _ f)))).1)
      (λ f. rw (e, f) (signs_apart (round_form (y * 1 - 11 * 2 * g) (g * 1)) (round_form (11 * 2 * d - x * 1) (d * 1)))))
      (λ e. by_bool (ltb (y * 1) (11 * 2 * g))
      (λ f. absurd (never (ltb-false _ _ e) (ltb-true _ _ f)))
      (λ f. rw (e, f) (sizes-ordered (round_form (x * 1 - 11 * 2 * d) (d * 1)) (round_form (y * 1 - 11 * 2 * g) (g * 1)) (round_mono binary64 (x * 1 - 11 * 2 * d) (d * 1) (y * 1 - 11 * 2 * g) (g * 1) (omega arith) (omega arith) (over (ltb-false _ _ e) (ltb-false _ _ f)))).0))
    where
      under : x * 1 < 11 * 2 * d → y * 1 < 11 * 2 * g → (11 * 2 * g - y * 1) * (d * 1) ≤ (11 * 2 * d - x * 1) * (g * 1)
      under a b = cut (11 * 2 * g - y * 1) (11 * 2 * d - x * 1) (omega arith) (omega arith)
        where
          cut : (w v : ℕ) → w + y ≡ 22 * g → v + x ≡ 22 * d → w * (d * 1) ≤ v * (g * 1)
          cut w v p q =
              let a : (w + y) * d ≡ 22 * g * d = ap (λ (z : ℕ). z * d) p in
              let b : (v + x) * g ≡ 22 * d * g = ap (λ (z : ℕ). z * g) q in
              omega arith

      over : 11 * 2 * d ≤ x * 1 → 11 * 2 * g ≤ y * 1 → (x * 1 - 11 * 2 * d) * (g * 1) ≤ (y * 1 - 11 * 2 * g) * (d * 1)
      over a b = cut (x * 1 - 11 * 2 * d) (y * 1 - 11 * 2 * g) (omega arith) (omega arith)
        where
          cut : (w v : ℕ) → w + 22 * d ≡ x → v + 22 * g ≡ y → w * (g * 1) ≤ v * (d * 1)
          cut w v p q =
              let a : (w + 22 * d) * g ≡ x * g = ap (λ (z : ℕ). z * g) p in
              let b : (v + 22 * g) * d ≡ y * d = ap (λ (z : ℕ). z * d) q in
              omega arith

      never : 11 * 2 * d ≤ x * 1 → y * 1 < 11 * 2 * g → ⊥
      never a b =
          let p : 11 * 2 * d * g ≤ x * 1 * g = mul-le-mul_right g a in
          let q : y * 1 * d < 11 * 2 * g * d = mul-lt-mul_of_pos_right b hd in
          omega arith

-- ---- of plain floats
less_is : (m : ℕ) (e : ℤ) → fin false m e ⊖ node_radius ≡ less (m * up e) (down e)
unfolding less Ieee.sub Ieee.add Ieee.neg Ieee.sum of_bits
less_is m e = refl

pub keeps_order : (x y : Float) → plain x ≡ true → plain y ≡ true → lt y x ≡ false → lt (y ⊖ node_radius) (x ⊖ node_radius) ≡ false
keeps_order nan y p q h = absurd (true≢false (sym p))
keeps_order (inf true) y p q h = absurd (true≢false (sym p))
keeps_order (fin true m e) y p q h = absurd (true≢false (sym p))
keeps_order (inf false) nan p q h = absurd (true≢false (sym q))
keeps_order (inf false) (inf true) p q h = absurd (true≢false (sym q))
keeps_order (inf false) (fin true n d) p q h = absurd (true≢false (sym q))
keeps_order (fin false m e) nan p q h = absurd (true≢false (sym q))
keeps_order (fin false m e) (inf true) p q h = absurd (true≢false (sym q))
keeps_order (fin false m e) (fin true n d) p q h = absurd (true≢false (sym q))
keeps_order (inf false) (inf false) p q h = unfold Ieee.sub Ieee.add Ieee.neg Ieee.lt of_bits in refl
keeps_order (inf false) (fin false n d) p q h = absurd (subst T h (unfold Ieee.lt in tt))
keeps_order (fin false m e) (inf false) p q h = rw (less_is m e) (endless_first (less (m * up e) (down e)))
  where
    endless_first : (v : Float) → lt (inf false ⊖ node_radius) v ≡ false
    endless_first nan = unfold Ieee.sub Ieee.add Ieee.neg Ieee.lt of_bits in refl
    endless_first (inf s) = unfold Ieee.sub Ieee.add Ieee.neg Ieee.lt of_bits in refl
    endless_first (fin s m e) = unfold Ieee.sub Ieee.add Ieee.neg Ieee.lt of_bits in refl
keeps_order (fin false m e) (fin false n d) p q h =
    rw (less_is m e, less_is n d) (less_order (m * up e) (down e) (n * up d) (down d) (down_pos e) (down_pos d) (ltb-false (n * up d * down e) (m * up e * down d) (unfold Ieee.lt in h)))

less_num : (x : Float) → plain x ≡ true → ne (x ⊖ node_radius) (x ⊖ node_radius) ≡ false
less_num nan p = absurd (true≢false (sym p))
less_num (inf true) p = absurd (true≢false (sym p))
less_num (inf false) p = unfold Ieee.sub Ieee.add Ieee.neg Ieee.ne Ieee.eq of_bits in refl
less_num (fin true m e) p = absurd (true≢false (sym p))
less_num (fin false m e) p =
    rw (less_is m e)
    (unfold less in
    (by_bool (ltb (m * up e * 1) (11 * 2 * down e))
    (λ t. rw t (equals_itself (round_form (11 * 2 * down e - m * up e * 1) (down e * 1))).1)
    (λ t. rw t (equals_itself (round_form (m * up e * 1 - 11 * 2 * down e) (down e * 1))).0)))

plain_form : (x : Float) → plain x ≡ true → Form x (neg x)
unfolding Ieee.neg
plain_form nan p = absurd (true≢false (sym p))
plain_form (inf true) p = absurd (true≢false (sym p))
plain_form (inf false) p = endless
plain_form (fin true m e) p = absurd (true≢false (sym p))
plain_form (fin false m e) p = finite

-- ---- the least room so far, and the square of the distance that it comes from
pub record GoodNear (r : Near) : Type 0 where
  pub held : Plain r.square
  pub is : r.room ≡ root r.square ⊖ node_radius

pub record RoomStep (c : Chord) (k : ℕ) (o p : «V») (r t : Near) : Type 0 where
  pub good : GoodNear t
  pub is : t.room ≡ beside c k o p r.room

pub record NearestRoom (os : List «V») (p : «V») (r t : Near) : Type 0 where
  pub good : GoodNear t
  pub is : t.room ≡ nearest os p r.room

abbrev near : Float → Float → Near
near m q = record { room = m; square = q }

module _ (c : Chord) (k : ℕ) (o p : «V») (r : Near) (g : GoodNear r) where
  room_num : ne r.room r.room ≡ false
  room_num = ap (λ (m : Float). ne m m) g.is ∙ less_num (root r.square) (root-plain root root_is r.square g.held).clear

  pub step_end : is_end c k ≡ true → RoomStep c k o p r r
  step_end e = record { good = g; is = rw e }

  module _ (e : is_end c k ≡ false) (q : Float) (s : q ≡ dist_squared p o) where
    plain_q : Plain q
    plain_q = subst Plain (sym s) (dist-plain p o)

    by_min : min r.room (root q ⊖ node_radius) ≡ beside c k o p r.room
    by_min = ap (λ (z : Float). min r.room (z ⊖ node_radius)) (ap root s ∙ sym (dist-root p o)) ∙ sym (rw e)

    -- not nearer: the root need not be taken
    pub step-far : le r.square q ≡ true → RoomStep c k o p r r
    step-far h =
        let x = (root-plain root root_is r.square g.held).clear in
        let y = (root-plain root root_is q plain_q).clear in
        let w : lt (root q) (root r.square) ≡ false = (sizes-ordered (plain_form (root r.square) x) (plain_form (root q) y) (yes_of (root_rises r.square q g.held plain_q h))).0 in
        let v : lt (root q ⊖ node_radius) r.room ≡ false = ap (lt (root q ⊖ node_radius)) g.is ∙ keeps_order (root r.square) (root q) x y w in
        let z : r.room ≡ min r.room (root q ⊖ node_radius) = rw (room_num, v) in
        record { good = g; is = z ∙ by_min }

    module _ (d : Float) (f : d ≡ root q ⊖ node_radius) where
      pub step-near : lt d r.room ≡ true → RoomStep c k o p r (near d q)
      step-near t =
          let z : d ≡ min r.room d = rw (room_num, t) in
          record { good = record { held = plain_q; is = f }; is = z ∙ ap (min r.room) f ∙ by_min }

      pub step_same : lt d r.room ≡ false → RoomStep c k o p r r
      step_same t =
          let z : r.room ≡ min r.room d = rw (room_num, t) in
          record { good = g; is = z ∙ ap (min r.room) f ∙ by_min }

start_good : GoodNear (near infinity infinity)
unfolding root root_of is_nan of_bits Ieee.to_bits Ieee.sub Ieee.add Ieee.neg
start_good = record { held = bits-plain (2047 * 2 ^ 52) (omega arith); is = refl }

pub start-near : (m : Float) → m ≡ infinity → GoodNear (near m m)
start-near m e = subst (λ (v : Float). GoodNear (near v v)) (sym e) start_good
