-- The code's form of the clipping, the later start or the earlier end and then one comparison, is the published one. Assumes nothing.
use Rattle.std.specs.Prelude.{◌≡◌, refl, Bool, false, cond, ◌&&◌, ℕ, zero, suc, ◌+◌, ◌*◌, Float, pos, is_some, Option, None, Some}
use Rattle.std.proofs.Math.Path.{sym, ap}
use Rattle.std.proofs.Common.{subst, ◌∙◌, ⊎_elim, zero-mul, arith, ne_eqb, lt→ltb}
use Rattle.std.proofs.Math.Bool.{true}
use Rattle.std.proofs.Math.Dec.{T}
use Rattle.std.specs.Float.{nan, inf, fin}
use Rattle.std.specs.Float.Ieee.{up, down, below, level, of_bits}
use Rattle.std.specs.Float.Ieee as Ieee
use Rattle.laws.specs.Cases.{by_bool, holds, is_true, not-both}
use Rattle.laws.specs.Between.{lt-between, above_num, below_num}
use Rattle.float.specs.Ops.{◌⊖◌, ◌⊘◌, lt, eq, ne, neg}
use Rattle.float.specs.Constants.{f0, f1}
use Rattle.float.specs.Standins.{min, max}
use Rattle.shape.specs.declared.«V».{«V»}
use Rattle.shape.specs.declared.Rect.{Rect}
use Rattle.shape.specs.declared.Clip.{Clip}
use Rattle.shape.specs.Plane.{sub, spanning, touches}
use Rattle.shape.specs.Clipping.{kept_part, nothing, test, side, meets, segment_hits_rect}

-- ---- what the code computes

unfoldable pub settled : Float → Float → Option Clip
settled e l = cond (lt l e) nothing (kept_part e l)

unfoldable pub clip_step : Float → Float → Clip → Option Clip
clip_step p q c =
    let r = q ⊘ p in
    cond (eq p f0) (cond (lt q f0) nothing (Some c))
    (cond (lt p f0) (settled (max c.enter r) c.leave) (settled c.enter (min c.leave r)))

unfoldable pub edge_step : Float → Float → Option Clip → Option Clip
edge_step p q None = None
edge_step p q (Some c) = clip_step p q c

unfoldable pub clipped : «V» → «V» → Rect → Option Clip
clipped from d r =
    edge_step d.y (r.y1 ⊖ from.y) (edge_step (neg d.y) (from.y ⊖ r.y0) (edge_step d.x (r.x1 ⊖ from.x) (edge_step (neg d.x) (from.x ⊖ r.x0) (kept_part f0 f1))))

-- ---- a rate is below zero, above it, zero, or NaN

-- a fraction against zero
level-more : (s : Bool) (a : ℕ) → level s (suc a) false 0 ≡ false
level-more s a = rw (ne_eqb (suc a) 0 (λ z. omega arith))

level-zero : (s : Bool) (a : ℕ) → level s a false 0 ≡ true → (below s a false 0 ≡ false) × (below false 0 s a ≡ false)
level-zero true zero e = (refl, refl)
level-zero false zero e = (refl, refl)
level-zero s (suc a) e = absurd (subst T (sym e ∙ level-more s a) tt)

apart-zero : (s : Bool) (a : ℕ) → level s a false 0 ≡ false → below s a false 0 ≡ false → below false 0 s a ≡ false → ⊥
apart-zero true zero e l u = subst T e tt
apart-zero false zero e l u = subst T e tt
apart-zero true (suc a) e l u = subst T l (lt→ltb 0 (suc a + 0) (omega arith))
apart-zero false (suc a) e l u = subst T u (lt→ltb 0 (suc a) (omega arith))

-- the same of a number that is equal to 0
level_nothing : (s : Bool) (a k : ℕ) → k ≡ 0 → level s a false k ≡ true → (below s a false k ≡ false) × (below false k s a ≡ false)
level_nothing s a k z e = rw z (level-zero s a (rw z at e))

apart_nothing : (s : Bool) (a k : ℕ) → k ≡ 0 → level s a false k ≡ false → below s a false k ≡ false → below false k s a ≡ false → ⊥
apart_nothing s a k z e l u = apart-zero s a (rw z at e) (rw z at l) (rw z at u)

zero_rate : (p : Float) → eq p f0 ≡ true → (lt p f0 ≡ false) × (lt f0 p ≡ false)
unfolding of_bits Ieee.lt Ieee.eq
zero_rate nan e = absurd (subst T (sym e) tt)
zero_rate (inf s) e = absurd (subst T (sym e) tt)
zero_rate (fin s m x) e = let z : 0 * down x ≡ 0 = zero-mul (down x) in level_nothing s (m * up x * down (pos 0)) (0 * down x) z e

nan_rate : (p : Float) → eq p f0 ≡ false → lt p f0 ≡ false → lt f0 p ≡ false → p ≡ nan
unfolding of_bits Ieee.lt Ieee.eq
nan_rate nan e l u = refl
nan_rate (inf true) e l u = absurd (subst T l tt)
nan_rate (inf false) e l u = absurd (subst T u tt)
nan_rate (fin s m x) e l u = let z : 0 * down x ≡ 0 = zero-mul (down x) in absurd (apart_nothing s (m * up x * down (pos 0)) (0 * down x) z e l u)

by_nan : (q : Float) → q ⊘ nan ≡ nan
unfolding Ieee.div
by_nan nan = refl
by_nan (inf s) = refl
by_nan (fin s m e) = refl

-- ---- they are the same

-- while something is left, the ends are numbers in order
pub record GoodClip (low high : Float) : Type 0 where
  pub low_num : ne low low ≡ false
  pub high_num : ne high high ≡ false
  pub ordered : lt high low ≡ false

data State : Option Clip → Type 0 where
  shut : State nothing
  held : (low high : Float) → GoodClip low high → State (kept_part low high)

module _ (e l r : Float) (g : GoodClip e l) where
  enters : settled (max e r) l ≡ cond (lt l r) nothing (cond (lt e r) (kept_part r l) (kept_part e l))
  unfolding settled
  enters =
      by_bool (lt l r)
      (λ t.
      let k : lt e r ≡ true = is_true (lt e r) (⊎_elim (λ (x : T (lt l e)). absurd (not-both x g.ordered)) (λ (x : T (lt e r)). x) (lt-between l e r g.low_num (holds t))) in
      rw (g.low_num, k, t))
      (λ t. by_bool (lt e r) (λ k. rw (g.low_num, k, t)) (λ k. rw (g.low_num, k, t, g.ordered)))

  leaves : settled e (min l r) ≡ cond (lt r e) nothing (cond (lt r l) (kept_part e r) (kept_part e l))
  unfolding settled
  leaves =
      by_bool (lt r e)
      (λ t.
      let k : lt r l ≡ true = is_true (lt r l) (⊎_elim (λ (x : T (lt r l)). x) (λ (x : T (lt l e)). absurd (not-both x g.ordered)) (lt-between r l e g.high_num (holds t))) in
      rw (g.high_num, k, t))
      (λ t. by_bool (lt r l) (λ k. rw (g.high_num, k, t)) (λ k. rw (g.high_num, k, t, g.ordered)))

  entered : State (cond (lt l r) nothing (cond (lt e r) (kept_part r l) (kept_part e l)))
  entered =
      by_bool (lt l r) (λ t. rw t shut)
      (λ t. by_bool (lt e r) (λ k. rw (t, k) (held r l (record { low_num = above_num e r (holds k); high_num = g.high_num; ordered = t })))
      (λ k. rw (t, k) (held e l g)))

  left : State (cond (lt r e) nothing (cond (lt r l) (kept_part e r) (kept_part e l)))
  left =
      by_bool (lt r e) (λ t. rw t shut)
      (λ t. by_bool (lt r l) (λ k. rw (t, k) (held e r (record { low_num = g.low_num; high_num = below_num r l (holds k); ordered = t })))
      (λ k. rw (t, k) (held e l g)))

-- at a NaN rate the code's earlier end is the one it had
nan_leaves : (p q e l : Float) → p ≡ nan → cond (lt (q ⊘ p) e) nothing (cond (lt (q ⊘ p) l) (kept_part e (q ⊘ p)) (kept_part e l)) ≡ kept_part e l
unfolding Ieee.lt
nan_leaves p q e l n = rw (n, by_nan q)

edge_is : (p q : Float) {c : Option Clip} → State c → edge_step p q c ≡ side p q c
unfolding edge_step side clip_step test
edge_is p q shut = refl
edge_is p q (held e l g) =
    by_bool (eq p f0)
    (λ z. rw (z, (zero_rate p z).0, (zero_rate p z).1))
    (λ z. by_bool (lt p f0)
    (λ b. rw (z, b) (enters e l (q ⊘ p) g))
    (λ b. by_bool (lt f0 p)
    (λ a. rw (z, b, a) (leaves e l (q ⊘ p) g))
    (λ a. rw (z, b, a) (leaves e l (q ⊘ p) g ∙ nan_leaves p q e l (nan_rate p z b a)))))

side_state : (p q : Float) {c : Option Clip} → State c → State (side p q c)
unfolding side test
side_state p q shut = shut
side_state p q (held e l g) =
    by_bool (lt p f0) (λ b. rw b (entered e l (q ⊘ p) g))
    (λ b. by_bool (lt f0 p) (λ a. rw (b, a) (left e l (q ⊘ p) g))
    (λ a. by_bool (eq p f0 && lt q f0) (λ z. rw (b, a, z) shut) (λ z. rw (b, a, z) (held e l g))))

start : State (kept_part f0 f1)
unfolding of_bits Ieee.ne Ieee.lt Ieee.eq
start = held f0 f1 (record { low_num = refl; high_num = refl; ordered = refl })

next : (p q : Float) {c c' : Option Clip} → c ≡ c' → State c' → edge_step p q c ≡ side p q c'
next p q e s = ap (edge_step p q) e ∙ edge_is p q s

pub clipped_is : (from d : «V») (r : Rect) → is_some (clipped from d r) ≡ meets from d r
unfolding clipped meets
clipped_is from d r =
    let s1 = side_state (neg d.x) (from.x ⊖ r.x0) start in
    let s2 = side_state d.x (r.x1 ⊖ from.x) s1 in
    let s3 = side_state (neg d.y) (from.y ⊖ r.y0) s2 in
    ap (λ (c : Option Clip). is_some c)
    (next d.y (r.y1 ⊖ from.y) (next (neg d.y) (from.y ⊖ r.y0) (next d.x (r.x1 ⊖ from.x) (next (neg d.x) (from.x ⊖ r.x0) refl start) s1) s2) s3)

-- ---- the call, by what it has at hand: b the box spanned, t whether it touches
module _ (from to : «V») (r b : Rect) (t : Bool) (e : b ≡ spanning from to) (f : t ≡ touches b r) where
  spans : touches (spanning from to) r ≡ t
  spans = sym (f ∙ ap (λ (q : Rect). touches q r) e)

  pub hit : (d : «V») (x : Bool) → t ≡ true → d ≡ sub to from → x ≡ is_some (clipped from d r) → x ≡ segment_hits_rect from to r
  unfolding segment_hits_rect
  hit d x h g k =
      k ∙ ap (λ (v : «V»). is_some (clipped from v r)) g ∙ clipped_is from (sub to from) r
      ∙ sym (ap (λ (q : Bool). q && meets from (sub to from) r) (spans ∙ h))

  pub spans_apart : t ≡ false → false ≡ segment_hits_rect from to r
  unfolding segment_hits_rect
  spans_apart h = sym (ap (λ (q : Bool). q && meets from (sub to from) r) (spans ∙ h))

pub step_enters : (p q : Float) (c : Clip) → eq p f0 ≡ false → lt p f0 ≡ true → settled (max c.enter (q ⊘ p)) c.leave ≡ clip_step p q c
unfolding clip_step
step_enters p q c z b = rw (z, b)

pub step-leaves : (p q : Float) (c : Clip) → eq p f0 ≡ false → lt p f0 ≡ false → settled c.enter (min c.leave (q ⊘ p)) ≡ clip_step p q c
unfolding clip_step
step-leaves p q c z b = rw (z, b)
