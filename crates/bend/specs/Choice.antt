-- The choice by a loop that keeps the best bow so far is `verified`, for clearances that are no NaN (`choose_is`); no clearance is a NaN
-- (`clearance_num`); and what all the bows have, the one chosen has (`verified_has`). Assumes nothing.
use Rattle.std.specs.Prelude.{◌≡◌, Bool, false, cond, ◌||◌, ℕ, zero, suc, ◌-◌, get_or, Float}
use Rattle.std.proofs.Math.Path.{refl, sym, ap, subst}
use Rattle.std.proofs.Common.{◌∙◌}
use Rattle.std.proofs.Math.Bool.{true, not}
use mathlib.Core.List.{List, [], ◌∷◌}
use Rattle.std.proofs.Math.Logic.{⊎_elim}
use Rattle.std.proofs.Math.Dec.{T}
use Rattle.std.specs.Float.Ieee.{nan, of_bits}
use Rattle.std.specs.Float.{inf, fin}
use Rattle.std.specs.Float.Ieee as Ieee
use Rattle.laws.specs.Cases.{by_bool, holds as yes_of, fails}
use Rattle.laws.specs.Between.{lt-between, below_num, self_inf}
use Rattle.laws.specs.Order.{float_lt_trans, lt-itself}
use Rattle.laws.specs.Loops.{up, steps_from, over}
use Rattle.float.specs.Ops.{lt, ne, neg}
use Rattle.float.specs.Constants.{infinity}
use Rattle.float.specs.Standins.{min}
use Rattle.shape.specs.declared.«V».{«V»}
use Rattle.free.specs.declared.Chord.{Chord}
use Rattle.free.specs.Chords.{other_states}
use Rattle.bend.specs.declared.Best.{Best}
use Rattle.bend.specs.Clear.{arc, nearer, nearest, sampled, clearance, keeps_half, outdone, first_that, keeps_most, verified}

-- ---- the loop

abbrev pub best_of : Float → Float → Best
best_of m h = record { clearance = m; bow = h }

unfoldable pub better : Best → Float → Float → Best
better b m h = cond (lt b.clearance m) (best_of m h) b

-- the best bow so far, and those to come
unfoldable pub choose : (Float → Float) → Best → List Float → Float
choose keeps b [] = b.bow
choose keeps b (h ∷ hs) = let rest = choose keeps (better b (keeps h) h) hs in cond (keeps_half keeps h) h rest

-- what the loop starts from
abbrev pub unchosen : List Float → Best
unchosen hs = best_of (neg infinity) (get_or hs 0 nan)

-- ---- the first that passes

either : (a b : Bool) → (T a → T b) → (a || b) ≡ b
either true true f = refl
either true false f = absurd (f tt)
either false b f = refl

or_left : (a b : Bool) → T a → T (a || b)
or_left true b t = tt
or_left false b t = absurd t

not_on : (a b : Bool) → (T a → T b) → not a ≡ false → not b ≡ false
not_on true true f e = refl
not_on true false f e = absurd (f tt)
not_on false b f e = absurd (subst T e tt)

first-same : (p q : Float → Bool) (hs : List Float) (other : Float) → ((h : Float) → p h ≡ q h)
    → first_that p hs other ≡ first_that q hs other
unfolding first_that
first-same p q [] other f = refl
first-same p q (h ∷ hs) other f =
    by_bool (q h) (λ e. rw (f h ∙ e, e)) (λ e. rw (f h ∙ e, e) (first-same p q hs other f))

first_yes : (p : Float → Bool) (h : Float) (hs : List Float) (other : Float) → p h ≡ true → first_that p (h ∷ hs) other ≡ h
unfolding first_that
first_yes p h hs other e = rw e

first_no : (p : Float → Bool) (h : Float) (hs : List Float) (other : Float) → p h ≡ false
    → first_that p (h ∷ hs) other ≡ first_that p hs other
unfolding first_that
first_no p h hs other e = rw e

-- ---- the most

lowest : (m : Float) → ne m m ≡ false → lt (neg infinity) m ≡ false → m ≡ neg infinity
unfolding of_bits Ieee.neg Ieee.lt Ieee.ne Ieee.eq
lowest nan n e = absurd (subst T n tt)
lowest (inf true) n e = refl
lowest (inf false) n e = absurd (subst T e tt)
lowest (fin s m x) n e = absurd (subst T e tt)

module _ (keeps : Float → Float) (num : (h : Float) → ne (keeps h) (keeps h) ≡ false) where
  -- the best so far, where none keeps half the clearance
  last : Best → List Float → Float
  last b [] = b.bow
  last b (h ∷ hs) = last (better b (keeps h) h) hs

  by_half : (b : Best) (hs : List Float) → choose keeps b hs ≡ first_that (keeps_half keeps) hs (last b hs)
  unfolding choose first_that last
  by_half b [] = refl
  by_half b (h ∷ hs) = by_bool (keeps_half keeps h) (λ e. rw e) (λ e. rw e (by_half (better b (keeps h) h) hs))

  -- who keeps less than h keeps less than what keeps no less than h
  less_on : (x g h : Float) → lt (keeps g) (keeps h) ≡ false → T (lt (keeps x) (keeps h)) → T (lt (keeps x) (keeps g))
  less_on x g h e t =
      ⊎_elim (λ (a : T (lt (keeps x) (keeps g))). a) (λ (a : T (lt (keeps g) (keeps h))). absurd (subst T e a))
      (lt-between (keeps x) (keeps g) (keeps h) (num g) t)

  -- who keeps no more than an outdone bow is outdone
  outdone_on : (gs : List Float) (g h : Float) → lt (keeps g) (keeps h) ≡ false → T (outdone keeps gs g) → T (outdone keeps gs h)
  unfolding outdone
  outdone_on [] g h e t = t
  outdone_on (x ∷ gs) g h e t =
      by_bool (lt (keeps h) (keeps x)) (λ a. rw a tt)
      (λ a. by_bool (lt (keeps g) (keeps x))
      (λ b. absurd (subst T a (above b)))
      (λ b. rw a (outdone_on gs g h e (rw b at t))))
    where
      above : lt (keeps g) (keeps x) ≡ true → T (lt (keeps h) (keeps x))
      above b =
          ⊎_elim (λ (a : T (lt (keeps g) (keeps h))). absurd (subst T e a)) (λ (a : T (lt (keeps h) (keeps x))). a)
          (lt-between (keeps g) (keeps h) (keeps x) (num h) (yes_of b))

  -- h outdoes itself never
  itself : (h : Float) → lt (keeps h) (keeps h) ≡ false
  itself h = fails (lt (keeps h) (keeps h)) (lt-itself (keeps h))

  unbeaten : List Float → Float → Bool
  unbeaten gs h = not (outdone keeps gs h)

  -- w before the bows from h on, where h keeps more: w is outdone, and outdoes none that h does not
  module _ (w h : Float) (hs : List Float) (e : lt (keeps w) (keeps h) ≡ true) where
    more_same : (x : Float) → unbeaten (h ∷ hs) x ≡ unbeaten (w ∷ h ∷ hs) x
    unfolding unbeaten outdone
    more_same x =
        let over-h : T (lt (keeps x) (keeps w)) → T (lt (keeps x) (keeps h) || outdone keeps hs x) =
        λ t. or_left (lt (keeps x) (keeps h)) (outdone keeps hs x) (float_lt_trans (keeps x) (keeps w) (keeps h) t (yes_of e)) in
        ap not (sym (either (lt (keeps x) (keeps w)) (lt (keeps x) (keeps h) || outdone keeps hs x) over-h))

    more_no : unbeaten (w ∷ h ∷ hs) w ≡ false
    unfolding unbeaten outdone
    more_no = rw (itself w, e)

    more : first_that (unbeaten (h ∷ hs)) (h ∷ hs) nan ≡ first_that (unbeaten (w ∷ h ∷ hs)) (w ∷ h ∷ hs) nan
    more =
        first-same (unbeaten (h ∷ hs)) (unbeaten (w ∷ h ∷ hs)) (h ∷ hs) nan more_same
        ∙ sym (first_no (unbeaten (w ∷ h ∷ hs)) w (h ∷ hs) nan more_no)

  -- where h keeps no more: whom h outdoes, w does, and where w is outdone, so is h
  module _ (w h : Float) (hs : List Float) (e : lt (keeps w) (keeps h) ≡ false) where
    less_same : (x : Float) → unbeaten (w ∷ hs) x ≡ unbeaten (w ∷ h ∷ hs) x
    unfolding unbeaten outdone
    less_same x =
        let s : outdone keeps (w ∷ hs) x ≡ outdone keeps (w ∷ h ∷ hs) x =
        by_bool (lt (keeps x) (keeps w)) (λ t. rw t) (λ t. rw (t, fails (lt (keeps x) (keeps h)) (λ b. subst T t (less_on x w h e b)))) in
        ap not s

    less_no : unbeaten (w ∷ hs) w ≡ false → unbeaten (w ∷ h ∷ hs) h ≡ false
    unfolding unbeaten
    less_no t = sym (less_same h) ∙ not_on (outdone keeps (w ∷ hs) w) (outdone keeps (w ∷ hs) h) (outdone_on (w ∷ hs) w h e) t

    less : first_that (unbeaten (w ∷ hs)) (w ∷ hs) nan ≡ first_that (unbeaten (w ∷ h ∷ hs)) (w ∷ h ∷ hs) nan
    less =
        let p = unbeaten (w ∷ hs) in
        let q = unbeaten (w ∷ h ∷ hs) in
        by_bool (p w)
        (λ t. first_yes p w hs nan t ∙ sym (first_yes q w (h ∷ hs) nan (sym (less_same w) ∙ t)))
        (λ t.
        first_no p w hs nan t
        ∙ first-same p q hs nan less_same
        ∙ sym (first_no q h hs nan (less_no t))
        ∙ sym (first_no q w (h ∷ hs) nan (sym (less_same w) ∙ t)))

  most_of : (w : Float) (hs : List Float) → last (best_of (keeps w) w) hs ≡ first_that (unbeaten (w ∷ hs)) (w ∷ hs) nan
  unfolding last better
  most_of w [] = sym (first_yes (unbeaten (w ∷ [])) w [] nan (unfold unbeaten outdone in (rw (itself w))))
  most_of w (h ∷ hs) =
      by_bool (lt (keeps w) (keeps h))
      (λ e. rw e (most_of h hs ∙ more w h hs e))
      (λ e. rw e (most_of w hs ∙ less w h hs e))

  -- the first bow is the best so far, even where it keeps minus infinity
  from_first : (h : Float) → better (best_of (neg infinity) h) (keeps h) h ≡ best_of (keeps h) h
  unfolding better
  from_first h =
      by_bool (lt (neg infinity) (keeps h)) (λ e. rw e)
      (λ e. rw e (ap (λ (m : Float). best_of m h) (sym (lowest (keeps h) (num h) e))))

  pub choose_is : (hs : List Float) → choose keeps (unchosen hs) hs ≡ verified keeps hs
  unfolding verified
  choose_is [] = unfold choose first_that in refl
  choose_is (h ∷ hs) =
      let w : last (unchosen (h ∷ hs)) (h ∷ hs) ≡ keeps_most keeps (h ∷ hs) = unfold last unbeaten in (rw (from_first h) (most_of h hs)) in
      by_half (unchosen (h ∷ hs)) (h ∷ hs) ∙ ap (first_that (keeps_half keeps) (h ∷ hs)) w

-- ---- no clearance is NaN: a NaN gives way, and the start is infinity

min_num : (m x : Float) → ne m m ≡ false → ne (min m x) (min m x) ≡ false
min_num m x n = by_bool (lt x m) (λ e. rw (n, e) (below_num x m (yes_of e))) (λ e. rw (n, e) n)

over_num : (p : «V») (os : List «V») (m : Float) → ne m m ≡ false → ne (over (nearer p) m os) (over (nearer p) m os) ≡ false
unfolding over
over_num p [] m n = n
over_num p (o ∷ os) m n = over_num p os (nearer p m o) (min_num m _ n)

turns_num : (os : List «V») (c : Chord) (h : Float) (k i : ℕ) (m : Float) → ne m m ≡ false
    → let r = steps_from (sampled os (arc c h)) k i m in ne r r ≡ false
unfolding steps_from nearest
turns_num os c h zero i m n = n
turns_num os c h (suc k) i m n = turns_num os c h k (suc i) (sampled os (arc c h) i m) (over_num _ os m n)

pub clearance_num : (c : Chord) (ps : List «V») (h : Float) → ne (clearance c ps h) (clearance c ps h) ≡ false
unfolding clearance up
clearance_num c ps h = turns_num (other_states c ps) c h (16 - 1) 1 infinity (unfold of_bits in (self_inf false))

-- ---- what all the bows have, the one chosen has

pub data All (P : Float → Type 0) : List Float → Type 0 where
  none : All P []
  more_of : {h : Float} {hs : List Float} → P h → All P hs → All P (h ∷ hs)

chosen : (P : Float → Type 0) (keeps : Float → Float) (b : Best) {hs : List Float} → P b.bow → All P hs → P (choose keeps b hs)
unfolding choose
chosen P keeps b p none = p
chosen P keeps b p (more_of {h} {hs} q a) =
    let s : P (better b (keeps h) h).bow = unfold better in (by_bool (lt b.clearance (keeps h)) (λ e. rw e q) (λ e. rw e p)) in
    let r = chosen P keeps (better b (keeps h) h) s a in
    by_bool (keeps_half keeps h) (λ e. rw e q) (λ e. rw e r)

pub verified_has : (P : Float → Type 0) (c : Chord) (ps : List «V») {h : Float} {hs : List Float} → All P (h ∷ hs)
    → P (verified (clearance c ps) (h ∷ hs))
verified_has P c ps {h} {hs} (more_of p a) =
    subst P (choose_is (clearance c ps) (clearance_num c ps) (h ∷ hs)) (chosen P (clearance c ps) (unchosen (h ∷ hs)) p (more_of p a))
