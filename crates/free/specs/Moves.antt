-- What the search for a free bow comes to, for all floats, NaN and the infinities included: a move leaves an interval behind for good, so there are
-- at most as many moves as intervals (`moves_bound`), and the bow given lies strictly inside none (`free_of`). Assumes nothing.
use Rattle.std.specs.Prelude.{◌≡◌, Bool, false, length, Float}
use Rattle.std.proofs.Math.Path.{refl, ap}
use Rattle.std.proofs.Common.{sym, subst, ◌∙◌}
use Rattle.std.proofs.Math.Bool.{true, cond}
use mathlib.Core.List.{List, [], ◌∷◌}
use Prim.Native.Nat.{ℕ, zero, suc, ◌+◌, ◌≤◌, ◌<◌}
use native.Mathlib.Omega.{arith}
use Rattle.std.proofs.Math.Dec.{T}
use Rattle.std.specs.Float.Ieee.Fits.{and_l, and_r}
use Rattle.laws.specs.Cases.{by_bool, holds as yes_of}
use Rattle.std.specs.List.{fold}
use Rattle.laws.specs.Order.{float_lt_trans, lt-itself}
use Rattle.laws.specs.Bools.{clash}
use Rattle.float.specs.Ops.{lt}
use Rattle.free.specs.declared.Span.{Span}
use Rattle.free.specs.declared.Pass.{Pass}
use Rattle.free.specs.declared.Search.{Search}
use Rattle.free.specs.declared.Search.TheVariants.{Up, Down}
use Rattle.free.specs.Free.{inside, inside_some, sent_to, visit, pass_start, pass, passes, first_free}

-- ---- the moves

-- the moves of a pass from p on over these intervals
unfoldable pub moves_in : Search → Pass → List Span → ℕ
moves_in way p [] = 0
moves_in way p (s ∷ l) = cond (inside s p.h) 1 0 + moves_in way (visit way p s) l

-- the moves of at most m passes
unfoldable pub moves_of : Search → List Span → ℕ → Float → ℕ
moves_of way l zero h = 0
moves_of way l (suc m) h =
    let s = pass way l h in
    let more = moves_of way l m s.h in
    moves_in way (pass_start h) l + cond s.moved more 0

-- the moves of the search
abbrev pub moves : Search → List Span → Float → ℕ
moves way l h = moves_of way l (suc (length l)) h

-- ---- one move

-- whether t lies ahead of h, upwards or downwards
unfoldable pub ahead : Search → Float → Float → Bool
ahead Up h t = lt h t
ahead Down h t = lt t h

ahead_trans : (u : Search) (h t x : Float) → T (ahead u h t) → T (ahead u t x) → T (ahead u h x)
unfolding ahead
ahead_trans Up h t x a b = float_lt_trans h t x a b
ahead_trans Down h t x a b = float_lt_trans x t h b a

ahead-itself : (u : Search) (t : Float) → T (ahead u t t) → ⊥
unfolding ahead
ahead-itself Up t a = lt-itself t a
ahead-itself Down t a = lt-itself t a

inside-ahead : (u : Search) (s : Span) (h : Float) → T (inside s h) → T (ahead u h (sent_to u s))
unfolding ahead
inside-ahead Up s h t = and_r (lt s.lo h) (lt h s.hi) t
inside-ahead Down s h t = and_l (lt s.lo h) (lt h s.hi) t

bit_le : (a b : Bool) → (T a → T b) → cond a 1 0 ≤ cond b 1 0
bit_le false b f = omega arith
bit_le true true f = omega arith
bit_le true false f = absurd (f tt)

bit_lt : (a b : Bool) → (T a → ⊥) → T b → cond a 1 0 < cond b 1 0
bit_lt true b f t = absurd (f tt)
bit_lt false true f t = omega arith
bit_lt false false f t = absurd t

-- s is one of the list's
data Has (s : Span) : List Span → Type 0 where
  here : {l : List Span} → Has s (s ∷ l)
  there : {x : Span} {l : List Span} → Has s l → Has s (x ∷ l)

module _ (way : Search) where
  -- how many intervals' ends lie ahead of h
  pub spans_ahead : List Span → Float → ℕ
  spans_ahead [] h = 0
  spans_ahead (s ∷ l) h = cond (ahead way h (sent_to way s)) 1 0 + spans_ahead l h

  left_bound : (l : List Span) (h : Float) → spans_ahead l h ≤ length l
  unfolding spans_ahead
  left_bound [] h = omega arith
  left_bound (s ∷ l) h =
      let b : cond (ahead way h (sent_to way s)) 1 0 ≤ cond true 1 0 = bit_le (ahead way h (sent_to way s)) true (λ _. tt) in
      omega (arith, left_bound l h)

  left_le : (l : List Span) (h t : Float) → T (ahead way h t) → spans_ahead l t ≤ spans_ahead l h
  unfolding spans_ahead
  left_le [] h t a = omega arith
  left_le (s ∷ l) h t a =
      let b = bit_le (ahead way t (sent_to way s)) (ahead way h (sent_to way s)) (ahead_trans way h t (sent_to way s) a) in
      omega (arith, left_le l h t a)

  move_falls : (s : Span) {l : List Span} (h : Float) → Has s l → T (inside s h) → spans_ahead l (sent_to way s) < spans_ahead l h
  unfolding spans_ahead
  move_falls s h (here {l}) t =
      let a = inside-ahead way s h t in
      let b = bit_lt (ahead way (sent_to way s) (sent_to way s)) (ahead way h (sent_to way s)) (ahead-itself way (sent_to way s)) a in
      omega (arith, left_le l h (sent_to way s) a)
  move_falls s h (there {x} {l} m) t =
      let a = inside-ahead way s h t in
      let b = bit_le (ahead way (sent_to way s) (sent_to way x)) (ahead way h (sent_to way x)) (ahead_trans way h (sent_to way s) (sent_to way x) a) in
      omega (arith, move_falls s h m t)

  -- ---- one interval's step, and a run of steps

  pub visit_in : (p : Pass) (s : Span) → inside s p.h ≡ true → visit way p s ≡ record { h = sent_to way s; moved = true }
  unfolding visit
  visit_in p s e = rw e

  pub visit-out : (p : Pass) (s : Span) → inside s p.h ≡ false → visit way p s ≡ p
  unfolding visit
  visit-out p s e = rw e

  end : Pass → List Span → Pass
  end p l = fold (visit way) p l

  stays : (p : Pass) (l : List Span) → p.moved ≡ true → (end p l).moved ≡ true
  unfolding end
  stays p [] e = e
  stays p (s ∷ l) e = stays (visit way p s) l (by_bool (inside s p.h) (λ i. rw (visit_in p s i)) (λ i. rw (visit-out p s i) e))

  -- a run that moved nothing is where it began, which is inside none of its intervals
  still : (p : Pass) (l : List Span) → (end p l).moved ≡ false → (end p l ≡ p) × (inside_some l p.h ≡ false)
  unfolding end
  still p [] e = (refl, refl)
  still p (s ∷ l) e =
      by_bool (inside s p.h)
      (λ i. clash (stays (visit way p s) l (rw (visit_in p s i))) e)
      (λ i. let r = still (visit way p s) l e in let v = visit-out p s i in (r.0 ∙ v, rw i (ap (λ (q : Pass). inside_some l q.h) (sym v) ∙ r.1)))

  -- a run that moved something has moves
  moved : (p : Pass) (l : List Span) → p.moved ≡ false → (end p l).moved ≡ true → 0 < moves_in way p l
  unfolding end moves_in
  moved p [] f e = absurd (subst T (sym e ∙ f) tt)
  moved p (s ∷ l) f e =
      by_bool (inside s p.h)
      (λ i. rw i (omega arith))
      (λ i. let k : 0 < moves_in way (visit way p s) l = moved (visit way p s) l (rw (visit-out p s i) f) e in omega arith)

  -- the moves of a run, and the ends that are left ahead
  count : (w : List Span) (p : Pass) (l : List Span) → ((s : Span) → Has s l → Has s w) → moves_in way p l + spans_ahead w (end p l).h ≤ spans_ahead w p.h
  unfolding end moves_in
  count w p [] f = omega arith
  count w p (s ∷ l) f =
      let r = count w (visit way p s) l (λ x m. f x (there m)) in
      by_bool (inside s p.h)
      (λ i.
      let k : spans_ahead w (sent_to way s) < spans_ahead w p.h = move_falls s p.h (f s here) (yes_of i) in
      let v : spans_ahead w (visit way p s).h ≡ spans_ahead w (sent_to way s) = ap (λ (q : Pass). spans_ahead w q.h) (visit_in p s i) in
      rw i (omega arith))
      (λ i. let v : spans_ahead w (visit way p s).h ≡ spans_ahead w p.h = ap (λ (q : Pass). spans_ahead w q.h) (visit-out p s i) in rw i (omega arith))

module _ (way : Search) (l : List Span) where
  pass-count : (h : Float) → moves_in way (pass_start h) l + spans_ahead way l (pass way l h).h ≤ spans_ahead way l h
  unfolding pass end
  pass-count h = count way l (pass_start h) l (λ s m. m)

  pub pass_falls : (h : Float) → (pass way l h).moved ≡ true → spans_ahead way l (pass way l h).h < spans_ahead way l h
  unfolding pass end
  pass_falls h e = let k : 0 < moves_in way (pass_start h) l = moved way (pass_start h) l refl e in omega (arith, pass-count h)

  pass_still : (h : Float) → (pass way l h).moved ≡ false → ((pass way l h).h ≡ h) × (inside_some l h ≡ false)
  unfolding pass end
  pass_still h e = let r = still way (pass_start h) l e in (ap (λ (p : Pass). p.h) r.0, r.1)

  -- ---- the passes

  one_more_lem : (m : ℕ) (h : Float) → (pass way l h).moved ≡ true → passes way l (suc m) h ≡ passes way l m (pass way l h).h
  unfolding passes
  one_more_lem m h e = rw e

  last : (m : ℕ) (h : Float) → (pass way l h).moved ≡ false → passes way l (suc m) h ≡ (pass way l h).h
  unfolding passes
  last m h e = rw e

  -- any number of passes above that of the ends ahead will do
  enough : (m k : ℕ) (h : Float) → spans_ahead way l h < m → spans_ahead way l h < k → passes way l m h ≡ passes way l k h
  enough zero k h p q = absurd (omega arith)
  enough (suc m) zero h p q = absurd (omega arith)
  enough (suc m) (suc k) h p q =
      by_bool (pass way l h).moved
      (λ e. one_more_lem m h e ∙ enough m k (pass way l h).h (omega (arith, pass_falls h e)) (omega (arith, pass_falls h e)) ∙ sym (one_more_lem k h e))
      (λ e. last m h e ∙ sym (last k h e))

  pub free_still : (h : Float) → (pass way l h).moved ≡ false → first_free way l h ≡ (pass way l h).h
  unfolding first_free
  free_still h e = last _ h e

  pub free_moved : (h : Float) → (pass way l h).moved ≡ true → first_free way l h ≡ first_free way l (pass way l h).h
  unfolding first_free
  free_moved h e =
      one_more_lem _ h e
      ∙ enough _ _ (pass way l h).h (omega (arith, pass_falls h e, left_bound way l h)) (omega (arith, pass_falls h e, left_bound way l h))

  passes-free : (m : ℕ) (h : Float) → spans_ahead way l h < m → inside_some l (passes way l m h) ≡ false
  passes-free zero h p = absurd (omega arith)
  passes-free (suc m) h p =
      by_bool (pass way l h).moved
      (λ e. rw (one_more_lem m h e) (passes-free m (pass way l h).h (omega (arith, pass_falls h e))))
      (λ e. let r = pass_still h e in ap (inside_some l) (last m h e ∙ r.0) ∙ r.1)

  -- The first free bow lies strictly inside no interval.
  pub free_of : (h : Float) → inside_some l (first_free way l h) ≡ false
  unfolding first_free
  free_of h = passes-free (suc (length l)) h (omega (arith, left_bound way l h))

  moves-left : (m : ℕ) (h : Float) → moves_of way l m h ≤ spans_ahead way l h
  unfolding moves_of
  moves-left zero h = omega arith
  moves-left (suc m) h =
      by_bool (pass way l h).moved
      (λ e. rw e (omega (arith, pass-count h, moves-left m (pass way l h).h)))
      (λ e. rw e (omega (arith, pass-count h)))

  -- There are at most as many moves as intervals.
  pub moves_bound : (h : Float) → moves way l h ≤ length l
  moves_bound h = let a = moves-left (suc (length l)) h in omega (arith, left_bound way l h)

-- What every move keeps, the search keeps.
module _ (way : Search) (l : List Span) (P : Float → Type 0) (step : (h t : Float) → P h → T (ahead way h t) → P t) where
  run_keeps : (p : Pass) (q : List Span) → P p.h → P (fold (visit way) p q).h
  run_keeps p [] k = k
  run_keeps p (s ∷ q) k =
      run_keeps (visit way p s) q
      (by_bool (inside s p.h)
      (λ i. rw (visit_in way p s i) (step p.h (sent_to way s) k (inside-ahead way s p.h (yes_of i))))
      (λ i. rw (visit-out way p s i) k))

  passes-keep : (m : ℕ) (h : Float) → P h → P (passes way l m h)
  unfolding passes pass
  passes-keep zero h k = k
  passes-keep (suc m) h k =
      let r : P (pass way l h).h = unfold pass in (run_keeps (pass_start h) l k) in
      by_bool (pass way l h).moved
      (λ e. rw e (passes-keep m (pass way l h).h r))
      (λ e. rw e r)

  pub free_keeps : (h : Float) → P h → P (first_free way l h)
  unfolding first_free
  free_keeps h k = passes-keep (suc (length l)) h k
