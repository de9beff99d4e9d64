-- What passes a test: one of the list, the only one, and each by its place in the whole list and in what is left. Assumes nothing.
use Rattle.std.specs.Prelude.{◌≡◌, Bool, true, take}
use Rattle.std.proofs.Math.Path.{refl, ap}
use Rattle.std.proofs.Common.{sym, ◌∙◌, not-suc-le-zero, arith}
use mathlib.Core.List.{List, [], ◌∷◌}
use Prim.Native.Nat.{ℕ, zero, suc, ◌≤◌, ◌<◌}
use Rattle.std.proofs.Math.ListN.{length, get_or}
use Rattle.laws.specs.Cases.{by_bool}
use Rattle.laws.specs.Filter.{filter_by, filter_yes, filter_no}

-- x stands in l, at a place
pub record At {A : Type 0} (l : List A) (d x : A) : Type 0 where
  pub place : ℕ
  pub inside : place < length l
  pub there : get_or l place d ≡ x

module _ {A : Type 0} (p : A → Bool) where
  pub filter_some : (l : List A) (t : ℕ) (d : A) → t < length l → p (get_or l t d) ≡ true → 0 < length (filter_by p l)
  filter_some [] t d h e = absurd (not-suc-le-zero h)
  filter_some (x ∷ l) zero d h e = rw (filter_yes p x l e) (omega arith)
  filter_some (x ∷ l) (suc t) d h e =
      let more : 0 < length (filter_by p l) = filter_some l t d (omega arith) e in
      by_bool (p x) (λ c. rw (filter_yes p x l c) (omega arith)) (λ c. rw (filter_no p x l c) more)

  none_left : (l : List A) → length l ≤ 0 → l ≡ []
  none_left [] h = refl
  none_left (x ∷ l) h = absurd (not-suc-le-zero h)

  -- where one passes at most, what is left is the one at any place that passes
  pub filter_only : (l : List A) (t : ℕ) (d : A) → length (filter_by p l) ≤ 1 → t < length l → p (get_or l t d) ≡ true → filter_by p l ≡ get_or l t d ∷ []
  filter_only [] t d n h e = absurd (not-suc-le-zero h)
  filter_only (x ∷ l) zero d n h e =
      let m : length (x ∷ filter_by p l) ≤ 1 = rw (filter_yes p x l e) at n in
      filter_yes p x l e ∙ ap (λ (r : List A). x ∷ r) (none_left (filter_by p l) (omega arith))
  filter_only (x ∷ l) (suc t) d n h e =
      by_bool (p x)
      (λ c. let m : length (x ∷ filter_by p l) ≤ 1 = rw (filter_yes p x l c) at n in absurd (omega (arith, filter_some l t d (omega arith) e)))
      (λ c. filter_no p x l c ∙ filter_only l t d (rw (filter_no p x l c) at n) (omega arith) e)

  -- what is left stands in the list
  pub find : (l : List A) (d x : A) (r : List A) → filter_by p l ≡ x ∷ r → At l d x
  find [] d x r e = let none : filter_by p [] ≡ [] = unfold filter_by in refl in absurd (omega (arith, ap length (sym none ∙ e)))
  find (y ∷ l) d x r e =
      by_bool (p y)
      (λ c. record { place = 0; inside = omega arith; there = ap (λ (m : List A). get_or m 0 d) (sym (filter_yes p y l c) ∙ e) })
      (λ c. let at : At l d x = find l d x r (sym (filter_no p y l c) ∙ e) in record { place = suc at.place; inside = omega (arith, at.inside); there = at.there })

-- ---- each, by its place in the whole list and in what is left

module _ {A : Type 0} (p : A → Bool) where
  pub left_at : (l : List A) (e : ℕ) (d : A) → e < length l → p (get_or l e d) ≡ true → get_or (filter_by p l) (length (filter_by p (take e l))) d ≡ get_or l e d
  left_at [] e d h c = absurd (not-suc-le-zero h)
  left_at (x ∷ l) zero d h c = unfold filter_by in rw c
  left_at (x ∷ l) (suc e) d h c =
      by_bool (p x)
      (λ t. rw (filter_yes p x l t, filter_yes p x (take e l) t) (left_at l e d (omega arith) c))
      (λ t. rw (filter_no p x l t, filter_no p x (take e l) t) (left_at l e d (omega arith) c))

  pub left-inside : (l : List A) (e : ℕ) (d : A) → e < length l → p (get_or l e d) ≡ true → length (filter_by p (take e l)) < length (filter_by p l)
  left-inside [] e d h c = absurd (not-suc-le-zero h)
  left-inside (x ∷ l) zero d h c = unfold filter_by in rw c (omega arith)
  left-inside (x ∷ l) (suc e) d h c =
      let rest : length (filter_by p (take e l)) < length (filter_by p l) = left-inside l e d (omega arith) c in
      by_bool (p x) (λ t. rw (filter_yes p x l t, filter_yes p x (take e l) t) (omega arith)) (λ t. rw (filter_no p x l t, filter_no p x (take e l) t) rest)

  -- thing k of what is left stands at a place of the list
  pub record From (l : List A) (d : A) (k : ℕ) : Type 0 where
    pub place : ℕ
    pub inside : place < length l
    pub passes : p (get_or l place d) ≡ true
    pub before : length (filter_by p (take place l)) ≡ k

  pub left_from : (l : List A) (d : A) (k : ℕ) → k < length (filter_by p l) → From l d k
  left_from [] d k h = let none : filter_by p [] ≡ [] = unfold filter_by in refl in absurd (omega (arith, ap length none))
  left_from (x ∷ l) d zero h =
      by_bool (p x)
      (λ t. record { place = 0; inside = omega arith; passes = t; before = unfold filter_by in refl })
      (λ t.
      let r : From l d 0 = left_from l d 0 (rw (filter_no p x l t) at h) in
      record { place = suc r.place; inside = omega (arith, r.inside); passes = r.passes; before = ap length (filter_no p x (take r.place l) t) ∙ r.before })
  left_from (x ∷ l) d (suc k) h =
      by_bool (p x)
      (λ t.
      let i : suc k < length (x ∷ filter_by p l) = rw (filter_yes p x l t) at h in
      let r : From l d k = left_from l d k (omega arith) in
      record { place = suc r.place; inside = omega (arith, r.inside); passes = r.passes; before = ap length (filter_yes p x (take r.place l) t) ∙ ap suc r.before })
      (λ t.
      let r : From l d (suc k) = left_from l d (suc k) (rw (filter_no p x l t) at h) in
      record { place = suc r.place; inside = omega (arith, r.inside); passes = r.passes; before = ap length (filter_no p x (take r.place l) t) ∙ r.before })
