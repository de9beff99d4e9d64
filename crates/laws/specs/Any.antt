-- Whether a test holds of some element of a list, or of some number of a range; a list from a place on, and its first n, as a loop meets them. Assumes nothing.
use Rattle.std.specs.Prelude.{◌≡◌, Bool, ◌||◌, ◌&&◌, length, get_or, take, drop}
use Rattle.std.proofs.Math.Path.{refl, sym, ap}
use Rattle.std.proofs.Common.{◌∙◌, not-suc-le-zero, le_of_suc-le-suc, drop_of_length-le, drop-cons}
use Rattle.std.proofs.Math.Bool.{true, false, true≢false}
use mathlib.Core.List.{List, [], ◌∷◌, ◌++◌, map, flat_map}
use Prim.Native.Nat.{ℕ, zero, suc, ◌+◌, ◌-◌, ◌≤◌, ◌<◌}
use Rattle.std.proofs.Math.Numerals.{add-one}
use native.Mathlib.Omega.{arith}
use Rattle.std.proofs.Math.Dec.{eqb}
use Rattle.std.proofs.Math.Seq.{take-nil}
use borrow.Author.Tests.{eqb-true, eqb-false}
use Rattle.laws.specs.Bools.{clash, and_second, or_false_left, or_false_right, or_none, or-second, or_assoc}
use Rattle.laws.specs.Cases.{by_bool}
use Rattle.laws.specs.Filter.{filter_by}
use Rattle.laws.specs.Loops.{any_for, any_up}

-- whether p holds of some element
unfoldable pub any_of : {A : Type 0} → (A → Bool) → List A → Bool
any_of p [] = false
any_of p (x ∷ l) = let rest = any_of p l in p x || rest

-- p holds at a place of the list
pub record Somewhere {A : Type 0} (p : A → Bool) (l : List A) (d : A) : Type 0 where
  pub place : ℕ
  pub inside : place < length l
  pub holds : p (get_or l place d) ≡ true

module _ {A : Type 0} (p : A → Bool) where
  pub any_here : (x : A) (l : List A) → p x ≡ true → any_of p (x ∷ l) ≡ true
  unfolding any_of
  any_here x l e = rw e

  pub any_later : (x : A) (l : List A) → any_of p l ≡ true → any_of p (x ∷ l) ≡ true
  unfolding any_of
  any_later x l e = or-second (p x) (any_of p l) e

  pub any_none : (x : A) (l : List A) → p x ≡ false → any_of p l ≡ false → any_of p (x ∷ l) ≡ false
  unfolding any_of
  any_none x l e q = rw (e, q)

  pub any_head : (x : A) (l : List A) → any_of p (x ∷ l) ≡ false → p x ≡ false
  unfolding any_of
  any_head x l e = or_false_left (p x) (any_of p l) e

  pub any_rest : (x : A) (l : List A) → any_of p (x ∷ l) ≡ false → any_of p l ≡ false
  unfolding any_of
  any_rest x l e = or_false_right (p x) (any_of p l) e

  pub any_cases : {C : Type 0} (x : A) (l : List A) → any_of p (x ∷ l) ≡ true → (p x ≡ true → C) → (any_of p l ≡ true → C) → C
  unfolding any_of
  any_cases x l e f g = by_bool (p x) f (λ t. g (rw t at e))

  pub any_join : (l m : List A) → any_of p (l ++ m) ≡ (any_of p l || any_of p m)
  unfolding any_of
  any_join [] m = refl
  any_join (x ∷ l) m = ap (λ (b : Bool). p x || b) (any_join l m) ∙ sym (or_assoc (p x) (any_of p l) (any_of p m))

  -- none of a list: of no place in it
  pub none_at : (l : List A) (k : ℕ) (d : A) → any_of p l ≡ false → k < length l → p (get_or l k d) ≡ false
  none_at [] k d e h = absurd (not-suc-le-zero h)
  none_at (x ∷ l) zero d e h = any_head x l e
  none_at (x ∷ l) (suc k) d e h = none_at l k d (any_rest x l e) (le_of_suc-le-suc h)

  pub none_all : (l : List A) (d : A) → ((k : ℕ) → k < length l → p (get_or l k d) ≡ false) → any_of p l ≡ false
  unfolding any_of
  none_all [] d h = refl
  none_all (x ∷ l) d h = any_none x l (h 0 (omega arith)) (none_all l d (λ k i. h (suc k) (omega arith)))

  -- some of a list: of some place in it
  pub some_at : (l : List A) (d : A) → any_of p l ≡ true → Somewhere p l d
  some_at [] d e = absurd (unfold any_of in true≢false (sym e))
  some_at (x ∷ l) d e =
      any_cases x l e (λ t. record { place = 0; inside = omega arith; holds = t })
      (λ t. let r : Somewhere p l d = some_at l d t in record { place = suc r.place; inside = omega (arith, r.inside); holds = r.holds })

  pub at_some : (l : List A) (d : A) → Somewhere p l d → any_of p l ≡ true
  at_some l d r = by_bool (any_of p l) (λ t. t) (λ t. clash r.holds (none_at l r.place d t r.inside))

  -- a list without one for which the test does not hold
  pub any_without : (l : List A) (k : ℕ) (d : A) → p (get_or l k d) ≡ false → any_of p (take k l ++ drop (suc k) l) ≡ any_of p l
  unfolding any_of
  any_without [] k d e = rw (take-nil k)
  any_without (x ∷ l) zero d e = rw e
  any_without (x ∷ l) (suc k) d e = ap (λ (b : Bool). p x || b) (any_without l k d e)

-- ---- another test, and lists made of others
pub any_wider : {A : Type 0} (p q : A → Bool) (l : List A) → ((x : A) → p x ≡ true → q x ≡ true) → any_of p l ≡ true → any_of q l ≡ true
unfolding any_of
any_wider p q [] f e = e
any_wider p q (x ∷ l) f e = any_cases p x l e (λ t. any_here q x l (f x t)) (λ t. any_later q x l (any_wider p q l f t))

pub any_narrower : {A : Type 0} (p q : A → Bool) (l : List A) → ((x : A) → p x ≡ true → q x ≡ true) → any_of q l ≡ false → any_of p l ≡ false
any_narrower p q l f e = by_bool (any_of p l) (λ t. clash (any_wider p q l f t) e) (λ t. t)

pub any_or : {A : Type 0} (p q : A → Bool) (l : List A) → any_of p l ≡ false → any_of q l ≡ false → any_of (λ x. p x || q x) l ≡ false
unfolding any_of
any_or p q [] a b = refl
any_or p q (x ∷ l) a b = or_none (p x || q x) (any_of (λ y. p y || q y) l) (or_none (p x) (q x) (any_head p x l a) (any_head q x l b)) (any_or p q l (any_rest p x l a) (any_rest q x l b))

pub any_filter : {A : Type 0} (p q : A → Bool) (l : List A) → any_of p (filter_by q l) ≡ any_of (λ x. q x && p x) l
unfolding any_of filter_by
any_filter p q [] = refl
any_filter p q (x ∷ l) = by_bool (q x) (λ t. rw t (by_bool (p x) (λ u. rw u) (λ u. rw u (any_filter p q l)))) (λ t. rw t (any_filter p q l))

-- among those that pass another test, if all for which the first holds do
pub any_kept : {A : Type 0} (p q : A → Bool) (l : List A) → ((x : A) → p x ≡ true → q x ≡ true) → any_of p (filter_by q l) ≡ any_of p l
any_kept p q l f =
    any_filter p q l
    ∙ by_bool (any_of p l)
    (λ t. any_wider p (λ x. q x && p x) l (λ x h. rw (f x h, h)) t ∙ sym t)
    (λ t. any_narrower (λ x. q x && p x) p l (λ x h. and_second (q x) (p x) h) t ∙ sym t)

pub any_flat : {A B : Type 0} (p : B → Bool) (f : A → List B) (l : List A) → any_of p (flat_map f l) ≡ any_of (λ x. any_of p (f x)) l
unfolding any_of flat_map
any_flat p f [] = refl
any_flat p f (x ∷ l) = any_join p (f x) (flat_map f l) ∙ ap (λ (b : Bool). any_of p (f x) || b) (any_flat p f l)

pub any_map : {A B : Type 0} (p : B → Bool) (f : A → B) (l : List A) → any_of p (map f l) ≡ any_of (λ x. p (f x)) l
unfolding any_of
any_map p f [] = refl
any_map p f (x ∷ l) = ap (λ (b : Bool). p (f x) || b) (any_map p f l)

-- ---- numbers of a range
pub any_same : (p q : ℕ → Bool) (n i : ℕ) → ((k : ℕ) → p k ≡ q k) → any_for p n i ≡ any_for q n i
unfolding any_for
any_same p q zero i h = refl
any_same p q (suc n) i h = rw (h i, any_same p q n (suc i) h)

module _ (p : ℕ → Bool) where
  none_for : (n i k : ℕ) → any_for p n i ≡ false → i ≤ k → k < i + n → p k ≡ false
  unfolding any_for
  none_for zero i k e h l = absurd (omega arith)
  none_for (suc n) i k e h l = go (eqb k i) refl (λ g. none_for n (suc i) k (or_false_right (p i) (any_for p n (suc i)) e) g (omega arith))
    where
      go : (b : Bool) → eqb k i ≡ b → (suc i ≤ k → p k ≡ false) → p k ≡ false
      go true t r = rw (eqb-true k i t) (or_false_left (p i) (any_for p n (suc i)) e)
      go false t r = let d : k ≡ i → ⊥ = eqb-false k i t in r (omega arith)

  for_none : (n i : ℕ) → ((k : ℕ) → i ≤ k → k < i + n → p k ≡ false) → any_for p n i ≡ false
  unfolding any_for
  for_none zero i h = refl
  for_none (suc n) i h = or_none (p i) (any_for p n (suc i)) (h i (omega arith) (omega arith)) (for_none n (suc i) (λ k a b. h k (omega arith) (omega arith)))

  -- none from a to e - 1
  pub none_up : (a e k : ℕ) → any_up p a e ≡ false → a ≤ k → k < e → p k ≡ false
  unfolding any_up
  none_up a e k q h l = none_for (e - a) a k q h (omega arith)

  pub up_none : (a e : ℕ) → ((k : ℕ) → a ≤ k → k < e → p k ≡ false) → any_up p a e ≡ false
  unfolding any_up
  up_none a e h = for_none (e - a) a (λ k i l. h k i (omega arith))
