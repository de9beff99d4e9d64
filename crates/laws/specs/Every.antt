-- Whether a test holds of every element of a list: a loop over the list, where l is what is left and t the answer for the whole; lists joined, and made of others. Assumes nothing.
use Rattle.std.specs.Prelude.{◌≡◌, Bool, true, false, cond, ◌&&◌, length, get_or}
use Rattle.std.proofs.Math.Path.{refl, sym, ap}
use Rattle.std.proofs.Common.{◌∙◌, not-suc-le-zero, arith}
use mathlib.Core.List.{List, [], ◌∷◌, ◌++◌, map, flat_map}
use Prim.Native.Nat.{ℕ, zero, suc, ◌<◌}
use Rattle.laws.specs.Bools.{and_first, and_second, and_assoc}
use Rattle.laws.specs.Cases.{by_bool}
use Rattle.laws.specs.Filter.{filter_by}

module _ {A : Type 0} (p : A → Bool) where
  unfoldable pub every : List A → Bool
  every [] = true
  every (x ∷ l) = p x && every l

  pub every_stop : {l r : List A} {t : Bool} (x : A) → l ≡ x ∷ r → p x ≡ false → every l ≡ t → false ≡ t
  unfolding every
  every_stop {r = r} x e f h = sym (ap (λ (b : Bool). b && every r) f) ∙ sym (ap every e) ∙ h

  pub every-step : {l r : List A} {t : Bool} (x : A) → l ≡ x ∷ r → p x ≡ true → every l ≡ t → every r ≡ t
  unfolding every
  every-step {r = r} x e f h = sym (ap (λ (b : Bool). b && every r) f) ∙ sym (ap every e) ∙ h

  pub every-end : {l : List A} {t : Bool} → l ≡ [] → every l ≡ t → true ≡ t
  unfolding every
  every-end e h = sym (ap every e) ∙ h

  pub every-at : (l : List A) (k : ℕ) (d : A) → every l ≡ true → k < length l → p (get_or l k d) ≡ true
  unfolding every
  every-at [] k d h i = absurd (not-suc-le-zero i)
  every-at (x ∷ l) zero d h i = and_first (p x) (every l) h
  every-at (x ∷ l) (suc k) d h i = every-at l k d (and_second (p x) (every l) h) (omega arith)

  pub every_join : (l m : List A) → every (l ++ m) ≡ (every l && every m)
  unfolding every
  every_join [] m = refl
  every_join (x ∷ l) m = ap (λ (t : Bool). p x && t) (every_join l m) ∙ sym (and_assoc (p x) (every l) (every m))

-- ---- of what is made of each: one, some, one of each that is chosen
module _ {A B : Type 0} (p : B → Bool) where
  pub every_map : (g : A → B) (l : List A) → every p (map g l) ≡ every (λ x. p (g x)) l
  unfolding every
  every_map g [] = refl
  every_map g (x ∷ l) = ap (λ (t : Bool). p (g x) && t) (every_map g l)

  pub every-all : (g : A → List B) (l : List A) → every p (flat_map g l) ≡ every (λ x. every p (g x)) l
  unfolding every flat_map
  every-all g [] = refl
  every-all g (x ∷ l) = every_join p (g x) (flat_map g l) ∙ ap (λ (t : Bool). every p (g x) && t) (every-all g l)

  pub every-chosen : (g : A → B) (q : A → Bool) (l : List A) → every p (map g (filter_by q l)) ≡ every (λ x. cond (q x) (p (g x)) true) l
  unfolding every filter_by
  every-chosen g q [] = refl
  every-chosen g q (x ∷ l) = by_bool (q x) (λ t. rw t (ap (λ (t : Bool). p (g x) && t) (every-chosen g q l))) (λ t. rw t (every-chosen g q l))
