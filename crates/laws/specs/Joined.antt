-- Lists of lists joined, and how map, filter and folds go through them. Assumes nothing.
use Rattle.std.specs.Prelude.{◌≡◌, Bool, cond}
use Rattle.std.proofs.Math.Path.{refl, sym, ap, ap₂}
use Rattle.std.proofs.Common.{◌∙◌}
use mathlib.Core.List.{List, [], ◌∷◌, ◌++◌, map, flat_map, append_assoc, append-nil}
use Rattle.laws.specs.Cases.{by_bool}
use Rattle.laws.specs.Filter.{filter_by, filter_join}
use Rattle.laws.specs.Loops.{over, over_join}

module _ {A B : Type 0} where
  pub map_join : (h : A → B) (l m : List A) → map h (l ++ m) ≡ map h l ++ map h m
  map_join h [] m = refl
  map_join h (a ∷ l) m = ap (λ (r : List B). h a ∷ r) (map_join h l m)

  pub flat_join : (g : A → List B) (l m : List A) → flat_map g (l ++ m) ≡ flat_map g l ++ flat_map g m
  unfolding flat_map
  flat_join g [] m = refl
  flat_join g (a ∷ l) m = ap (λ (r : List B). g a ++ r) (flat_join g l m) ∙ sym (append_assoc (g a) (flat_map g l) (flat_map g m))

  pub flat_snoc : (g : A → List B) (l : List A) (a : A) → flat_map g (l ++ (a ∷ [])) ≡ flat_map g l ++ g a
  unfolding flat_map
  flat_snoc g [] a = append-nil (g a)
  flat_snoc g (b ∷ l) a = ap (λ (r : List B). g b ++ r) (flat_snoc g l a) ∙ sym (append_assoc (g b) (flat_map g l) (g a))

  pub map_flat_one : (h : A → B) (l : List A) → map h l ≡ flat_map (λ a. h a ∷ []) l
  unfolding flat_map
  map_flat_one h [] = refl
  map_flat_one h (a ∷ l) = ap (λ (r : List B). h a ∷ r) (map_flat_one h l)

  -- only of those that pass a test
  pub flat_filter : (g : A → List B) (p : A → Bool) (l : List A) → flat_map g (filter_by p l) ≡ flat_map (λ a. cond (p a) (g a) []) l
  unfolding flat_map filter_by
  flat_filter g p [] = refl
  flat_filter g p (a ∷ l) = by_bool (p a) (λ t. rw t (ap (λ (r : List B). g a ++ r) (flat_filter g p l))) (λ t. rw t (flat_filter g p l))

  pub filter_flat : (p : B → Bool) (g : A → List B) (l : List A) → filter_by p (flat_map g l) ≡ flat_map (λ a. filter_by p (g a)) l
  unfolding flat_map
  filter_flat p g [] = unfold filter_by in refl
  filter_flat p g (a ∷ l) = filter_join p (g a) (flat_map g l) ∙ ap (λ (r : List B). filter_by p (g a) ++ r) (filter_flat p g l)

  -- a fold over all
  pub over_flat : {S : Type 0} (h : S → B → S) (s : S) (g : A → List B) (l : List A) → over h s (flat_map g l) ≡ over (λ r a. over h r (g a)) s l
  unfolding flat_map over
  over_flat h s g [] = refl
  over_flat h s g (a ∷ l) = over_join h s (g a) (flat_map g l) ∙ over_flat h (over h s (g a)) g l

  pub flat_same : (g h : A → List B) (l : List A) → ((a : A) → g a ≡ h a) → flat_map g l ≡ flat_map h l
  unfolding flat_map
  flat_same g h [] e = refl
  flat_same g h (a ∷ l) e = ap₂ (λ (x y : List B). x ++ y) (e a) (flat_same g h l e)

module _ {A B C : Type 0} where
  pub map_flat : (h : B → C) (g : A → List B) (l : List A) → map h (flat_map g l) ≡ flat_map (λ a. map h (g a)) l
  unfolding flat_map
  map_flat h g [] = refl
  map_flat h g (a ∷ l) = map_join h (g a) (flat_map g l) ∙ ap (λ (r : List C). map h (g a) ++ r) (map_flat h g l)

  pub flat_flat : (h : B → List C) (g : A → List B) (l : List A) → flat_map h (flat_map g l) ≡ flat_map (λ a. flat_map h (g a)) l
  unfolding flat_map
  flat_flat h g [] = refl
  flat_flat h g (a ∷ l) = flat_join h (g a) (flat_map g l) ∙ ap (λ (r : List C). flat_map h (g a) ++ r) (flat_flat h g l)

module _ {A B : Type 0} where
  pub filter_map : (p : B → Bool) (h : A → B) (l : List A) → filter_by p (map h l) ≡ map h (filter_by (λ a. p (h a)) l)
  unfolding filter_by
  filter_map p h [] = refl
  filter_map p h (a ∷ l) = by_bool (p (h a)) (λ t. rw t (ap (λ (r : List B). h a ∷ r) (filter_map p h l))) (λ t. rw t (filter_map p h l))

pub map-map : {A B C : Type 0} (g : B → C) (h : A → B) (l : List A) → map g (map h l) ≡ map (λ a. g (h a)) l
map-map g h [] = refl
map-map {C = C} g h (a ∷ l) = ap (λ (r : List C). g (h a) ∷ r) (map-map g h l)

pub flat_map_lem : {A B C : Type 0} (g : B → List C) (h : A → B) (l : List A) → flat_map g (map h l) ≡ flat_map (λ a. g (h a)) l
unfolding flat_map
flat_map_lem g h [] = refl
flat_map_lem {C = C} g h (a ∷ l) = ap (λ (r : List C). g (h a) ++ r) (flat_map_lem g h l)

-- what is made of one made of each that is chosen
pub flat_chosen : {A B C : Type 0} (f : B → List C) (g : A → B) (q : A → Bool) (l : List A) → flat_map f (map g (filter_by q l)) ≡ flat_map (λ x. cond (q x) (f (g x)) []) l
flat_chosen f g q l = flat_map_lem f g (filter_by q l) ∙ flat_filter (λ x. f (g x)) q l
