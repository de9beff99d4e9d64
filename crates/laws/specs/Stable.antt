-- A sort is stable: elements that stand before each other neither way keep their order. What does not stand before must be transitive. Assumes nothing.
use Rattle.std.specs.Prelude.{◌≡◌, Bool, true, false, not, ◌&&◌, T}
use Rattle.std.proofs.Math.Path.{refl, sym, ap}
use Rattle.std.proofs.Common.{subst, ◌∙◌}
use mathlib.Core.List.{List, [], ◌∷◌, ◌++◌, append_assoc, append-nil}
use Rattle.laws.specs.Cases.{by_bool}
use Rattle.laws.specs.Filter.{filter_by, filter_yes, filter_no}
use Rattle.laws.specs.Loops.{over}
use Rattle.laws.specs.Sort.{insert, sorted}
use Rattle.laws.specs.Ordered.{Ordered, none, more, insert-ordered}
use Rattle.laws.specs.Bools.{clash}

-- neither stands before the other
abbrev pub equals : {A : Type 0} → (A → A → Bool) → A → A → Bool
equals before k x = not (before k x) && not (before x k)

and_both : (a b : Bool) → not a && not b ≡ true → (a ≡ false) × (b ≡ false)
and_both true b h = absurd (subst T (sym h) tt)
and_both false true h = absurd (subst T (sym h) tt)
and_both false false h = (refl, refl)

module _ {A : Type 0} (before : A → A → Bool) (one_way : (x y : A) → before x y ≡ true → before y x ≡ false)
    (onward : (x y z : A) → before x y ≡ false → before y z ≡ false → before x z ≡ false) (k : A)
  where
    -- what k stands before is none of its equals
    not_equal : (x : A) → before k x ≡ true → equals before k x ≡ false
    not_equal x t = rw t

    -- nor is what follows it in order
    none_left : (y : A) (l : List A) → before k y ≡ true → Ordered before (y ∷ l) → filter_by (equals before k) (y ∷ l) ≡ []
    none_left y [] t o = filter_no (equals before k) y [] (not_equal y t) ∙ unfold filter_by in refl
    none_left y (z ∷ l) t (more h o) =
        filter_no (equals before k) y (z ∷ l) (not_equal y t)
        ∙ by_bool (before k z) (λ s. none_left z l s o) (λ s. absurd (clash t (onward k z y s h)))

    past : (x y : A) → equals before k x ≡ true → before x y ≡ true → before k y ≡ true
    past x y e t =
        by_bool (before k y) (λ s. s)
        (λ s. absurd (clash t (onward x k y (and_both (before k x) (before x k) e).1 s)))

    tail : (y : A) (l : List A) → Ordered before (y ∷ l) → Ordered before l
    tail y [] o = none
    tail y (z ∷ l) (more h o) = o

    -- an equal goes behind all the others
    insert_equal : (x : A) (l : List A) → equals before k x ≡ true → Ordered before l → filter_by (equals before k) (insert before x l) ≡ filter_by (equals before k) l ++ (x ∷ [])
    unfolding insert
    insert_equal x [] e o = filter_yes (equals before k) x [] e ∙ unfold filter_by in refl
    insert_equal x (y ∷ l) e o =
        by_bool (before x y)
        (λ t.
        let z : filter_by (equals before k) (y ∷ l) ≡ [] = none_left y l (past x y e t) o in
        rw t (filter_yes (equals before k) x (y ∷ l) e ∙ rw z))
        (λ t. rw t
        (by_bool (equals before k y)
        (λ s. filter_yes (equals before k) y (insert before x l) s
        ∙ ap (λ (r : List A). y ∷ r) (insert_equal x l e (tail y l o))
        ∙ ap (λ (r : List A). r ++ (x ∷ [])) (sym (filter_yes (equals before k) y l s)))
        (λ s. filter_no (equals before k) y (insert before x l) s
        ∙ insert_equal x l e (tail y l o)
        ∙ ap (λ (r : List A). r ++ (x ∷ [])) (sym (filter_no (equals before k) y l s)))))

    -- another element changes nothing among them
    insert-other : (x : A) (l : List A) → equals before k x ≡ false → filter_by (equals before k) (insert before x l) ≡ filter_by (equals before k) l
    unfolding insert
    insert-other x [] e = filter_no (equals before k) x [] e
    insert-other x (y ∷ l) e =
        by_bool (before x y)
        (λ t. rw t (filter_no (equals before k) x (y ∷ l) e))
        (λ t. rw t
        (by_bool (equals before k y)
        (λ s. filter_yes (equals before k) y (insert before x l) s
        ∙ ap (λ (r : List A). y ∷ r) (insert-other x l e)
        ∙ sym (filter_yes (equals before k) y l s))
        (λ s. filter_no (equals before k) y (insert before x l) s
        ∙ insert-other x l e
        ∙ sym (filter_no (equals before k) y l s))))

    over_stable : (s l : List A) → Ordered before s → filter_by (equals before k) (over (λ (s : List A) (x : A). insert before x s) s l) ≡ filter_by (equals before k) s ++ filter_by (equals before k) l
    unfolding over
    over_stable s [] o = sym (append-nil (filter_by (equals before k) s)) ∙ unfold filter_by in refl
    over_stable s (x ∷ l) o =
        over_stable (insert before x s) l (insert-ordered before one_way x s o)
        ∙ by_bool (equals before k x)
        (λ e. ap (λ (r : List A). r ++ filter_by (equals before k) l) (insert_equal x s e o)
        ∙ append_assoc (filter_by (equals before k) s) (x ∷ []) (filter_by (equals before k) l)
        ∙ ap (λ (r : List A). filter_by (equals before k) s ++ r) (sym (filter_yes (equals before k) x l e)))
        (λ e. ap (λ (r : List A). r ++ filter_by (equals before k) l) (insert-other x s e)
        ∙ ap (λ (r : List A). filter_by (equals before k) s ++ r) (sym (filter_no (equals before k) x l e)))

    -- the equals of k stand in the sorted list as they stood
    pub sorted_stable : (l : List A) → filter_by (equals before k) (sorted before l) ≡ filter_by (equals before k) l
    unfolding sorted
    sorted_stable l = over_stable [] l none ∙ unfold filter_by in refl
