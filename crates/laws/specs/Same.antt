-- What is sorted has the same elements, each as often. Assumes nothing.
use Rattle.std.specs.Prelude.{Bool}
use mathlib.Core.List.{List, [], ◌∷◌, ◌++◌, append-nil}
use Rattle.laws.specs.Loops.{over}
use Rattle.laws.specs.Sort.{insert, sorted}
use Rattle.laws.specs.Cases.{by_bool}

module _ {A : Type 0} where
  -- one list is the other, its elements moved
  pub data Moved : List A → List A → Type 0 where
    empty : Moved [] []
    front : {x : A} {l m : List A} → Moved l m → Moved (x ∷ l) (x ∷ m)
    swap : {x y : A} {l : List A} → Moved (x ∷ y ∷ l) (y ∷ x ∷ l)
    then : {l m n : List A} → Moved l m → Moved m n → Moved l n

  same : (l : List A) → Moved l l
  same [] = empty
  same (x ∷ l) = front (same l)

  -- x further on is x in front
  to_front : (s l : List A) (x : A) → Moved (s ++ (x ∷ l)) (x ∷ (s ++ l))
  to_front [] l x = same (x ∷ l)
  to_front (y ∷ s) l x = then (front (to_front s l x)) swap

  more : {l m : List A} (r : List A) → Moved l m → Moved (l ++ r) (m ++ r)
  more r empty = same r
  more r (front p) = front (more r p)
  more r swap = swap
  more r (then p q) = then (more r p) (more r q)

module _ {A : Type 0} (before : A → A → Bool) where
  insert-moves : (x : A) (l : List A) → Moved (x ∷ l) (insert before x l)
  unfolding insert
  insert-moves x [] = same (x ∷ [])
  insert-moves x (y ∷ l) = by_bool (before x y) (λ t. rw t (same (x ∷ y ∷ l))) (λ t. rw t (then swap (front (insert-moves x l))))

  over-moves : (s l : List A) → Moved (s ++ l) (over (λ (s : List A) (x : A). insert before x s) s l)
  unfolding over
  over-moves s [] = rw append-nil (same s)
  over-moves s (x ∷ l) = then (to_front s l x) (then (more l (insert-moves x s)) (over-moves (insert before x s) l))

  pub sorted-moves : (l : List A) → Moved l (sorted before l)
  unfolding sorted
  sorted-moves l = over-moves [] l
