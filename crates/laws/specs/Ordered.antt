-- What is sorted is in order: no element stands ahead of the one before it. The test needs only never to hold both ways. Assumes nothing.
use Rattle.std.specs.Prelude.{◌≡◌, Bool, true, false}
use mathlib.Core.List.{List, [], ◌∷◌}
use Rattle.laws.specs.Loops.{over}
use Rattle.laws.specs.Sort.{insert, sorted}
use Rattle.laws.specs.Cases.{by_bool}

module _ {A : Type 0} (before : A → A → Bool) where
  pub data Ordered : List A → Type 0 where
    none : Ordered []
    one : {x : A} → Ordered (x ∷ [])
    more : {x y : A} {l : List A} → before y x ≡ false → Ordered (y ∷ l) → Ordered (x ∷ y ∷ l)

module _ {A : Type 0} (before : A → A → Bool) (one_way : (x y : A) → before x y ≡ true → before y x ≡ false) where
  after : (x y : A) (l : List A) → before x y ≡ false → Ordered before (y ∷ l) → Ordered before (y ∷ insert before x l)
  unfolding insert
  after x y [] h one = more h one
  after x y (z ∷ l) h (more k o) =
      by_bool (before x z)
      (λ t. rw t (more h (more (one_way x z t) o)))
      (λ t. rw t (more k (after x z l t o)))

  pub insert-ordered : (x : A) (l : List A) → Ordered before l → Ordered before (insert before x l)
  unfolding insert
  insert-ordered x [] o = one
  insert-ordered x (y ∷ l) o =
      by_bool (before x y)
      (λ t. rw t (more (one_way x y t) o))
      (λ t. rw t (after x y l t o))

  over-ordered : (s l : List A) → Ordered before s → Ordered before (over (λ (s : List A) (x : A). insert before x s) s l)
  unfolding over
  over-ordered s [] o = o
  over-ordered s (x ∷ l) o = over-ordered (insert before x s) l (insert-ordered x s o)

  pub sorted-ordered : (l : List A) → Ordered before (sorted before l)
  unfolding sorted
  sorted-ordered l = over-ordered [] l none
