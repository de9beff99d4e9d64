-- The elements of a list that pass a test, in their order. Assumes nothing.
use Rattle.std.specs.Prelude.{◌≡◌, Bool, true, false, cond, ◌≤◌}
use Rattle.std.proofs.Math.Path.{refl}
use Rattle.std.proofs.Common.{ap}
use mathlib.Core.List.{List, [], ◌∷◌, ◌++◌}
use native.Mathlib.Omega.{arith}
use Rattle.std.proofs.Math.ListN.{length}
use Rattle.laws.specs.Cases.{by_bool}

module _ {A : Type 0} (p : A → Bool) where
  unfoldable pub filter_by : List A → List A
  filter_by [] = []
  filter_by (x ∷ l) = let rest = filter_by l in cond (p x) (x ∷ rest) rest

  pub filter_yes : (x : A) (l : List A) → p x ≡ true → filter_by (x ∷ l) ≡ x ∷ filter_by l
  unfolding filter_by
  filter_yes x l t = rw t

  pub filter_no : (x : A) (l : List A) → p x ≡ false → filter_by (x ∷ l) ≡ filter_by l
  unfolding filter_by
  filter_no x l t = rw t

  pub filter_join : (l m : List A) → filter_by (l ++ m) ≡ filter_by l ++ filter_by m
  unfolding filter_by
  filter_join [] m = refl
  filter_join (x ∷ l) m = by_bool (p x) (λ t. rw t (ap (λ (r : List A). x ∷ r) (filter_join l m))) (λ t. rw t (filter_join l m))

  pub filter_length : (l : List A) → length (filter_by l) ≤ length l
  filter_length [] = unfold filter_by in omega arith
  filter_length (x ∷ l) =
      let rest : length (filter_by l) ≤ length l = filter_length l in
      by_bool (p x) (λ t. rw (filter_yes x l t) (omega arith)) (λ t. rw (filter_no x l t) (omega arith))
