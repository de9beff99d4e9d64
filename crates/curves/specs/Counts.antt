-- How many things pass among the first of a list. Assumes nothing.
use Rattle.std.specs.Prelude.{◌≡◌, Bool, List, [], ◌∷◌, ◌++◌, ℕ, ◌+◌, ◌≤◌, ◌<◌, length, get_or, take, drop}
use Rattle.std.proofs.Common.{ap, ◌∙◌, arith, add-one, take-suc, take-append-drop}
use Rattle.laws.specs.Counting.{how_many, worth, how_many_join}

module _ {A : Type 0} (p : A → Bool) (l : List A) where
  one_more : (x : A) (m : List A) → how_many p (m ++ (x ∷ [])) ≡ how_many p m + worth p 1 x
  unfolding how_many
  one_more x m = omega (arith, how_many_join p m (x ∷ []))

  pub how_many_next : (i : ℕ) (d : A) → i < length l → how_many p (take (i + 1) l) ≡ how_many p (take i l) + worth p 1 (get_or l i d)
  how_many_next i d h = ap (how_many p) (rw add-one (take-suc l i d h)) ∙ one_more (get_or l i d) (take i l)

  pub how_many_first : (k : ℕ) → how_many p (take k l) ≤ how_many p l
  how_many_first k = omega (arith, how_many_join p (take k l) (drop k l), ap (how_many p) (take-append-drop k l))
