-- Columns that stand one after another in one list, by their sizes: the list cut, one column read, one stored, one more behind the others. Assumes nothing.
use Rattle.std.specs.Prelude.{◌≡◌, set}
use Rattle.std.proofs.Math.Path.{refl, sym, ap, ap₂}
use Rattle.std.proofs.Common.{drop-cons, ◌∙◌, not-suc-le-zero, le_of_suc-le-suc, arith, take-take, drop-drop, take-suc, take_at, drop_at, take-add}
use mathlib.Core.List.{List, [], ◌∷◌, ◌++◌, append_assoc, flat_map}
use Prim.Native.Nat.{ℕ, zero, suc, ◌+◌, ◌-◌, ◌≤◌, ◌<◌}
use Rattle.std.proofs.Math.Numerals.{add-one}
use Rattle.std.proofs.Math.ListN.{length, get_or, take, drop, length-drop}
use Rattle.std.proofs.Math.Seq.{length-take-le}
use Rattle.laws.specs.Lists.{drop-take}

module _ {A : Type 0} where
  -- the columns, the first as long as the first size, and so on
  unfoldable pub split : List ℕ → List A → List (List A)
  split [] l = []
  split (k ∷ ks) l = take k l ∷ split ks (drop k l)

unfoldable pub sum_all : List ℕ → ℕ
sum_all [] = 0
sum_all (k ∷ ks) = k + sum_all ks

pub sum_snoc : (ks : List ℕ) (k : ℕ) → sum_all (ks ++ (k ∷ [])) ≡ sum_all ks + k
unfolding sum_all
sum_snoc [] k = omega arith
sum_snoc (j ∷ ks) k = omega (arith, sum_snoc ks k)

pub sum_take : (ks : List ℕ) (i : ℕ) → sum_all (take i ks) ≤ sum_all ks
unfolding sum_all
sum_take [] zero = omega arith
sum_take [] (suc i) = omega arith
sum_take (k ∷ ks) zero = omega arith
sum_take (k ∷ ks) (suc i) = omega (arith, sum_take ks i)

-- one size more
pub sum_next : (ks : List ℕ) (i : ℕ) → i < length ks → sum_all (take (i + 1) ks) ≡ sum_all (take i ks) + get_or ks i 0
sum_next ks i h = rw (add-one, take-suc ks i 0 h) (sum_snoc (take i ks) (get_or ks i 0))

pub sum_fits : (ks : List ℕ) (i : ℕ) → i < length ks → sum_all (take i ks) + get_or ks i 0 ≤ sum_all ks
sum_fits ks i h = omega (arith, sum_next ks i h, sum_take ks (i + 1))

module _ {A : Type 0} where
  -- a column behind the others
  pub split_snoc : (ks : List ℕ) (k : ℕ) (l : List A) → split (ks ++ (k ∷ [])) l ≡ split ks l ++ (take k (drop (sum_all ks) l) ∷ [])
  unfolding split sum_all
  split_snoc [] k l = refl
  split_snoc (j ∷ ks) k l = ap (λ (r : List (List A)). take j l ∷ r) (split_snoc ks k (drop j l) ∙ ap (λ (r : List A). split ks (drop j l) ++ (take k r ∷ [])) (drop-drop (sum_all ks) j l))

  -- what lies behind the columns is none of them
  pub split-take : (ks : List ℕ) (m : ℕ) (l : List A) → sum_all ks ≤ m → split ks (take m l) ≡ split ks l
  unfolding split sum_all
  split-take [] m l h = refl
  split-take (k ∷ ks) m l h =
      ap₂ (λ (c : List A) (r : List (List A)). c ∷ r) (take-take k m l (omega arith))
      (ap (split ks) (drop-take k m l) ∙ split-take ks (m - k) (drop k l) (omega arith))

  -- from column i on: it, and the others
  pub split_step : (ks : List ℕ) (i a e : ℕ) (l : List A) → i < length ks → e ≡ a + get_or ks i 0 → split (drop i ks) (drop a l) ≡ take (e - a) (drop a l) ∷ split (drop (i + 1) ks) (drop e l)
  unfolding split
  split_step ks i a e l h q =
      let w : e - a ≡ get_or ks i 0 = omega (arith, q) in
      rw (drop-cons ks i 0 h, add-one, w, q) (ap (λ (r : List A). take (get_or ks i 0) (drop a l) ∷ split (drop (suc i) ks) r) (drop-drop (get_or ks i 0) a l))

  -- column i, and what is stored when another of its length takes its place
  pub split_at_column : (ks : List ℕ) (i : ℕ) (l : List A) → i < length ks → get_or (split ks l) i [] ≡ take (get_or ks i 0) (drop (sum_all (take i ks)) l)
  unfolding split sum_all
  split_at_column [] i l h = absurd (not-suc-le-zero h)
  split_at_column (k ∷ ks) zero l h = refl
  split_at_column (k ∷ ks) (suc i) l h = split_at_column ks i (drop k l) (le_of_suc-le-suc h) ∙ ap (take (get_or ks i 0)) (drop-drop (sum_all (take i ks)) k l)

  pub length-split : (ks : List ℕ) (l : List A) → length (split ks l) ≡ length ks
  unfolding split
  length-split [] l = refl
  length-split (k ∷ ks) l = ap suc (length-split ks (drop k l))

  -- another column of the same size in the place of column i
  pub split-set : (ks : List ℕ) (i : ℕ) (l c : List A) → i < length ks → length c ≡ get_or ks i 0 → sum_all ks ≤ length l
      → split ks (take (sum_all (take i ks)) l ++ (c ++ drop (get_or ks i 0) (drop (sum_all (take i ks)) l))) ≡ set (split ks l) i c
  unfolding split sum_all
  split-set [] i l c h e f = absurd (not-suc-le-zero h)
  split-set (k ∷ ks) zero l c h e f =
      ap₂ (λ (a : List A) (r : List (List A)). a ∷ r) (take_at c (drop k l) k e) (ap (split ks) (drop_at c (drop k l) k e))
  split-set (k ∷ ks) (suc i) l c h e f =
      let a : ℕ = sum_all (take i ks) in
      let rest : List A = c ++ drop (get_or ks i 0) (drop a (drop k l)) in
      let n : length (take k l) ≡ k = length-take-le k l (omega arith) in
      let w : take (k + a) l ++ (c ++ drop (get_or ks i 0) (drop (k + a) l)) ≡ take k l ++ (take a (drop k l) ++ rest) =
      ap₂ (λ (x y : List A). x ++ (c ++ drop (get_or ks i 0) y)) (take-add k a l) (sym (drop-drop a k l)) ∙ append_assoc (take k l) (take a (drop k l)) rest in
      ap (λ (x : List A). take k x ∷ split ks (drop k x)) w
      ∙ ap₂ (λ (x : List A) (r : List (List A)). x ∷ r) (take_at (take k l) (take a (drop k l) ++ rest) k n)
      (ap (split ks) (drop_at (take k l) (take a (drop k l) ++ rest) k n) ∙ split-set ks i (drop k l) c (le_of_suc-le-suc h) e (omega (arith, length-drop k l)))

  -- the columns joined are what is cut
  pub flat_split : (ks : List ℕ) (l : List A) → flat_map (λ (c : List A). c) (split ks l) ≡ take (sum_all ks) l
  unfolding split sum_all flat_map
  flat_split [] l = refl
  flat_split (k ∷ ks) l = ap (λ (r : List A). take k l ++ r) (flat_split ks (drop k l)) ∙ sym (take-add k (sum_all ks) l)
