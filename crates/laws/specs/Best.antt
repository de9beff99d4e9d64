-- The first of some places that no other undercuts, and a search that stops early and finds the same.
-- A place is its number in the list, 0 and on; `cost j` is the full cost of place j. Assumes nothing.
use Rattle.std.specs.Prelude.{◌≡◌, refl, cond, List, [], ◌∷◌, ltb, leb, eqb}
use Rattle.std.proofs.Math.Path.{sym, ap}
use Rattle.std.proofs.Common.{◌∙◌, le_refl, le_trans, lt_of_le_of_lt, add-zero, add-suc, suc-add, eq-zero-or-pos, one-add}
use Rattle.std.proofs.Math.Logic.{⊎_elim}
use Prim.Native.Nat.{ℕ, zero, suc, ◌+◌, ◌≤◌, ◌<◌, zero-le}
use native.Mathlib.Omega.{arith}
use borrow.Author.Tests.{lt-ltb, le-ltb, ne_eqb, le-leb, lt-leb}
use Rattle.laws.specs.Cases.{by_lt}

-- ---- the plain search

-- of the first n places, the first that none of them undercuts
unfoldable pub best : (ℕ → ℕ) → ℕ → ℕ
best cost zero = zero
best cost (suc n) = let b = best cost n in cond (ltb (cost n) (cost b)) n b

-- what it is to be that place: it is one of the n, none costs less, and each one before it costs more
pub record FirstLeast (cost : ℕ → ℕ) (n i : ℕ) : Type 0 where
  pub inside : i < n
  pub least : (j : ℕ) → j < n → cost i ≤ cost j
  pub first : (j : ℕ) → j < i → cost i < cost j

module _ (cost : ℕ → ℕ) where
  -- one place more
  pub best-new : (n : ℕ) → cost n < cost (best cost n) → best cost (suc n) ≡ n
  unfolding best
  best-new n h = rw (lt-ltb _ _ h)

  pub best_old : (n : ℕ) → cost (best cost n) ≤ cost n → best cost (suc n) ≡ best cost n
  unfolding best
  best_old n h = rw (le-ltb _ _ h)

  pub best_one : best cost 1 ≡ 0
  unfolding best
  best_one = rw (le-ltb (cost 0) (cost 0) (le_refl (cost 0)))

  -- a place of cost 0 stays the best
  best-zero : (n k : ℕ) → cost (best cost n) ≡ 0 → best cost (n + k) ≡ best cost n
  best-zero n zero e = ap (best cost) (add-zero n)
  best-zero n (suc k) e =
      let r : best cost (n + k) ≡ best cost n = best-zero n k e in
      ap (best cost) (add-suc n k) ∙ best_old (n + k) (rw (r, e) zero-le) ∙ r

-- ---- the search that stops early

-- `cut l j` is the cost of place j, counted only until it reaches the limit l: exact below l, and otherwise some number from l on
pub record Cuts (cost : ℕ → ℕ) (cut : ℕ → ℕ → ℕ) : Type 0 where
  pub exact : (l j : ℕ) → cost j < l → cut l j ≡ cost j
  pub above : (l j : ℕ) → l ≤ cost j → l ≤ cut l j

-- k places are left, the next is j; l is the limit, the best cost so far, and b its place. A place of cost 0 ends the search.
unfoldable pub search_from : (ℕ → ℕ → ℕ) → ℕ → ℕ → ℕ → ℕ → ℕ
search_from cut zero j l b = b
search_from cut (suc k) j l b =
    let c = cut l j in
    let l' = cond (ltb c l) c l in
    let b' = cond (ltb c l) j b in
    let rest = search_from cut k (suc j) l' b' in
    cond (eqb c 0) b' rest

module _ (cost : ℕ → ℕ) (cut : ℕ → ℕ → ℕ) (cuts : Cuts cost cut) where
  -- one step at which place j undercuts the limit, and one at which it does not
  turn_new : (k j l b : ℕ) → cost j < l → (cost j ≡ 0 → ⊥) → search_from cut (suc k) j l b ≡ search_from cut k (suc j) (cost j) j
  unfolding search_from
  turn_new k j l b h z = rw (cuts.exact l j h, ne_eqb _ _ z, lt-ltb _ _ h)

  turn_end : (k j l b : ℕ) → cost j < l → cost j ≡ 0 → search_from cut (suc k) j l b ≡ j
  unfolding search_from
  turn_end k j l b h z = rw (cuts.exact l j h, lt-ltb _ _ h, z)

  turn_old : (k j l b : ℕ) → l ≤ cost j → 0 < l → search_from cut (suc k) j l b ≡ search_from cut k (suc j) l b
  unfolding search_from
  turn_old k j l b h z =
      let a : l ≤ cut l j = cuts.above l j h in
      let n : cut l j ≡ 0 → ⊥ = λ e. omega arith in
      rw (le-ltb _ _ a, ne_eqb _ _ n)

  -- from a best place so far that costs something, the search finds the best of all
  search_finds : (k j : ℕ) → 0 < cost (best cost j) → search_from cut k j (cost (best cost j)) (best cost j) ≡ best cost (j + k)
  search_finds zero j p = unfold search_from in (sym (ap (best cost) (add-zero j)))
  search_finds (suc k) j p =
      let more : best cost (suc j + k) ≡ best cost (j + suc k) = ap (best cost) (suc-add j k ∙ sym (add-suc j k)) in
      by_lt (cost j) (cost (best cost j))
      (λ h.
      let e : best cost (suc j) ≡ j = best-new cost j h in
      ⊎_elim
      (λ (z : cost j ≡ 0). turn_end k j (cost (best cost j)) (best cost j) h z ∙ sym e ∙ sym (best-zero cost (suc j) k (ap cost e ∙ z)) ∙ more)
      (λ (z : 0 < cost j). turn_new k j (cost (best cost j)) (best cost j) h (λ x. omega arith) ∙ ap (λ (b : ℕ). search_from cut k (suc j) (cost b) b) (sym e) ∙ search_finds k (suc j) (rw e z) ∙ more)
      (eq-zero-or-pos (cost j)))
      (λ h.
      let e : best cost (suc j) ≡ best cost j = best_old cost j h in
      turn_old k j (cost (best cost j)) (best cost j) h p ∙ ap (λ (b : ℕ). search_from cut k (suc j) (cost b) b) (sym e) ∙ search_finds k (suc j) (rw e p) ∙ more)

  -- (3) With a first limit above the cost of the first place, the early search takes the place that the plain one takes.
  pub early_is_best : (n m : ℕ) → cost 0 < m → search_from cut (suc n) 0 m 0 ≡ best cost (suc n)
  early_is_best n m h =
      let e : best cost 1 ≡ 0 = best_one cost in
      let more : best cost (1 + n) ≡ best cost (suc n) = ap (best cost) (one-add n) in
      ⊎_elim
      (λ (z : cost 0 ≡ 0). turn_end n 0 m 0 h z ∙ sym e ∙ sym (best-zero cost 1 n (ap cost e ∙ z)) ∙ more)
      (λ (z : 0 < cost 0). turn_new n 0 m 0 h (λ x. omega arith) ∙ ap (λ (b : ℕ). search_from cut n 1 (cost b) b) (sym e) ∙ search_finds n 1 (rw e z) ∙ more)
      (eq-zero-or-pos (cost 0))

-- ---- a sum that stops at a limit

-- a and all of a list
unfoldable pub total_from : ℕ → List ℕ → ℕ
total_from a [] = a
total_from a (x ∷ xs) = total_from (a + x) xs

-- the same, but before each item it stops where the sum has reached l
unfoldable pub cut_total : ℕ → ℕ → List ℕ → ℕ
cut_total l a [] = a
cut_total l a (x ∷ xs) = let rest = cut_total l (a + x) xs in cond (leb l a) a rest

total_from_lem : (a : ℕ) (xs : List ℕ) → a ≤ total_from a xs
unfolding total_from
total_from_lem a [] = le_refl a
total_from_lem a (x ∷ xs) = le_trans (omega arith) (total_from_lem (a + x) xs)

pub cut_total_exact : (l a : ℕ) (xs : List ℕ) → total_from a xs < l → cut_total l a xs ≡ total_from a xs
unfolding total_from cut_total
cut_total_exact l a [] h = refl
cut_total_exact l a (x ∷ xs) h =
    let k : a < l = lt_of_le_of_lt (le_trans (omega arith) (total_from_lem (a + x) xs)) h in
    rw (lt-leb _ _ k) (cut_total_exact l (a + x) xs h)

pub cut_total_above : (l a : ℕ) (xs : List ℕ) → l ≤ total_from a xs → l ≤ cut_total l a xs
unfolding total_from cut_total
cut_total_above l a [] h = h
cut_total_above l a (x ∷ xs) h = by_lt a l (λ (k : a < l). rw (lt-leb _ _ k) (cut_total_above l (a + x) xs h)) (λ (k : l ≤ a). rw (le-leb _ _ k) k)

-- A cost that is such a sum, over items that depend on the place, is cut as the search wants it.
pub cuts_of : (base : ℕ → ℕ) (items : ℕ → List ℕ) → Cuts (λ j. total_from (base j) (items j)) (λ l j. cut_total l (base j) (items j))
cuts_of base items = record { exact = λ l j h. cut_total_exact l (base j) (items j) h; above = λ l j h. cut_total_above l (base j) (items j) h }
