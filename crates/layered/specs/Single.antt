-- Each column by itself: a state is there once at most, in no other column, and nothing else is. Assumes nothing.
use Rattle.std.specs.Prelude.{◌≡◌, List, [], ◌∷◌, ℕ, zero, suc, ◌≤◌, ◌<◌, get_or}
use Rattle.std.proofs.Common.{ap, arith}
use Rattle.laws.specs.Cases.{by_lt}
use Rattle.laws.specs.Counting.{how_many}
use Rattle.sheet.specs.declared.Ends.{Ends}
use Rattle.columns.specs.Columns.{concat, columns}
use Rattle.columns.specs.Elements.{times, times_join, concat-cons}
use Rattle.columns.specs.Once.{column_once, nothing_else}

times_column : (v : ℕ) (cs : List (List ℕ)) (l : ℕ) → times v (get_or cs l []) ≤ times v (concat cs)
unfolding how_many
times_column v [] zero = omega arith
times_column v [] (suc l) = omega arith
times_column v (c ∷ cs) zero = omega (arith, ap (times v) (concat-cons c cs), times_join v c (concat cs))
times_column v (c ∷ cs) (suc l) = omega (arith, times_column v cs l, ap (times v) (concat-cons c cs), times_join v c (concat cs))

two_columns : (v : ℕ) (cs : List (List ℕ)) (l r : ℕ) → l < r → 0 < times v (get_or cs l []) → 0 < times v (get_or cs r []) → 1 < times v (concat cs)
unfolding how_many
two_columns v [] zero r h p q = absurd (omega arith)
two_columns v [] (suc l) r h p q = absurd (omega arith)
two_columns v (c ∷ cs) l zero h p q = absurd (omega arith)
two_columns v (c ∷ cs) zero (suc r) h p q = omega (arith, times_column v cs r, ap (times v) (concat-cons c cs), times_join v c (concat cs))
two_columns v (c ∷ cs) (suc l) (suc r) h p q = omega (arith, two_columns v cs l r (omega arith) p q, ap (times v) (concat-cons c cs), times_join v c (concat cs))

module _ (n : ℕ) (arrows : List Ends) (start : ℕ) (s : start < n) where
  at_most_once : (v : ℕ) → times v (concat (columns n arrows start)) ≤ 1
  at_most_once v = by_lt v n (λ (h : v < n). omega (arith, column_once n arrows start v h)) (λ (h : n ≤ v). omega (arith, nothing_else n arrows start s v h))

  -- once at most in a column
  pub column_single : (v l : ℕ) → times v (get_or (columns n arrows start) l []) ≤ 1
  column_single v l = omega (arith, times_column v (columns n arrows start) l, at_most_once v)

  -- in one column only
  pub one_column : (v l r : ℕ) → 0 < times v (get_or (columns n arrows start) l []) → 0 < times v (get_or (columns n arrows start) r []) → l ≡ r
  one_column v l r p q =
      by_lt l r
      (λ (h : l < r). absurd (omega (arith, at_most_once v, two_columns v (columns n arrows start) l r h p q)))
      (λ (h : r ≤ l). by_lt r l (λ (i : r < l). absurd (omega (arith, at_most_once v, two_columns v (columns n arrows start) r l i q p))) (λ (i : l ≤ r). omega arith))

  -- and only states
  pub column_in : (v l : ℕ) → 0 < times v (get_or (columns n arrows start) l []) → v < n
  column_in v l p =
      by_lt v n (λ (h : v < n). h)
      (λ (h : n ≤ v). absurd (omega (arith, p, times_column v (columns n arrows start) l, nothing_else n arrows start s v h)))
