-- The x of a state, by what arrows reach it: a gap for each arrow of the shortest way from the start; the states that no arrows reach stand one gap behind the others. Assumes nothing.
use Rattle.std.specs.Prelude.{◌≡◌, false, length, get_or, Float}
use Rattle.std.proofs.Math.Path.{refl, sym, ap}
use Rattle.std.proofs.Common.{◌∙◌, arith}
use Rattle.std.proofs.Math.Bool.{true}
use mathlib.Core.List.{List, [], ◌∷◌, ◌++◌}
use Prim.Native.Nat.{ℕ, zero, suc, ◌≤◌, ◌<◌}
use Rattle.std.proofs.Math.Nat.{zero-add}
use Rattle.std.proofs.Math.ListN.{get_or-append, get_or-eq_default}
use Rattle.std.proofs.lemmas.List.{get_or_at}
use Rattle.laws.specs.Cases.{by_bool, by_lt}
use Rattle.laws.specs.Counting.{table-length}
use Rattle.laws.specs.Bools.{clash}
use Rattle.laws.specs.Lists.{map_at}
use Rattle.laws.specs.Tables.{table_at}
use Rattle.float.specs.Constants.{f0}
use Rattle.float.specs.Ops.{◌⊗◌, of_nat}
use Rattle.sheet.specs.declared.Ends.{Ends}
use Rattle.columns.specs.Columns.{elem, reached, concat, state_numbers, unreached, last_column, columns}
use Rattle.columns.specs.Distance.{Walk, Distance, column_distance, distance_column, never-unreached}
use Rattle.layered.specs.Layered.{column_gap, column_of, layered_xs}

-- the first column that holds v
column_of_lem : (cs : List (List ℕ)) (k v : ℕ) → elem v (get_or cs k []) ≡ true → ((j : ℕ) → j < k → elem v (get_or cs j []) ≡ false) → column_of cs v ≡ k
unfolding column_of elem
column_of_lem [] zero v e f = absurd (clash e refl)
column_of_lem [] (suc k) v e f = absurd (clash e refl)
column_of_lem (c ∷ cs) zero v e f = rw e
column_of_lem (c ∷ cs) (suc k) v e f = rw (f 0 (omega arith)) (ap suc (column_of_lem cs k v e (λ j h. f (suc j) (omega arith))))

within : (cs : List (List ℕ)) (k v : ℕ) → elem v (get_or cs k []) ≡ true → k < length cs
unfolding elem
within cs k v e = by_lt k (length cs) (λ (h : k < length cs). h) (λ (h : length cs ≤ k). absurd (clash e (ap (elem v) (get_or-eq_default cs [] h))))

module _ (n start : ℕ) (arrows : List Ends) (h : start < n) where
  distance_one : (j k v : ℕ) → Distance n arrows start j v → Distance n arrows start k v → j ≡ k
  distance_one j k v p q = by_lt j k (λ (i : j < k). absurd (q.1 j i p.0)) (λ (i : k ≤ j). by_lt k j (λ (l : k < j). absurd (p.1 k l q.0)) (λ (l : j ≤ k). omega arith))

  front : (k : ℕ) → k < length (reached n arrows start) → get_or (columns n arrows start) k [] ≡ get_or (reached n arrows start) k []
  unfolding columns
  front k i = get_or-append (reached n arrows start) (last_column (unreached n (concat (reached n arrows start)))) [] k i

  not_there : (j v : ℕ) → (Distance n arrows start j v → ⊥) → elem v (get_or (reached n arrows start) j []) ≡ false
  not_there j v f = by_bool (elem v (get_or (reached n arrows start) j [])) (λ t. absurd (f (column_distance n arrows start j v t))) (λ t. t)

  -- a state at distance k is in column k
  pub reached_column : (k v : ℕ) → Distance n arrows start k v → column_of (columns n arrows start) v ≡ k
  reached_column k v d =
      let e : elem v (get_or (reached n arrows start) k []) ≡ true = distance_column n arrows start h k v d in
      let i : k < length (reached n arrows start) = within (reached n arrows start) k v e in
      column_of_lem (columns n arrows start) k v (ap (elem v) (front k i) ∙ e)
      (λ j l. ap (elem v) (front j (omega (arith, i))) ∙ not_there j v (λ p. not_same j k l (distance_one j k v p d)))
    where
      not_same : (j k : ℕ) → j < k → j ≡ k → ⊥
      not_same j k h e = omega arith

  last_is : (u : List ℕ) (v : ℕ) → elem v u ≡ true → last_column u ≡ u ∷ []
  unfolding elem
  last_is [] v e = absurd (clash e refl)
  last_is (x ∷ u) v e = refl

  -- a state that no arrows reach is in the column behind those that are reached
  pub unreached_column : (v : ℕ) → v < n → ((k : ℕ) → Walk n arrows start k v → ⊥) → column_of (columns n arrows start) v ≡ length (reached n arrows start)
  unfolding columns
  unreached_column v i f =
      let u : List ℕ = unreached n (concat (reached n arrows start)) in
      let e : elem v u ≡ true = never-unreached n arrows start v i f in
      column_of_lem (reached n arrows start ++ last_column u) (length (reached n arrows start)) v
      (ap (λ (l : List (List ℕ)). elem v (get_or (reached n arrows start ++ l) (length (reached n arrows start)) [])) (last_is u v e)
      ∙ ap (elem v) (get_or_at (reached n arrows start) u [] [] (length (reached n arrows start)) refl) ∙ e)
      (λ j l. ap (elem v) (get_or-append (reached n arrows start) (last_column u) [] j l) ∙ not_there j v (λ p. f j p.0))

  x_at : (w : Float) (v : ℕ) → v < n → get_or (layered_xs n start arrows w) v f0 ≡ of_nat (column_of (columns n arrows start) v) ⊗ column_gap w
  unfolding layered_xs
  x_at w v i =
      sym (map_at (λ (u : ℕ). of_nat (column_of (columns n arrows start) u) ⊗ column_gap w) (state_numbers n) v 0 f0 (omega (arith, table-length (λ (u : ℕ). u) 0 n)))
      ∙ ap (λ (u : ℕ). of_nat (column_of (columns n arrows start) u) ⊗ column_gap w) (table_at (λ (u : ℕ). u) 0 n v 0 i ∙ zero-add v)

  pub x_reached : (w : Float) (k v : ℕ) → v < n → Distance n arrows start k v → get_or (layered_xs n start arrows w) v f0 ≡ of_nat k ⊗ column_gap w
  x_reached w k v i d = x_at w v i ∙ ap (λ (l : ℕ). of_nat l ⊗ column_gap w) (reached_column k v d)

  pub x_unreached : (w : Float) (v : ℕ) → v < n → ((k : ℕ) → Walk n arrows start k v → ⊥) → get_or (layered_xs n start arrows w) v f0 ≡ of_nat (length (reached n arrows start)) ⊗ column_gap w
  x_unreached w v i f = x_at w v i ∙ ap (λ (l : ℕ). of_nat l ⊗ column_gap w) (unreached_column v i f)
