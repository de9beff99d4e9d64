-- Every state gets exactly one column: each of the states stands in the columns once, and nothing else does. Assumes nothing.
use Rattle.std.specs.Prelude.{◌≡◌, Bool, cond}
use Rattle.std.proofs.Math.Path.{refl, ap, subst}
use Rattle.std.proofs.Common.{sym, ◌∙◌}
use Rattle.std.proofs.Math.Bool.{true, false, not}
use mathlib.Core.List.{List, [], ◌∷◌, ◌++◌, map, flat_map, append-nil, append_assoc}
use Rattle.std.proofs.Math.Logic.{⊎_elim}
use Prim.Native.Nat.{ℕ, zero, suc, ◌+◌, ◌≤◌, ◌<◌}
use native.Mathlib.Omega.{arith}
use borrow.Author.Tests.{eqb-true, eqb-false}
use Rattle.std.proofs.Math.Dec.{eqb}
use Rattle.laws.specs.Cases.{by_bool}
use Rattle.laws.specs.Counting.{how_many}
use Rattle.laws.specs.Filter.{filter_by}
use Rattle.laws.specs.Flat.{table}
use Rattle.laws.specs.Bools.{or_cases, clash}
use Rattle.sheet.specs.declared.Ends.{Ends}
use Rattle.columns.specs.Columns.{leaves, successors, elem, columns_after, reached, is_new, unreached, concat, last_column, columns}
use Rattle.columns.specs.Found.{target_in}
use Rattle.columns.specs.Elements.{times, times_join, times_none, times_some, elem-explore, elem_flat, single_explore, single_one, concat-cons, concat_none, search_keeps}

-- ---- some of a run of numbers

module _ (p : ℕ → Bool) (v : ℕ) where
  none_of : p v ≡ false → (k m : ℕ) → times v (filter_by p (table (λ (w : ℕ). w) k m)) ≡ 0
  unfolding filter_by table how_many
  none_of t k zero = refl
  none_of t k (suc m) =
      by_bool (p k)
      (λ s. by_bool (eqb k v) (λ e. absurd (clash s (ap p (eqb-true k v e) ∙ t))) (λ e. rw (s, e) (omega (arith, none_of t (suc k) m))))
      (λ s. rw s (none_of t (suc k) m))

  none_before : (k m : ℕ) → v < k → times v (filter_by p (table (λ (w : ℕ). w) k m)) ≡ 0
  unfolding filter_by table how_many
  none_before k zero h = refl
  none_before k (suc m) h =
      by_bool (p k)
      (λ s. by_bool (eqb k v) (λ e. absurd (not_self k v (eqb-true k v e) h)) (λ e. rw (s, e) (omega (arith, none_before (suc k) m (omega arith)))))
      (λ s. rw s (none_before (suc k) m (omega arith)))
    where
      not_self : (k v : ℕ) → k ≡ v → v < k → ⊥
      not_self k v e h = omega arith

  none_after : (k m : ℕ) → k + m ≤ v → times v (filter_by p (table (λ (w : ℕ). w) k m)) ≡ 0
  unfolding filter_by table how_many
  none_after k zero h = refl
  none_after k (suc m) h =
      by_bool (p k)
      (λ s. by_bool (eqb k v) (λ e. absurd (not_self k v m (eqb-true k v e) h)) (λ e. rw (s, e) (omega (arith, none_after (suc k) m (omega arith)))))
      (λ s. rw s (none_after (suc k) m (omega arith)))
    where
      not_self : (k v m : ℕ) → k ≡ v → k + suc m ≤ v → ⊥
      not_self k v m e h = omega arith

  one_of : p v ≡ true → (k m : ℕ) → k ≤ v → v < k + m → times v (filter_by p (table (λ (w : ℕ). w) k m)) ≡ 1
  unfolding filter_by table how_many
  one_of t k zero h i = absurd (omega arith)
  one_of t k (suc m) h i =
      by_bool (eqb k v)
      (λ e.
      let q : k ≡ v = eqb-true k v e in
      rw (ap p q ∙ t, e) (omega (arith, none_before (suc k) m (omega (arith, q)))))
      (λ e.
      let d : k ≡ v → ⊥ = eqb-false k v e in
      let j : suc k ≤ v = omega (arith, d) in
      by_bool (p k) (λ s. rw (s, e) (omega (arith, one_of t (suc k) m j (omega arith)))) (λ s. rw s (one_of t (suc k) m j (omega arith))))

-- a state that is not found is among the unreached
pub is_new_lem : (n : ℕ) (found : List ℕ) (v : ℕ) → v < n → elem v found ≡ false → elem v (unreached n found) ≡ true
unfolding unreached
is_new_lem n found v h e =
    by_bool (elem v (filter_by (is_new found) (table (λ (w : ℕ). w) 0 n))) (λ t. t)
    (λ t. absurd (omega (arith, times_none v (filter_by (is_new found) (table (λ (w : ℕ). w) 0 n)) t, one_of (is_new found) v (ap not e) 0 n (omega arith) (omega arith))))

-- ---- the columns that are reached

module _ (n : ℕ) (arrows : List Ends) (start : ℕ) where
  -- no state is in them twice
  pub reached_single : (v : ℕ) → times v (concat (reached n arrows start)) ≤ 1
  unfolding reached
  reached_single v =
      subst (λ (l : List ℕ). times v l ≤ 1) (sym (concat-cons (start ∷ []) (columns_after n arrows n (start ∷ []) (start ∷ []))))
      (search_keeps n arrows (λ (l : List ℕ). (u : ℕ) → times u l ≤ 1) (single_explore n arrows) n (start ∷ []) (start ∷ []) (single_one start) v)

  successors_in : (l : List Ends) (u v : ℕ) → elem v (successors n l u) ≡ true → v < n
  unfolding successors filter_by elem
  successors_in [] u v e = absurd (clash e refl)
  successors_in (a ∷ l) u v e =
      by_bool (leaves n u a)
      (λ t. ⊎_elim (λ (h : eqb a.target v ≡ true). subst (λ (w : ℕ). w < n) (eqb-true a.target v h) (target_in n u a t)) (λ (h : elem v (map (λ (a : Ends). a.target) (filter_by (leaves n u) l)) ≡ true). successors_in l u v h)
      (or_cases (eqb a.target v) (elem v (map (λ (a : Ends). a.target) (filter_by (leaves n u) l))) (sym (ap (λ (b : Bool). elem v (map (λ (a : Ends). a.target) (cond b (a ∷ filter_by (leaves n u) l) (filter_by (leaves n u) l)))) t) ∙ e)))
      (λ t. successors_in l u v (sym (ap (λ (b : Bool). elem v (map (λ (a : Ends). a.target) (cond b (a ∷ filter_by (leaves n u) l) (filter_by (leaves n u) l)))) t) ∙ e))

  -- only states are in them
  pub reached_in : start < n → (v : ℕ) → elem v (concat (reached n arrows start)) ≡ true → v < n
  unfolding reached elem
  reached_in h v e =
      search_keeps n arrows (λ (l : List ℕ). (u : ℕ) → elem u l ≡ true → u < n)
      (λ found column s u t. ⊎_elim (s u) (λ (k : elem u (flat_map (successors n arrows) column) ≡ true). follow u column k (elem_flat (successors n arrows) u column k))
      (or_cases (elem u found) (elem u (flat_map (successors n arrows) column)) (sym (elem-explore u n arrows found column) ∙ t)))
      n (start ∷ []) (start ∷ []) (λ u t. ⊎_elim (λ (k : eqb start u ≡ true). subst (λ (w : ℕ). w < n) (eqb-true start u k) h) (λ (k : false ≡ true). absurd (clash k refl)) (or_cases (eqb start u) false t))
      v (ap (elem v) (sym (concat-cons (start ∷ []) (columns_after n arrows n (start ∷ []) (start ∷ [])))) ∙ e)
    where
      follow : (u : ℕ) (column : List ℕ) → elem u (flat_map (successors n arrows) column) ≡ true → ((w : ℕ) × (elem w column ≡ true) × (elem u (successors n arrows w) ≡ true)) → u < n
      follow u column k r = successors_in arrows r.0 u r.2

-- ---- all columns

concat_join : (cs ds : List (List ℕ)) → concat (cs ++ ds) ≡ concat cs ++ concat ds
unfolding concat flat_map
concat_join [] ds = refl
concat_join (c ∷ cs) ds = ap (λ (l : List ℕ). c ++ l) (concat_join cs ds) ∙ sym (append_assoc c (concat cs) (concat ds))

concat-last : (u : List ℕ) → concat (last_column u) ≡ u
concat-last [] = concat_none
concat-last (v ∷ u) = concat-cons (v ∷ u) [] ∙ ap (λ (l : List ℕ). v ∷ u ++ l) concat_none ∙ append-nil (v ∷ u)

module _ (n : ℕ) (arrows : List Ends) (start : ℕ) where
  all-states : concat (columns n arrows start) ≡ concat (reached n arrows start) ++ unreached n (concat (reached n arrows start))
  unfolding columns
  all-states =
      concat_join (reached n arrows start) (last_column (unreached n (concat (reached n arrows start))))
      ∙ ap (λ (l : List ℕ). concat (reached n arrows start) ++ l) (concat-last (unreached n (concat (reached n arrows start))))

  times-all : (v : ℕ) → times v (concat (columns n arrows start)) ≡ times v (concat (reached n arrows start)) + times v (unreached n (concat (reached n arrows start)))
  times-all v = ap (times v) all-states ∙ times_join v (concat (reached n arrows start)) (unreached n (concat (reached n arrows start)))

  -- each of the states stands in the columns exactly once
  pub column_once : (v : ℕ) → v < n → times v (concat (columns n arrows start)) ≡ 1
  unfolding unreached
  column_once v h =
      let f : List ℕ = concat (reached n arrows start) in
      by_bool (elem v f)
      (λ t. omega (arith, times-all v, reached_single n arrows start v, times_some v f t, none_of (is_new f) v (ap not t) 0 n))
      (λ t. omega (arith, times-all v, times_none v f t, one_of (is_new f) v (ap not t) 0 n (omega arith) (omega arith)))

  -- and nothing else does
  pub nothing_else : start < n → (v : ℕ) → n ≤ v → times v (concat (columns n arrows start)) ≡ 0
  unfolding unreached
  nothing_else s v h =
      let f : List ℕ = concat (reached n arrows start) in
      by_bool (elem v f)
      (λ t. absurd (omega (arith, reached_in n arrows start s v t)))
      (λ t. omega (arith, times-all v, times_none v f t, none_after (is_new f) v 0 n (omega arith)))
