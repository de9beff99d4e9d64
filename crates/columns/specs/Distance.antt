-- The columns that are reached are the breadth-first distances: column k has exactly the states that k arrows reach from the start and no fewer do; the states that
-- no arrows reach are in the last column. Assumes nothing.
use Rattle.std.specs.Prelude.{◌≡◌, Bool, cond, ◌||◌, ◌⊎◌, length, get_or, drop}
use Rattle.std.proofs.Math.Path.{refl, ap, subst}
use Rattle.std.proofs.Common.{sym, ◌∙◌, inl, eq-eqb, eqb-true, length-append}
use Rattle.std.proofs.Math.Bool.{true, false}
use mathlib.Core.List.{List, [], ◌∷◌, ◌++◌, flat_map, append-nil}
use Rattle.std.proofs.Math.Logic.{inr, ⊎_elim}
use Prim.Native.Nat.{ℕ, zero, suc, ◌+◌, ◌-◌, ◌≤◌, ◌<◌}
use Rattle.std.proofs.Math.Nat.{not-suc-le-zero}
use native.Mathlib.Omega.{arith}
use Rattle.std.proofs.lemmas.Bool.{eqb-false}
use Rattle.std.proofs.Math.Dec.{eqb}
use Rattle.laws.specs.Cases.{by_bool, by_lt}
use Rattle.laws.specs.Filter.{filter_by}
use Rattle.laws.specs.Bools.{or-first, or-second, or_cases, clash, not-holds}
use Rattle.sheet.specs.declared.Ends.{Ends}
use Rattle.columns.specs.Columns.{successors, elem, explore, columns_after, reached, concat, state_numbers, is_new, unreached}
use Rattle.columns.specs.Found.{Fair, explore_fair, fair_start, after_none, after_more, after-end}
use Rattle.columns.specs.Once.{is_new_lem}
use Rattle.columns.specs.Elements.{times, elem_join, times_join, times_some, elem-explore, elem_flat, flat_elem, single_explore, single_one, found-new, concat-cons, concat_none, columns-more}

-- what a filter keeps passes the test
kept : (p : ℕ → Bool) (v : ℕ) (l : List ℕ) → elem v (filter_by p l) ≡ true → p v ≡ true
unfolding filter_by elem
kept p v [] e = absurd (clash e refl)
kept p v (x ∷ l) e =
    by_bool (p x)
    (λ t. ⊎_elim (λ (h : eqb x v ≡ true). ap p (sym (eqb-true x v h)) ∙ t) (λ (h : elem v (filter_by p l) ≡ true). kept p v l h)
    (or_cases (eqb x v) (elem v (filter_by p l)) (sym (ap (λ (b : Bool). elem v (cond b (x ∷ filter_by p l) (filter_by p l))) t) ∙ e)))
    (λ t. kept p v l (sym (ap (λ (b : Bool). elem v (cond b (x ∷ filter_by p l) (filter_by p l))) t) ∙ e))

module _ (n : ℕ) (arrows : List Ends) (start : ℕ) where
  -- v is reached from the start by k arrows
  pub data Walk : ℕ → ℕ → Type 0 where
    here : Walk 0 start
    onward : {k v w : ℕ} → Walk k v → elem w (successors n arrows v) ≡ true → Walk (suc k) w

  -- by k and no fewer
  abbrev pub Distance : ℕ → ℕ → Type 0
  Distance k v = Walk k v × ((j : ℕ) → j < k → Walk j v → ⊥)

  -- by k at most
  abbrev Within : ℕ → ℕ → Type 0
  Within k v = (j : ℕ) × (j ≤ k) × Walk j v

  -- What is found after column k: the states within k, none twice; and column k has those at distance k.
  record Stage (k : ℕ) (found column : List ℕ) : Type 0 where
    single : (v : ℕ) → times v found ≤ 1
    sound : (v : ℕ) → elem v found ≡ true → Within k v
    full : (j v : ℕ) → j ≤ k → Walk j v → elem v found ≡ true
    there : (v : ℕ) → elem v column ≡ true → Distance k v
    last : (v : ℕ) → Walk k v → ((j : ℕ) × (j < k) × Walk j v) ⊎ (elem v column ≡ true)

  first : Stage 0 (start ∷ []) (start ∷ [])
  unfolding elem
  first = record {
    single = single_one start;
    sound = λ v e. (0, omega arith, at v e);
    full = λ j v h w. zero-walk j v h w;
    there = λ v e. (at v e, λ j h w. not-suc-le-zero h);
    last = λ v w. inr (zero-walk 0 v (omega arith) w);
  }
    where
      at : (v : ℕ) → eqb start v || false ≡ true → Walk 0 v
      at v e = ⊎_elim (λ (h : eqb start v ≡ true). subst (Walk 0) (eqb-true start v h) here) (λ (h : false ≡ true). absurd (clash h refl)) (or_cases (eqb start v) false e)

      zero-walk : (j v : ℕ) → j ≤ 0 → Walk j v → eqb start v || false ≡ true
      zero-walk zero v h here = or-first (eqb start start) false (eq-eqb start start refl)
      zero-walk (suc j) v h w = absurd (not-suc-le-zero h)

  -- ---- one column more
  module _ (k : ℕ) (found column : List ℕ) (s : Stage k found column) where
    abbrev all : List ℕ
    all = explore n arrows found column

    abbrev new : List ℕ
    new = drop (length found) (explore n arrows found column)

    by_arrow : (v : ℕ) → elem v (flat_map (successors n arrows) column) ≡ true → Walk (suc k) v
    by_arrow v h = let r : (u : ℕ) × (elem u column ≡ true) × (elem v (successors n arrows u) ≡ true) = elem_flat (successors n arrows) v column h in onward (s.there r.0 r.1).0 r.2

    either : (v : ℕ) → elem v all ≡ true → (elem v found ≡ true) ⊎ (elem v (flat_map (successors n arrows) column) ≡ true)
    either v e = or_cases (elem v found) (elem v (flat_map (successors n arrows) column)) (sym (elem-explore v n arrows found column) ∙ e)

    old : (v : ℕ) → elem v found ≡ true → elem v all ≡ true
    old v e = elem-explore v n arrows found column ∙ or-first (elem v found) (elem v (flat_map (successors n arrows) column)) e

    parts : (v : ℕ) → elem v all ≡ elem v found || elem v new
    parts v = ap (elem v) (sym (found-new n arrows found column)) ∙ elem_join v found new

    -- what is new was not found
    fresh : (v : ℕ) → elem v new ≡ true → elem v found ≡ true → ⊥
    fresh v e f =
        omega (arith, single_explore n arrows found column s.single v, ap (times v) (found-new n arrows found column), times_join v found new, times_some v new e, times_some v found f)

    extend : (v : ℕ) → Walk (suc k) v → elem v all ≡ true
    extend v (onward {v = u} w e) =
        ⊎_elim
        (λ (r : (j : ℕ) × (j < k) × Walk j u). old v (s.full (suc r.0) v r.1 (onward r.2 e)))
        (λ (h : elem u column ≡ true). elem-explore v n arrows found column ∙ or-second (elem v found) (elem v (flat_map (successors n arrows) column)) (flat_elem (successors n arrows) v u column h e))
        (s.last u w)

    within_all : (j v : ℕ) → j ≤ suc k → Walk j v → elem v all ≡ true
    within_all j v h w =
        by_lt j (suc k)
        (λ (i : j < suc k). old v (s.full j v (omega arith) w))
        (λ (i : suc k ≤ j). let e : j ≡ suc k = omega arith in extend v (subst (λ (m : ℕ). Walk m v) e w))

    next : Stage (suc k) (explore n arrows found column) (drop (length found) (explore n arrows found column))
    next = record {
      single = single_explore n arrows found column s.single;
      sound = λ v e. ⊎_elim (λ (h : elem v found ≡ true). wider (s.sound v h)) (λ (h : elem v (flat_map (successors n arrows) column) ≡ true). (suc k, omega arith, by_arrow v h)) (either v e);
      full = within_all;
      there = λ v e. (arrived v e (either v (parts v ∙ or-second (elem v found) (elem v new) e)), λ j h w. fresh v e (s.full j v (omega arith) w));
      last = λ v w. ⊎_elim (λ (h : elem v found ≡ true). inl (before (s.sound v h))) (λ (h : elem v new ≡ true). inr h) (or_cases (elem v found) (elem v new) (sym (parts v) ∙ extend v w));
    }
      where
        wider : {v : ℕ} → ((j : ℕ) × (j ≤ k) × Walk j v) → (j : ℕ) × (j ≤ suc k) × Walk j v
        wider r = (r.0, omega (arith, r.1), r.2)

        before : {v : ℕ} → ((j : ℕ) × (j ≤ k) × Walk j v) → (j : ℕ) × (j < suc k) × Walk j v
        before r = (r.0, omega (arith, r.1), r.2)

        arrived : (v : ℕ) → elem v new ≡ true → (elem v found ≡ true) ⊎ (elem v (flat_map (successors n arrows) column) ≡ true) → Walk (suc k) v
        arrived v e c = ⊎_elim (λ (h : elem v found ≡ true). absurd (fresh v e h)) (λ (h : elem v (flat_map (successors n arrows) column) ≡ true). by_arrow v h) c

  -- ---- all columns

  nowhere : (v i : ℕ) → elem v (get_or [] i []) ≡ true → ⊥
  unfolding elem
  nowhere v zero e = clash e refl
  nowhere v (suc i) e = clash e refl

  -- by cases on what is newly found
  module _ (most : ℕ) (found column : List ℕ) where
    abbrev more : List ℕ
    more = drop (length found) (explore n arrows found column)

    none_left : eqb (length more) 0 ≡ true → columns_after n arrows (suc most) found column ≡ []
    none_left t = after_none n arrows found column (explore n arrows found column) refl (suc most) (eqb-true (length more) 0 t)

    some_left : eqb (length more) 0 ≡ false → columns_after n arrows (suc most) found column ≡ more ∷ columns_after n arrows most (explore n arrows found column) more
    some_left t =
        let m : suc most - 1 ≡ most = omega arith in
        after_more n arrows found column (explore n arrows found column) refl (suc most) (omega arith) (eqb-false (length more) 0 t)
        ∙ ap (λ (j : ℕ). more ∷ columns_after n arrows j (explore n arrows found column) more) m

  -- each has the states of its distance
  later : (most k : ℕ) (found column : List ℕ) → Stage k found column → (i v : ℕ) → elem v (get_or (columns_after n arrows most found column) i []) ≡ true → Distance (suc (k + i)) v
  later zero k found column s i v e = absurd (nowhere v i (ap (λ (cs : List (List ℕ)). elem v (get_or cs i [])) (sym (after-end n arrows 0 found column (omega arith))) ∙ e))
  later (suc most) k found column s zero v e =
      let z : suc k ≡ suc (k + 0) = omega arith in
      by_bool (eqb (length (more most found column)) 0)
      (λ t. absurd (nowhere v 0 (ap (λ (cs : List (List ℕ)). elem v (get_or cs 0 [])) (sym (none_left most found column t)) ∙ e)))
      (λ t. subst (λ (j : ℕ). Distance j v) z ((next k found column s).there v (ap (λ (cs : List (List ℕ)). elem v (get_or cs 0 [])) (sym (some_left most found column t)) ∙ e)))
  later (suc most) k found column s (suc i) v e =
      let z : suc (suc k + i) ≡ suc (k + suc i) = omega arith in
      by_bool (eqb (length (more most found column)) 0)
      (λ t. absurd (nowhere v (suc i) (ap (λ (cs : List (List ℕ)). elem v (get_or cs (suc i) [])) (sym (none_left most found column t)) ∙ e)))
      (λ t. subst (λ (j : ℕ). Distance j v) z
      (later most (suc k) (explore n arrows found column) (more most found column) (next k found column s) i v (ap (λ (cs : List (List ℕ)). elem v (get_or cs (suc i) [])) (sym (some_left most found column t)) ∙ e)))

  -- where nothing is new, nothing more is ever reached
  closed : (k : ℕ) (found column : List ℕ) → Stage k found column → length (drop (length found) (explore n arrows found column)) ≡ 0 → {j v : ℕ} → Walk j v → elem v found ≡ true
  closed k found column s z here = s.full 0 start (omega arith) here
  closed k found column s z (onward {v = u} {w = w} walk e) = step (s.sound u (closed k found column s z walk))
    where
      empty : (l : List ℕ) → length l ≡ 0 → l ≡ []
      empty [] h = refl
      empty (x ∷ l) h = absurd (omega arith)

      same : explore n arrows found column ≡ found
      same = sym (found-new n arrows found column) ∙ ap (λ (l : List ℕ). found ++ l) (empty (drop (length found) (explore n arrows found column)) z) ∙ append-nil found

      step : ((i : ℕ) × (i ≤ k) × Walk i u) → elem w found ≡ true
      step r = ap (elem w) (sym same) ∙ (next k found column s).full (suc r.0) w (omega (arith, r.1)) (onward r.2 e)

  -- whatever is reached is in a column; n columns are enough
  complete : (most k : ℕ) (found column : List ℕ) → Stage k found column → Fair n found → n < length found + most → (j v : ℕ) → Walk j v → elem v (found ++ concat (columns_after n arrows most found column)) ≡ true
  complete zero k found column s f h j v w = absurd (omega (arith, f))
  complete (suc most) k found column s f h j v w =
      by_bool (eqb (length (more most found column)) 0)
      (λ t. elem_join v found (concat (columns_after n arrows (suc most) found column)) ∙ or-first (elem v found) (elem v (concat (columns_after n arrows (suc most) found column))) (closed k found column s (eqb-true (length (more most found column)) 0 t) w))
      (λ t.
      let d : length (more most found column) ≡ 0 → ⊥ = eqb-false (length (more most found column)) 0 t in
      let g : length (explore n arrows found column) ≡ length found + length (more most found column) = ap length (sym (found-new n arrows found column)) ∙ length-append found (more most found column) in
      ap (elem v) (columns-more n arrows most found column d)
      ∙ complete most (suc k) (explore n arrows found column) (more most found column) (next k found column s) (explore_fair n arrows found column f) (omega (arith, g, d, h)) j v w)

  -- ---- the theorem

  distance_one : (j k v : ℕ) → Distance j v → Distance k v → j ≡ k
  distance_one j k v p q = by_lt j k (λ (h : j < k). absurd (q.1 j h p.0)) (λ (h : k ≤ j). by_lt k j (λ (i : k < j). absurd (p.1 k i q.0)) (λ (i : j ≤ k). omega arith))

  some_column : (v : ℕ) (cs : List (List ℕ)) → elem v (concat cs) ≡ true → (k : ℕ) × (elem v (get_or cs k []) ≡ true)
  some_column v [] e = absurd (nowhere v 0 (ap (elem v) (sym concat_none) ∙ e))
  some_column v (c ∷ cs) e =
      ⊎_elim (λ (h : elem v c ≡ true). (0, h)) (λ (h : elem v (concat cs) ≡ true). further (some_column v cs h)) (or_cases (elem v c) (elem v (concat cs)) (sym (elem_join v c (concat cs)) ∙ ap (elem v) (sym (concat-cons c cs)) ∙ e))
    where
      further : ((k : ℕ) × (elem v (get_or cs k []) ≡ true)) → (k : ℕ) × (elem v (get_or (c ∷ cs) k []) ≡ true)
      further r = (suc r.0, r.1)

  -- a state of column k is at distance k
  pub column_distance : (k v : ℕ) → elem v (get_or (reached n arrows start) k []) ≡ true → Distance k v
  unfolding reached
  column_distance zero v e = first.there v e
  column_distance (suc k) v e = let z : suc (0 + k) ≡ suc k = omega arith in subst (λ (j : ℕ). Distance j v) z (later n 0 (start ∷ []) (start ∷ []) first k v e)

  -- what is reached is in one of the columns
  pub reached-all : start < n → (j v : ℕ) → Walk j v → elem v (concat (reached n arrows start)) ≡ true
  unfolding reached
  reached-all h j v w =
      ap (elem v) (concat-cons (start ∷ []) (columns_after n arrows n (start ∷ []) (start ∷ [])))
      ∙ complete n 0 (start ∷ []) (start ∷ []) first (fair_start n start h) (omega arith) j v w

  -- a state at distance k is in column k
  pub distance_column : start < n → (k v : ℕ) → Distance k v → elem v (get_or (reached n arrows start) k []) ≡ true
  distance_column h k v d =
      let r : (i : ℕ) × (elem v (get_or (reached n arrows start) i []) ≡ true) = some_column v (reached n arrows start) (reached-all h k v d.0) in
      subst (λ (j : ℕ). elem v (get_or (reached n arrows start) j []) ≡ true) (distance_one r.0 k v (column_distance r.0 v r.1) d) r.1

  -- no arrows reach a state of the last column
  pub unreached-never : start < n → (v : ℕ) → elem v (unreached n (concat (reached n arrows start))) ≡ true → (k : ℕ) → Walk k v → ⊥
  unfolding unreached
  unreached-never h v e k w = clash (reached-all h k v w) (not-holds (elem v (concat (reached n arrows start))) (kept (is_new (concat (reached n arrows start))) v (state_numbers n) e))

  -- and a state that no arrows reach is there
  pub never-unreached : (v : ℕ) → v < n → ((k : ℕ) → Walk k v → ⊥) → elem v (unreached n (concat (reached n arrows start))) ≡ true
  never-unreached v h f =
      by_bool (elem v (concat (reached n arrows start)))
      (λ t. let r : (i : ℕ) × (elem v (get_or (reached n arrows start) i []) ≡ true) = some_column v (reached n arrows start) t in absurd (f r.0 (column_distance r.0 v r.1).0))
      (λ t. is_new_lem n (concat (reached n arrows start)) v h t)
