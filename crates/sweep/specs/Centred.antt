-- A slot is a position relative to the centre of the column: after the sweeps, the state at place i of a column of k states has the slot i less the middle of 0 to k - 1. Assumes nothing.
use Rattle.std.specs.Prelude.{◌≡◌, Bool, cond, List, [], ◌∷◌, eqb, length, set, replicate, Float}
use Rattle.std.proofs.Math.Path.{refl, ap}
use Rattle.std.proofs.Common.{sym, subst, ◌∙◌, not-suc-le-zero, le_of_suc-le-suc, arith}
use Prim.Native.Nat.{ℕ, zero, suc, ◌+◌, ◌-◌, ◌≤◌, ◌<◌}
use Rattle.std.proofs.Math.Nat.{sub-zero}
use borrow.Author.Tests.{eq-eqb, eqb-true, eqb-false}
use Rattle.std.proofs.Math.ListN.{get_or, length-set, get_or-eq_default}
use Rattle.std.proofs.lemmas.List.{length-replicate}
use Rattle.std.proofs.Math.Seq.{get_or-set_same, get_or-set_other, set_out}
use Rattle.laws.specs.Cases.{by_bool, by_lt}
use Rattle.laws.specs.Counting.{how_many}
use Rattle.laws.specs.Loops.{steps_from, up, over, up_keeps, down_keeps}
use Rattle.laws.specs.Same.{Moved, empty, front, swap, then}
use Rattle.float.specs.Constants.{f0}
use Rattle.float.specs.Ops.{◌⊖◌, of_nat}
use Rattle.sheet.specs.declared.Ends.{Ends}
use Rattle.columns.specs.Elements.{times}
use Rattle.sweep.specs.Sweeps.{slot, middle_place, centre_column, ordered_column, Arranged, arranged, arrange, sweep_down, sweep_up, swept}
use Rattle.sweep.specs.Steps.{sweeps-keep}
use Rattle.sweep.specs.Sorted.{SameStates, column_same, arrange-same, moved_same}
use Rattle.sweep.specs.Lengths.{centre-length, over-length}

-- ---- stores, one a step
module _ (g : ℕ → ℕ) (h : ℕ → Float) (d : Float) where
  abbrev store : ℕ → List Float → List Float
  store i s = set s (g i) (h i)

  turns-length : (m a : ℕ) (s : List Float) → length (steps_from store m a s) ≡ length s
  unfolding steps_from
  turns-length zero a s = refl
  turns-length (suc m) a s = turns-length m (suc a) (store a s) ∙ length-set s (g a) (h a)

  turns-other : (m a : ℕ) (s : List Float) (v : ℕ) → ((j : ℕ) → a ≤ j → j < a + m → g j ≡ v → ⊥) → get_or (steps_from store m a s) v d ≡ get_or s v d
  unfolding steps_from
  turns-other zero a s v f = refl
  turns-other (suc m) a s v f =
      turns-other m (suc a) (store a s) v (λ j p q. f j (omega arith) (omega arith)) ∙ get_or-set_other s (g a) v (h a) d (λ e. f a (omega arith) (omega arith) (sym e))

  turns_at : (m a i : ℕ) (s : List Float) → a ≤ i → i < a + m → g i < length s → ((j : ℕ) → i < j → j < a + m → g j ≡ g i → ⊥) → get_or (steps_from store m a s) (g i) d ≡ h i
  unfolding steps_from
  turns_at zero a i s p q r f = absurd (omega arith)
  turns_at (suc m) a i s p q r f =
      by_bool (eqb a i)
      (λ t.
      let e : a ≡ i = eqb-true a i t in
      turns-other m (suc a) (store a s) (g i) (λ j x y. f j (omega (arith, e)) (omega arith))
      ∙ ap (λ (k : ℕ). get_or (store k s) (g i) d) e ∙ get_or-set_same s (g i) (h i) d r)
      (λ t.
      let e : a ≡ i → ⊥ = eqb-false a i t in
      turns_at m (suc a) i (store a s) (omega (arith, e)) (omega arith) (omega (arith, length-set s (g a) (h a))) (λ j x y. f j x (omega arith)))

-- ---- where a state stands
place_some : (l : List ℕ) (i v : ℕ) → i < length l → get_or l i 0 ≡ v → 0 < times v l
unfolding how_many
place_some [] i v h e = absurd (not-suc-le-zero h)
place_some (x ∷ l) zero v h e = rw (eq-eqb x v e) (omega arith)
place_some (x ∷ l) (suc i) v h e = omega (arith, place_some l i v (le_of_suc-le-suc h) e)

two_places : (l : List ℕ) (i j v : ℕ) → i < j → j < length l → get_or l i 0 ≡ v → get_or l j 0 ≡ v → 1 < times v l
unfolding how_many
two_places [] i j v p h e f = absurd (not-suc-le-zero h)
two_places (x ∷ l) i zero v p h e f = absurd (not-suc-le-zero p)
two_places (x ∷ l) zero (suc j) v p h e f = rw (eq-eqb x v e) (omega (arith, place_some l j v (le_of_suc-le-suc h) f))
two_places (x ∷ l) (suc i) (suc j) v p h e f = omega (arith, two_places l i j v (le_of_suc-le-suc p) (le_of_suc-le-suc h) e f)

number-moved : {A : Type 0} (p : A → Bool) {l m : List A} → Moved l m → how_many p l ≡ how_many p m
unfolding how_many
number-moved p empty = refl
number-moved p (front {x = x} q) = ap (λ (k : ℕ). cond (p x) 1 0 + k) (number-moved p q)
number-moved p (swap {x = x} {y = y} {l = l}) = omega arith
number-moved p (then q r) = number-moved p q ∙ number-moved p r

-- ---- one column centred
module _ (slots : List Float) (column : List ℕ) where
  centre_is : centre_column slots column ≡ steps_from (store (λ (i : ℕ). get_or column i 0) (λ (i : ℕ). of_nat i ⊖ middle_place (length column)) f0) (length column) 0 slots
  unfolding centre_column up
  centre_is = ap (λ (m : ℕ). steps_from (store (λ (i : ℕ). get_or column i 0) (λ (i : ℕ). of_nat i ⊖ middle_place (length column)) f0) m 0 slots) (sub-zero (length column))

  centre-other : (v : ℕ) → times v column ≡ 0 → slot (centre_column slots column) v ≡ slot slots v
  centre-other v z =
      ap (λ (s : List Float). slot s v) centre_is
      ∙ turns-other (λ (i : ℕ). get_or column i 0) (λ (i : ℕ). of_nat i ⊖ middle_place (length column)) f0 (length column) 0 slots v (λ j p q e. some j q e)
    where
      some : (j : ℕ) → j < 0 + length column → get_or column j 0 ≡ v → ⊥
      some j q e = omega (arith, z, place_some column j v (omega arith) e)

  centre-at : (i : ℕ) → i < length column → ((v : ℕ) → times v column ≤ 1) → get_or column i 0 < length slots → slot (centre_column slots column) (get_or column i 0) ≡ of_nat i ⊖ middle_place (length column)
  centre-at i h s r =
      ap (λ (l : List Float). slot l (get_or column i 0)) centre_is
      ∙ turns_at (λ (j : ℕ). get_or column j 0) (λ (j : ℕ). of_nat j ⊖ middle_place (length column)) f0 (length column) 0 i slots (omega arith) (omega arith) r (λ j p q e. twice j p q e)
    where
      twice : (j : ℕ) → i < j → j < 0 + length column → get_or column j 0 ≡ get_or column i 0 → ⊥
      twice j p q e = omega (arith, s (get_or column i 0), two_places column i j (get_or column i 0) p (omega arith) refl e)

-- ---- all columns centred, one after another

abbrev pub InPlace : List (List ℕ) → List Float → Type 0
InPlace cs slots = (l i : ℕ) → i < length (get_or cs l []) → slot slots (get_or (get_or cs l []) i 0) ≡ of_nat i ⊖ middle_place (length (get_or cs l []))

others : (cs : List (List ℕ)) (slots : List Float) (v : ℕ) → ((l : ℕ) → times v (get_or cs l []) ≡ 0) → slot (over centre_column slots cs) v ≡ slot slots v
unfolding over
others [] slots v f = refl
others (c ∷ cs) slots v f = others cs (centre_column slots c) v (λ l. f (suc l)) ∙ centre-other slots c v (f 0)

zero_or : (k : ℕ) → (0 < k → ⊥) → k ≡ 0
zero_or k f = by_lt 0 k (λ (h : 0 < k). absurd (f h)) (λ (h : k ≤ 0). omega arith)

all-centred : (cs : List (List ℕ)) (slots : List Float) → ((v l : ℕ) → times v (get_or cs l []) ≤ 1) → ((v l r : ℕ) → 0 < times v (get_or cs l []) → 0 < times v (get_or cs r []) → l ≡ r)
    → ((v l : ℕ) → 0 < times v (get_or cs l []) → v < length slots) → InPlace cs (over centre_column slots cs)
unfolding over
all-centred [] slots s d r zero i h = absurd (not-suc-le-zero h)
all-centred [] slots s d r (suc l) i h = absurd (not-suc-le-zero h)
all-centred (c ∷ cs) slots s d r zero i h =
    let v : ℕ = get_or c i 0 in
    let p : 0 < times v c = place_some c i v h refl in
    others cs (centre_column slots c) v (λ l. zero_or (times v (get_or cs l [])) (λ q. never l (d v 0 (suc l) p q))) ∙ centre-at slots c i h (λ w. s w 0) (r v 0 p)
  where
    never : (l : ℕ) → 0 ≡ suc l → ⊥
    never l e = omega arith
all-centred (c ∷ cs) slots s d r (suc l) i h =
    all-centred cs (centre_column slots c) (λ v k. s v (suc k)) (λ v k j p q. less k j (d v (suc k) (suc j) p q)) (λ v k p. subst (λ (m : ℕ). v < m) (sym (centre-length slots c)) (r v (suc k) p)) l i h
  where
    less : (k j : ℕ) → suc k ≡ suc j → k ≡ j
    less k j e = omega arith

-- ---- and kept so by the sweeps
module _ (n : ℕ) (arrows : List Ends) (columns : List (List ℕ)) (single : (v l : ℕ) → times v (get_or columns l []) ≤ 1)
    (apart : (v l r : ℕ) → 0 < times v (get_or columns l []) → 0 < times v (get_or columns r []) → l ≡ r) (inside : (v l : ℕ) → 0 < times v (get_or columns l []) → v < n)
  where
    abbrev Good : Arranged → Type 0
    Good s = SameStates n arrows columns s × InPlace s.columns s.slots × (length s.slots ≡ n)

    same-times : (s : Arranged) → SameStates n arrows columns s → (v l : ℕ) → times v (get_or columns l []) ≡ times v (get_or s.columns l [])
    same-times s h v l = number-moved (λ (w : ℕ). eqb w v) (h l)

    module _ (r k : ℕ) (s : Arranged) (g : Good s) where
      abbrev new : List ℕ
      new = ordered_column n arrows s.slots (get_or s.columns r []) (get_or s.columns k [])

      new-times : (v : ℕ) → times v new ≡ times v (get_or columns k [])
      new-times v = sym (same-times s g.0 v k ∙ number-moved (λ (w : ℕ). eqb w v) (column_same n arrows s.slots (get_or s.columns r []) (get_or s.columns k [])))

      -- the column that was put in order
      new-places : (i : ℕ) → i < length new → slot (centre_column s.slots new) (get_or new i 0) ≡ of_nat i ⊖ middle_place (length new)
      new-places i h =
          let v : ℕ = get_or new i 0 in
          let p : 0 < times v (get_or columns k []) = subst (λ (m : ℕ). 0 < m) (new-times v) (place_some new i v h refl) in
          centre-at s.slots new i h (λ w. subst (λ (m : ℕ). m ≤ 1) (sym (new-times w)) (single w k)) (subst (λ (m : ℕ). v < m) (sym g.2) (inside v k p))

      -- another one
      old_places : (l i : ℕ) → (l ≡ k → ⊥) → i < length (get_or s.columns l []) → slot (centre_column s.slots new) (get_or (get_or s.columns l []) i 0) ≡ of_nat i ⊖ middle_place (length (get_or s.columns l []))
      old_places l i d h =
          let v : ℕ = get_or (get_or s.columns l []) i 0 in
          let p : 0 < times v (get_or columns l []) = subst (λ (m : ℕ). 0 < m) (sym (same-times s g.0 v l)) (place_some (get_or s.columns l []) i v h refl) in
          centre-other s.slots new v (zero_or (times v new) (λ q. d (apart v l k p (subst (λ (m : ℕ). 0 < m) (new-times v) q)))) ∙ g.1 l i h

      places : InPlace (set s.columns k new) (centre_column s.slots new)
      places l i h =
          by_bool (eqb l k)
          (λ t.
          let e : l ≡ k = eqb-true l k t in
          by_lt k (length s.columns)
          (λ (j : k < length s.columns).
          let q : get_or (set s.columns k new) l [] ≡ new = ap (λ (m : ℕ). get_or (set s.columns k new) m []) e ∙ get_or-set_same s.columns k new [] j in
          subst (λ (c : List ℕ). slot (centre_column s.slots new) (get_or c i 0) ≡ of_nat i ⊖ middle_place (length c)) (sym q) (new-places i (subst (λ (c : List ℕ). i < length c) q h)))
          (λ (j : length s.columns ≤ k).
          let q : get_or (set s.columns k new) l [] ≡ [] = ap (λ (m : ℕ). get_or (set s.columns k new) m []) e ∙ ap (λ (cs : List (List ℕ)). get_or cs k []) (set_out s.columns k new j) ∙ get_or-eq_default s.columns [] j in
          absurd (not-suc-le-zero (subst (λ (c : List ℕ). i < length c) q h))))
          (λ t.
          let d : l ≡ k → ⊥ = eqb-false l k t in
          let q : get_or (set s.columns k new) l [] ≡ get_or s.columns l [] = get_or-set_other s.columns k l new [] d in
          subst (λ (c : List ℕ). slot (centre_column s.slots new) (get_or c i 0) ≡ of_nat i ⊖ middle_place (length c)) (sym q) (old_places l i d (subst (λ (c : List ℕ). i < length c) q h)))

      arrange_good : Good (arrange n arrows r k s)
      unfolding arrange
      arrange_good = (arrange-same n arrows columns r k s g.0, places, centre-length s.slots new ∙ g.2)

    down_good : (s : Arranged) → Good s → Good (sweep_down n arrows s)
    unfolding sweep_down
    down_good s h = up_keeps Good (λ (l : ℕ). arrange n arrows (l - 1) l) (λ l a. arrange_good (l - 1) l a) 1 (length s.columns) s h

    up_good : (s : Arranged) → Good s → Good (sweep_up n arrows s)
    unfolding sweep_up
    up_good s h = down_keeps Good (λ (l : ℕ). arrange n arrows l (l - 1)) (λ l a. arrange_good l (l - 1) a) (length s.columns - 1) s h

    begun_good : Good (arranged columns (over centre_column (replicate n f0) columns))
    begun_good =
        let k : length (replicate n f0) ≡ n = length-replicate n f0 in
        ((λ l. moved_same (get_or columns l [])), all-centred columns (replicate n f0) single apart (λ v l p. subst (λ (m : ℕ). v < m) (sym k) (inside v l p)), over-length columns (replicate n f0) ∙ k)

    swept_good : Good (swept n arrows columns)
    unfolding swept
    swept_good = sweeps-keep n arrows Good down_good up_good _ begun_good

    -- the slot of the state at place i of column l
    pub swept-centred : InPlace (swept n arrows columns).columns (swept n arrows columns).slots
    swept-centred = swept_good.1

    -- which is one of the n
    pub placed_in : (l i : ℕ) → i < length (get_or (swept n arrows columns).columns l []) → get_or (get_or (swept n arrows columns).columns l []) i 0 < n
    placed_in l i h =
        let v : ℕ = get_or (get_or (swept n arrows columns).columns l []) i 0 in
        inside v l (subst (λ (m : ℕ). 0 < m) (sym (same-times (swept n arrows columns) swept_good.0 v l)) (place_some (get_or (swept n arrows columns).columns l []) i v h refl))
