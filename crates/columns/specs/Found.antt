-- The states found so far: none twice, so that those found and those not found are all; a search only adds to them. Arrow by arrow, as the code goes. Assumes nothing.
use Rattle.std.specs.Prelude.{◌≡◌, Bool, true, false, cond, not, ◌&&◌, ◌||◌, ltb, eqb, length, take, drop}
use Rattle.std.proofs.Math.Path.{refl, sym}
use Rattle.std.proofs.Common.{ap, subst, ◌∙◌, not-suc-le-zero, length-append}
use mathlib.Core.List.{List, [], ◌∷◌, ◌++◌, flat_map, append-nil, append_assoc}
use Prim.Native.Nat.{ℕ, zero, suc, ◌+◌, ◌-◌, ◌≤◌, ◌<◌}
use native.Mathlib.Omega.{arith}
use borrow.Author.Tests.{eq-eqb, ne_eqb, eqb-true, eqb-false, ltb-true}
use Rattle.std.proofs.lemmas.List.{take-append-le}
use Rattle.laws.specs.Cases.{by_bool}
use Rattle.laws.specs.Filter.{filter_by, filter_yes, filter_no}
use Rattle.laws.specs.Flat.{table}
use Rattle.laws.specs.Loops.{over, over_join, less_one}
use Rattle.laws.specs.Split.{split, sum_all}
use Rattle.laws.specs.Bools.{and_first, and_second, or-second, or_assoc, or_false}
use Rattle.sheet.specs.declared.Ends.{Ends}
use Rattle.columns.specs.Columns.{counts, leaves, successors, elem, discover, explore, columns_after, reached, is_new, unreached}

-- those found and those not found are as many as there are states
abbrev pub Fair : ℕ → List ℕ → Type 0
Fair n found = length found + length (unreached n found) ≡ n

-- what is found when one arrow is followed from v
unfoldable pub follow : ℕ → ℕ → List ℕ → Ends → List ℕ
follow n v found a = let more = discover found a.target in cond (leaves n v a) more found

-- the columns of these sizes, one after another in the order, are all that are reached
abbrev pub Reached : ℕ → List Ends → ℕ → List ℕ → List ℕ → Type 0
Reached n arrows start order sizes =
    Fair n order × (length sizes ≤ length order) × (sum_all sizes ≡ length order) × (split sizes order ≡ reached n arrows start)

-- ---- one state more

pub elem_snoc : (w x : ℕ) (l : List ℕ) → elem w (l ++ (x ∷ [])) ≡ elem w l || eqb x w
unfolding elem
elem_snoc w x [] = or_false (eqb x w)
elem_snoc w x (y ∷ l) = ap (λ (b : Bool). eqb y w || b) (elem_snoc w x l) ∙ sym (or_assoc (eqb y w) (elem w l) (eqb x w))

module _ (found : List ℕ) (w : ℕ) where
  other-new : (v : ℕ) → (w ≡ v → ⊥) → is_new (found ++ (w ∷ [])) v ≡ is_new found v
  other-new v d = ap not (elem_snoc v w found ∙ ap (λ (b : Bool). elem v found || b) (ne_eqb w v d) ∙ or_false (elem v found))

  not_new : is_new (found ++ (w ∷ [])) w ≡ false
  not_new = ap not (elem_snoc w w found ∙ ap (λ (b : Bool). elem w found || b) (eq-eqb w w refl) ∙ or-second (elem w found) true refl)

  above : (k m : ℕ) → w < k → filter_by (is_new (found ++ (w ∷ []))) (table (λ (v : ℕ). v) k m) ≡ filter_by (is_new found) (table (λ (v : ℕ). v) k m)
  unfolding table filter_by
  above k zero h = refl
  above k (suc m) h = rw (other-new k (λ e. not_self k (subst (λ (j : ℕ). j < k) e h)), above (suc k) m (omega arith))
    where
      not_self : (k : ℕ) → k < k → ⊥
      not_self k h = omega arith

  one_less : is_new found w ≡ true → (k m : ℕ) → k ≤ w → w < k + m
      → length (filter_by (is_new found) (table (λ (v : ℕ). v) k m)) ≡ suc (length (filter_by (is_new (found ++ (w ∷ []))) (table (λ (v : ℕ). v) k m)))
  unfolding table filter_by
  one_less t k zero h i = absurd (omega arith)
  one_less t k (suc m) h i =
      by_bool (eqb w k)
      (λ e.
      let q : w ≡ k = eqb-true w k e in
      rw (← q, t, not_new, above (suc w) m (omega arith)))
      (λ e.
      let d : w ≡ k → ⊥ = eqb-false w k e in
      rw (other-new k d)
      (by_bool (is_new found k) (λ s. rw s (ap suc (one_less t (suc k) m (omega arith) (omega arith)))) (λ s. rw s (one_less t (suc k) m (omega arith) (omega arith)))))

-- ---- none is found twice

pub fair_room : (n : ℕ) (found : List ℕ) (w : ℕ) → Fair n found → w < n → elem w found ≡ false → length found < n
unfolding unreached
fair_room n found w f h e = omega (arith, f, one_less found w (ap not e) 0 n (omega arith) (omega arith))

fair_more : (n : ℕ) (found : List ℕ) (w : ℕ) → Fair n found → w < n → elem w found ≡ false → Fair n (found ++ (w ∷ []))
unfolding unreached
fair_more n found w f h e = omega (arith, f, length-append found (w ∷ []), one_less found w (ap not e) 0 n (omega arith) (omega arith))

pub discover_old : (found : List ℕ) (w : ℕ) → elem w found ≡ true → discover found w ≡ found
unfolding discover
discover_old found w e = rw e

pub discover_new : (found : List ℕ) (w : ℕ) → elem w found ≡ false → discover found w ≡ found ++ (w ∷ [])
unfolding discover
discover_new found w e = rw e

pub discover_fair : (n : ℕ) (found : List ℕ) (w : ℕ) → Fair n found → w < n → Fair n (discover found w)
discover_fair n found w f h =
    by_bool (elem w found) (λ e. rw (discover_old found w e) f) (λ e. rw (discover_new found w e) (fair_more n found w f h e))

all_new : (k m : ℕ) → length (filter_by (is_new []) (table (λ (v : ℕ). v) k m)) ≡ m
unfolding table filter_by elem
all_new k zero = refl
all_new k (suc m) = ap suc (all_new (suc k) m)

pub fair_start : (n start : ℕ) → start < n → Fair n (start ∷ [])
unfolding unreached discover elem
fair_start n start h = discover_fair n [] start (omega (arith, all_new 0 n)) h

-- states discovered one after another are those that are not found, behind those that are
pub discover_rest : (k m : ℕ) (found : List ℕ) → over discover found (table (λ (v : ℕ). v) k m)
    ≡ found ++ filter_by (is_new found) (table (λ (v : ℕ). v) k m)
unfolding over table filter_by
discover_rest k zero found = sym (append-nil found)
discover_rest k (suc m) found =
    let rest = table (λ (v : ℕ). v) (suc k) m in
    by_bool (elem k found)
    (λ e.
    ap (λ (f : List ℕ). over discover f rest) (discover_old found k e) ∙ discover_rest (suc k) m found
    ∙ ap (λ (l : List ℕ). found ++ l) (sym (filter_no (is_new found) k rest (ap not e))))
    (λ e.
    ap (λ (f : List ℕ). over discover f rest) (discover_new found k e) ∙ discover_rest (suc k) m (found ++ (k ∷ []))
    ∙ ap (λ (l : List ℕ). (found ++ (k ∷ [])) ++ l) (above found k (suc k) m (omega arith))
    ∙ append_assoc found (k ∷ []) (filter_by (is_new found) rest)
    ∙ ap (λ (l : List ℕ). found ++ l) (sym (filter_yes (is_new found) k rest (ap not e))))

-- ---- arrow by arrow

module _ (n v : ℕ) where
  -- an arrow that counts leads to one of the states
  pub target_in : (a : Ends) → leaves n v a ≡ true → a.target < n
  target_in a e =
      ltb-true a.target n
      (and_second (ltb a.source n) (ltb a.target n) (and_first (ltb a.source n && ltb a.target n) (not (eqb a.source a.target)) (and_first (counts n a) (eqb a.source v) e)))

  pub follow_yes : (found : List ℕ) (a : Ends) → leaves n v a ≡ true → follow n v found a ≡ discover found a.target
  unfolding follow
  follow_yes found a e = rw e

  pub follow_no : (found : List ℕ) (a : Ends) → leaves n v a ≡ false → follow n v found a ≡ found
  unfolding follow
  follow_no found a e = rw e

  pub follow_fair : (found : List ℕ) (a : Ends) → Fair n found → Fair n (follow n v found a)
  follow_fair found a f =
      by_bool (leaves n v a)
      (λ e. rw (follow_yes found a e) (discover_fair n found a.target f (target_in a e)))
      (λ e. rw (follow_no found a e) f)

  follows_fair : (found : List ℕ) (arrows : List Ends) → Fair n found → Fair n (over (follow n v) found arrows)
  unfolding over
  follows_fair found [] f = f
  follows_fair found (a ∷ l) f = follows_fair (follow n v found a) l (follow_fair found a f)

  -- the arrows that leave v, followed in their order
  pub follows : (found : List ℕ) (arrows : List Ends) → over (follow n v) found arrows ≡ over discover found (successors n arrows v)
  unfolding over successors filter_by
  follows found [] = refl
  follows found (a ∷ l) =
      by_bool (leaves n v a)
      (λ e. rw (follow_yes found a e, e) (follows (discover found a.target) l))
      (λ e. rw (follow_no found a e, e) (follows found l))

pub visit_fair : (n v : ℕ) (found : List ℕ) (arrows : List Ends) → Fair n found → Fair n (over discover found (successors n arrows v))
visit_fair n v found arrows f = subst (Fair n) (follows n v found arrows) (follows_fair n v found arrows f)

-- ---- column by column

module _ (n : ℕ) (arrows : List Ends) where
  pub explore_one : (found : List ℕ) (v : ℕ) (column : List ℕ) → explore n arrows (over discover found (successors n arrows v)) column ≡ explore n arrows found (v ∷ column)
  unfolding explore flat_map
  explore_one found v column = sym (over_join discover found (successors n arrows v) (flat_map (successors n arrows) column))

  pub explore-end : (found : List ℕ) → explore n arrows found [] ≡ found
  unfolding explore flat_map over
  explore-end found = refl

  pub explore_fair : (found column : List ℕ) → Fair n found → Fair n (explore n arrows found column)
  explore_fair found [] f = rw (explore-end found) f
  explore_fair found (v ∷ column) f =
      rw (← (explore_one found v column)) (explore_fair (over discover found (successors n arrows v)) column (visit_fair n v found arrows f))

-- ---- what is found stays where it is

discover_front : (k : ℕ) (found : List ℕ) (w : ℕ) → k ≤ length found → take k (discover found w) ≡ take k found
discover_front k found w h =
    by_bool (elem w found) (λ e. rw (discover_old found w e)) (λ e. rw (discover_new found w e) (take-append-le k found (w ∷ []) h))

discover_grows : (found : List ℕ) (w : ℕ) → length found ≤ length (discover found w)
discover_grows found w =
    by_bool (elem w found) (λ e. rw (discover_old found w e) (omega arith))
    (λ e. rw (discover_new found w e) (omega (arith, length-append found (w ∷ []))))

pub over_grows : (found l : List ℕ) → length found ≤ length (over discover found l)
unfolding over
over_grows found [] = omega arith
over_grows found (w ∷ l) = omega (arith, discover_grows found w, over_grows (discover found w) l)

pub over_front : (k : ℕ) (found l : List ℕ) → k ≤ length found → take k (over discover found l) ≡ take k found
unfolding over
over_front k found [] h = refl
over_front k found (w ∷ l) h = over_front k (discover found w) l (omega (arith, discover_grows found w)) ∙ discover_front k found w h

-- ---- the columns after a column, by what is found

module _ (n : ℕ) (arrows : List Ends) (found column all : List ℕ) (e : all ≡ explore n arrows found column) where
  pub after_none : (most : ℕ) → length (drop (length found) all) ≡ 0 → columns_after n arrows most found column ≡ []
  unfolding columns_after
  after_none zero h = refl
  after_none (suc most) h = rw (← e, h)

  pub after_more : (most : ℕ) → 0 < most → (length (drop (length found) all) ≡ 0 → ⊥)
      → columns_after n arrows most found column ≡ drop (length found) all ∷ columns_after n arrows (most - 1) all (drop (length found) all)
  unfolding columns_after
  after_more zero h d = absurd (not-suc-le-zero h)
  after_more (suc most) h d = rw (← e, ne_eqb (length (drop (length found) all)) 0 d, less_one)

pub after-end : (n : ℕ) (arrows : List Ends) (most : ℕ) (found column : List ℕ) → most ≤ 0 → columns_after n arrows most found column ≡ []
unfolding columns_after
after-end n arrows zero found column h = refl
after-end n arrows (suc most) found column h = absurd (not-suc-le-zero h)

pub explore_front : (k : ℕ) (n : ℕ) (arrows : List Ends) (found column : List ℕ) → k ≤ length found → take k (explore n arrows found column) ≡ take k found
unfolding explore
explore_front k n arrows found column h = over_front k found (flat_map (successors n arrows) column) h

pub explore_grows : (n : ℕ) (arrows : List Ends) (found column : List ℕ) → length found ≤ length (explore n arrows found column)
unfolding explore
explore_grows n arrows found column = over_grows found (flat_map (successors n arrows) column)
