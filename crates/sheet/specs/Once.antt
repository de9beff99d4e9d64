-- 'Every record is met exactly once over all chains, in a chain of its kind': said by counting, apart from any walk. A sheet passes the test of refusal 3
-- exactly when this holds. Assumes nothing.
use Rattle.std.specs.Prelude.{◌≡◌, Bool, true, false, cond, ◌||◌, ℕ, zero, suc, ◌+◌, ◌≤◌, ◌<◌, eqb, length, get_or}
use Rattle.std.proofs.Math.Path.{refl, ap}
use Rattle.std.proofs.Common.{sym, ◌∙◌, arith}
use Rattle.std.proofs.Math.Bool.{not}
use mathlib.Core.List.{List, [], ◌∷◌, map, flat_map}
use borrow.Author.Tests.{le-ltb, lt-ltb, eqb-true, eqb-false, eq-eqb, ne_eqb, not-false}
use Rattle.laws.specs.Cases.{by_bool, by_lt}
use Rattle.laws.specs.Loops.{any_up}
use Rattle.laws.specs.Any.{any_of, any_here, any_none, any_head, any_rest, any_cases, any_join, any_narrower, any_flat, any_map, none_at, none_all, none_up, up_none}
use Rattle.laws.specs.Bools.{clash, or_false_left, or_false_right, or_none}
use Rattle.sheet.specs.Sheet.{count, kind_of, next, chain_by, chain, first_text, first_line, first_state, first_arrow, Met, meet, met_alone, met_line, met_arrow, met}
use Rattle.sheet.specs.Refusals.{is_among, repeats, is_above, is_other, is_missed, indices, wrong_chains}

-- how often n stands in a list
unfoldable pub occurrences : ℕ → List ℕ → ℕ
occurrences n [] = 0
occurrences n (x ∷ l) = let rest = occurrences n l in cond (eqb n x) (suc rest) rest

-- the record that is met as the j-th, from 0
abbrev pub met_at : List ℕ → ℕ → Met
met_at s j = get_or (met s) j (meet 0 0)

-- the records met: each number from 1 to the count once, and no other, each in a chain of its kind
pub record Once (s : List ℕ) : Type 0 where
  pub each : (k : ℕ) → 1 ≤ k → k ≤ count s → occurrences k (indices s) ≡ 1
  pub no_zero : occurrences 0 (indices s) ≡ 0
  pub no_above : (k : ℕ) → count s < k → occurrences k (indices s) ≡ 0
  pub kinds : (j : ℕ) → j < length (met s) → kind_of s (met_at s j).index ≡ (met_at s j).kind

-- ---- occurrences
module _ (n x : ℕ) (l : List ℕ) where
  occurs_more : n ≡ x → occurrences n (x ∷ l) ≡ suc (occurrences n l)
  unfolding occurrences
  occurs_more e = rw (eq-eqb n x e)

  occurs_same : (n ≡ x → ⊥) → occurrences n (x ∷ l) ≡ occurrences n l
  unfolding occurrences
  occurs_same e = rw (ne_eqb n x e)

by_eq : {C : Type 0} (n x : ℕ) → (n ≡ x → C) → ((n ≡ x → ⊥) → C) → C
by_eq n x f g = by_bool (eqb n x) (λ t. f (eqb-true n x t)) (λ t. g (eqb-false n x t))

absent : (n : ℕ) (l : List ℕ) → is_among n l ≡ false → occurrences n l ≡ 0
unfolding occurrences
absent n [] e = refl
absent n (x ∷ l) e = rw (any_head (eqb n) x l e) (absent n l (any_rest (eqb n) x l e))

absent_back : (n : ℕ) (l : List ℕ) → occurrences n l ≡ 0 → is_among n l ≡ false
unfolding any_of
absent_back n [] e = refl
absent_back n (x ∷ l) e =
    by_eq n x
    (λ q. let a : occurrences n (x ∷ l) ≡ suc (occurrences n l) = occurs_more n x l q in absurd (omega arith))
    (λ q. any_none (eqb n) x l (ne_eqb n x q) (absent_back n l (sym (occurs_same n x l q) ∙ e)))

present : (n : ℕ) (l : List ℕ) → is_among n l ≡ true → 1 ≤ occurrences n l
present n l e =
    by_lt 0 (occurrences n l) (λ h. h)
    (λ h. let z : occurrences n l ≡ 0 = omega arith in clash e (absent_back n l z))

once_there : (n : ℕ) (l : List ℕ) → repeats l ≡ false → is_among n l ≡ true → occurrences n l ≡ 1
unfolding repeats any_of
once_there n [] r e = clash {b = false} e refl
once_there n (x ∷ l) r e =
    by_eq n x
    (λ q. occurs_more n x l q ∙ ap suc (absent n l (rw q (or_false_left (is_among x l) (repeats l) r))))
    (λ q. occurs_same n x l q ∙ once_there n l (or_false_right (is_among x l) (repeats l) r) (rw (ne_eqb n x q) at e))

no_repeats : (l : List ℕ) → ((n : ℕ) → occurrences n l ≤ 1) → repeats l ≡ false
unfolding repeats
no_repeats [] h = refl
no_repeats (x ∷ l) h = or_none (is_among x l) (repeats l) own (no_repeats l rest)
  where
    own : is_among x l ≡ false
    own =
        by_bool (is_among x l)
        (λ t.
        let a : 1 ≤ occurrences x l = present x l t in
        let b : occurrences x (x ∷ l) ≡ suc (occurrences x l) = occurs_more x x l refl in
        let d : occurrences x (x ∷ l) ≤ 1 = h x in
        absurd (omega arith))
        (λ t. t)

    rest : (n : ℕ) → occurrences n l ≤ 1
    rest n =
        let d : occurrences n (x ∷ l) ≤ 1 = h n in
        by_eq n x
        (λ q. let b : occurrences n (x ∷ l) ≡ suc (occurrences n l) = occurs_more n x l q in omega arith)
        (λ q. let b : occurrences n (x ∷ l) ≡ occurrences n l = occurs_same n x l q in omega arith)

-- ---- no chain has a record 0
abbrev is_zero : Met → Bool
is_zero x = eqb 0 x.index

pub chain_nonzero : (s : List ℕ) (n i : ℕ) → any_of (eqb 0) (chain_by s n i) ≡ false
unfolding chain_by any_of
chain_nonzero s zero i = refl
chain_nonzero s (suc n) i =
    by_eq i 0
    (λ q. rw (eq-eqb i 0 q))
    (λ q. rw (ne_eqb i 0 q) (any_none (eqb 0) i (chain_by s n (next s i)) (ne_eqb 0 i (λ e. q (sym e))) (chain_nonzero s n (next s i))))

-- what meeting records brings has no zero, where no record is zero
flat_nonzero : (f : ℕ → List Met) (l : List ℕ) → ((i : ℕ) → any_of is_zero (f i) ≡ true → eqb 0 i ≡ true) → any_of (eqb 0) l ≡ false → any_of is_zero (flat_map f l) ≡ false
flat_nonzero f l h e = any_flat is_zero f l ∙ any_narrower (λ i. any_of is_zero (f i)) (eqb 0) l h e

alone_zero : (k i : ℕ) → any_of is_zero (met_alone k i) ≡ true → eqb 0 i ≡ true
unfolding any_of
alone_zero k i e = any_cases is_zero (meet k i) [] e (λ t. t) (λ t. clash {b = false} t refl)

line-zero : (s : List ℕ) (i : ℕ) → any_of is_zero (met_line s i) ≡ true → eqb 0 i ≡ true
unfolding met_line
line-zero s i e =
    any_cases is_zero (meet 3 i) (flat_map (met_alone 4) (chain s (first_text s i))) e (λ t. t)
    (λ t. clash t (flat_nonzero (met_alone 4) (chain s (first_text s i)) (alone_zero 4) (chain_nonzero s (count s + 1) (first_text s i))))

arrow-zero : (s : List ℕ) (i : ℕ) → any_of is_zero (met_arrow s i) ≡ true → eqb 0 i ≡ true
unfolding met_arrow
arrow-zero s i e =
    any_cases is_zero (meet 2 i) (flat_map (met_line s) (chain s (first_line s i))) e (λ t. t)
    (λ t. clash t (flat_nonzero (met_line s) (chain s (first_line s i)) (line-zero s) (chain_nonzero s (count s + 1) (first_line s i))))

met_nonzero : (s : List ℕ) → any_of is_zero (met s) ≡ false
unfolding met
met_nonzero s =
    any_join is_zero (flat_map (met_alone 1) (chain s (first_state s))) (flat_map (met_arrow s) (chain s (first_arrow s)))
    ∙ or_none (any_of is_zero (flat_map (met_alone 1) (chain s (first_state s)))) (any_of is_zero (flat_map (met_arrow s) (chain s (first_arrow s))))
    (flat_nonzero (met_alone 1) (chain s (first_state s)) (alone_zero 1) (chain_nonzero s (count s + 1) (first_state s)))
    (flat_nonzero (met_arrow s) (chain s (first_arrow s)) (arrow-zero s) (chain_nonzero s (count s + 1) (first_arrow s)))

zero_absent : (s : List ℕ) → is_among 0 (indices s) ≡ false
unfolding indices
zero_absent s = any_map (eqb 0) (λ (x : Met). x.index) (met s) ∙ met_nonzero s

-- ---- the four parts of the test
module _ (s : List ℕ) where
  above_absent : (k : ℕ) (xs : List Met) → any_of (is_above s) xs ≡ false → count s < k → is_among k (map (λ (x : Met). x.index) xs) ≡ false
  above_absent k xs e h =
      any_map (eqb k) (λ (x : Met). x.index) xs
      ∙ any_narrower (λ x. eqb k x.index) (is_above s) xs
      (λ x t. let q : k ≡ x.index = eqb-true k x.index t in lt-ltb (count s) x.index (omega arith))
      e

  none_above : (xs : List Met) → ((k : ℕ) → count s < k → is_among k (map (λ (x : Met). x.index) xs) ≡ false) → any_of (is_above s) xs ≡ false
  unfolding any_of
  none_above [] h = refl
  none_above (x ∷ xs) h =
      any_none (is_above s) x xs
      (by_lt (count s) x.index
      (λ l. clash (any_here (eqb x.index) x.index (map (λ (y : Met). y.index) xs) (eq-eqb x.index x.index refl)) (h x.index l))
      (λ l. le-ltb (count s) x.index l))
      (none_above xs (λ k l. any_rest (eqb k) x.index (map (λ (y : Met). y.index) xs) (h k l)))

  abbrev tail_one : Bool
  tail_one = repeats (indices s) || any_up (is_missed (indices s)) 1 (count s + 1)

  module _ (e : wrong_chains s ≡ false) where
    pub right_inside : any_of (is_above s) (met s) ≡ false
    unfolding wrong_chains
    right_inside = or_false_left (any_of (is_above s) (met s)) (any_of (is_other s) (met s) || tail_one) e

    pub right_kinds : any_of (is_other s) (met s) ≡ false
    unfolding wrong_chains
    right_kinds = or_false_left (any_of (is_other s) (met s)) tail_one (or_false_right (any_of (is_above s) (met s)) (any_of (is_other s) (met s) || tail_one) e)

    right_tail : tail_one ≡ false
    unfolding wrong_chains
    right_tail = or_false_right (any_of (is_other s) (met s)) tail_one (or_false_right (any_of (is_above s) (met s)) (any_of (is_other s) (met s) || tail_one) e)

    pub right_once : repeats (indices s) ≡ false
    right_once = or_false_left (repeats (indices s)) (any_up (is_missed (indices s)) 1 (count s + 1)) right_tail

    pub right_all : any_up (is_missed (indices s)) 1 (count s + 1) ≡ false
    right_all = or_false_right (repeats (indices s)) (any_up (is_missed (indices s)) 1 (count s + 1)) right_tail

    out_absent : (k : ℕ) → count s < k → is_among k (indices s) ≡ false
    unfolding indices
    out_absent k h = above_absent k (met s) right_inside h

    -- A sheet that passes the test meets each record exactly once, in a chain of its kind.
    pub once : Once s
    once = record {
      each = λ k a b. once_there k (indices s) right_once (not-false (is_among k (indices s)) (none_up (is_missed (indices s)) 1 (count s + 1) k right_all a (omega arith)));
      no_zero = absent 0 (indices s) (zero_absent s);
      no_above = λ k h. absent k (indices s) (out_absent k h);
      kinds = λ j h. eqb-true (kind_of s (met_at s j).index) (met_at s j).kind (not-false (eqb (kind_of s (met_at s j).index) (met_at s j).kind) (none_at (is_other s) (met s) j (meet 0 0) right_kinds h));
    }

  module _ (o : Once s) where
    at_most : (k : ℕ) → occurrences k (indices s) ≤ 1
    at_most k =
        by_lt (count s) k
        (λ l. let z : occurrences k (indices s) ≡ 0 = o.no_above k l in omega arith)
        (λ l. by_lt 0 k
        (λ g. let z : occurrences k (indices s) ≡ 1 = o.each k g l in omega arith)
        (λ g. let e : k ≡ 0 = omega arith in let z : occurrences k (indices s) ≡ 0 = rw e o.no_zero in omega arith))

    inside_back : any_of (is_above s) (met s) ≡ false
    unfolding indices
    inside_back = none_above (met s) (λ k l. absent_back k (indices s) (o.no_above k l))

    missed_back : any_up (is_missed (indices s)) 1 (count s + 1) ≡ false
    missed_back =
        up_none (is_missed (indices s)) 1 (count s + 1)
        (λ k a b. ap not (by_bool (is_among k (indices s)) (λ t. t)
        (λ t. let z : occurrences k (indices s) ≡ 0 = absent k (indices s) t in let w : occurrences k (indices s) ≡ 1 = o.each k a (omega arith) in absurd (omega arith))))

    -- And a sheet that does so passes it.
    pub once_back : wrong_chains s ≡ false
    unfolding wrong_chains
    once_back =
        or_none (any_of (is_above s) (met s)) (any_of (is_other s) (met s) || tail_one) inside_back
        (or_none (any_of (is_other s) (met s)) tail_one
        (none_all (is_other s) (met s) (meet 0 0) (λ j h. ap not (eq-eqb (kind_of s (met_at s j).index) (met_at s j).kind (o.kinds j h))))
        (or_none (repeats (indices s)) (any_up (is_missed (indices s)) 1 (count s + 1)) (no_repeats (indices s) at_most) missed_back))
