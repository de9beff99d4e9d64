-- In a sheet that passes the test of refusal 3 there are as many records met as the count says, and every chain ends by an index that is zero:
-- reading `count + 1` records of it at most cuts nothing off. Assumes nothing.
use Rattle.std.specs.Prelude.{◌≡◌, refl, false, cond, eqb, length, get_or}
use Rattle.std.proofs.Common.{sym, ap, ◌∙◌, not-suc-le-zero, le_of_suc-le-suc, suc-add, add-one, length-append}
use mathlib.Core.List.{List, [], ◌∷◌, flat_map}
use Prim.Native.Nat.{ℕ, zero, suc, ◌+◌, ◌≤◌, ◌<◌}
use native.Mathlib.Omega.{arith}
use Rattle.std.proofs.lemmas.List.{length-map}
use borrow.Author.Tests.{eq-eqb, ne_eqb}
use Rattle.laws.specs.Cases.{by_bool, by_lt}
use Rattle.sheet.specs.Sheet.{count, next, chain_by, chain, state_chain, arrow_chain, line_chain, text_chain, first_text, first_line, first_state, first_arrow, Met, met_alone, met_line, met_arrow, met}
use Rattle.sheet.specs.Refusals.{indices, wrong_chains}
use Rattle.sheet.specs.Once.{occurrences, Once, once}

-- ---- a list of numbers from 1 to c, each once, has c elements
unfoldable sum_to : (ℕ → ℕ) → ℕ → ℕ
sum_to f zero = 0
sum_to f (suc c) = sum_to f c + f (suc c)

sum_same : (f g : ℕ → ℕ) (c : ℕ) → ((k : ℕ) → 1 ≤ k → k ≤ c → f k ≡ g k) → sum_to f c ≡ sum_to g c
unfolding sum_to
sum_same f g zero h = refl
sum_same f g (suc c) h = rw (sum_same f g c (λ k a b. h k a (omega arith)), h (suc c) (omega arith) (omega arith))

sum_ones : (c : ℕ) → sum_to (λ k. 1) c ≡ c
unfolding sum_to
sum_ones zero = refl
sum_ones (suc c) = rw (sum_ones c) (omega arith)

sum_zeros : (c : ℕ) → sum_to (λ k. 0) c ≡ 0
unfolding sum_to
sum_zeros zero = refl
sum_zeros (suc c) = rw (sum_zeros c) (omega arith)

module _ (x : ℕ) (f : ℕ → ℕ) where
  abbrev bumped : ℕ → ℕ
  bumped k = cond (eqb k x) (suc (f k)) (f k)

  sum_past : (c : ℕ) → c < x → sum_to bumped c ≡ sum_to f c
  sum_past c h = sum_same bumped f c (λ k a b. rw (ne_eqb k x (λ e. omega arith)))

  sum_bumped : (c : ℕ) → 1 ≤ x → x ≤ c → sum_to bumped c ≡ suc (sum_to f c)
  unfolding sum_to
  sum_bumped zero a b = absurd (omega arith)
  sum_bumped (suc c) a b =
      by_lt c x
      (λ l. let e : suc c ≡ x = omega arith in rw (sum_past c l, eq-eqb (suc c) x e) (omega arith))
      (λ l. rw (sum_bumped c a l, ne_eqb (suc c) x (λ e. omega arith)) (omega arith))

sum_length : (c : ℕ) (l : List ℕ) → ((k : ℕ) → 0 < occurrences k l → (1 ≤ k) × (k ≤ c)) → sum_to (λ k. occurrences k l) c ≡ length l
unfolding occurrences
sum_length c [] h = sum_zeros c
sum_length c (x ∷ l) h =
    let own = h x (rw (eq-eqb x x refl) (omega arith)) in
    sum_bumped x (λ k. occurrences k l) c own.0 own.1
    ∙ ap suc (sum_length c l (λ k i. h k (by_bool (eqb k x) (λ t. rw t (omega arith)) (λ t. rw t i))))

module _ (s : List ℕ) (o : Once s) where
  within_count : (k : ℕ) → 0 < occurrences k (indices s) → (1 ≤ k) × (k ≤ count s)
  within_count k h =
      by_lt (count s) k
      (λ l. let z : occurrences k (indices s) ≡ 0 = o.no_above k l in absurd (omega arith))
      (λ l. by_lt 0 k (λ g. (g, l))
      (λ g. let e : k ≡ 0 = omega arith in let z : occurrences k (indices s) ≡ 0 = rw e o.no_zero in absurd (omega arith)))

  indices-length : length (indices s) ≡ count s
  indices-length =
      sym (sum_length (count s) (indices s) within_count)
      ∙ sum_same (λ k. occurrences k (indices s)) (λ k. 1) (count s) o.each
      ∙ sum_ones (count s)

-- As many records are met as the count says.
pub met-length : (s : List ℕ) → wrong_chains s ≡ false → length (met s) ≡ count s
unfolding indices
met-length s e = sym (length-map (met s) (λ (x : Met). x.index)) ∙ indices-length s (once s e)

-- ---- a chain with fewer records than it was given room for has ended
ended : (s : List ℕ) (n i d : ℕ) → length (chain_by s (suc n) i) ≤ n → chain_by s (suc n + d) i ≡ chain_by s (suc n) i
unfolding chain_by
ended s zero i d h =
    by_bool (eqb i 0)
    (λ t. rw (suc-add 0 d, t))
    (λ t. absurd (not-suc-le-zero (rw t at h)))
ended s (suc n) i d h =
    by_bool (eqb i 0)
    (λ t. rw (suc-add (suc n) d, t))
    (λ t. rw (suc-add (suc n) d, t) (ap (λ (l : List ℕ). i ∷ l) (ended s n (next s i) d (le_of_suc-le-suc (rw t at h)))))

-- ---- a chain is no longer than what it brings
flat_all : (f : ℕ → List Met) (l : List ℕ) → ((i : ℕ) → 1 ≤ length (f i)) → length l ≤ length (flat_map f l)
unfolding flat_map
flat_all f [] h = omega arith
flat_all f (x ∷ l) h = let a : 1 ≤ length (f x) = h x in let b : length l ≤ length (flat_map f l) = flat_all f l h in rw (length-append (f x) (flat_map f l)) (omega arith)

flat_one : (f : ℕ → List Met) (l : List ℕ) (j : ℕ) → j < length l → length (f (get_or l j 0)) ≤ length (flat_map f l)
unfolding flat_map
flat_one f [] j h = absurd (not-suc-le-zero h)
flat_one f (x ∷ l) zero h = rw (length-append (f x) (flat_map f l)) (omega arith)
flat_one f (x ∷ l) (suc j) h = let a : length (f (get_or l j 0)) ≤ length (flat_map f l) = flat_one f l j (le_of_suc-le-suc h) in rw (length-append (f x) (flat_map f l)) (omega arith)

alone_some : (k i : ℕ) → 1 ≤ length (met_alone k i)
alone_some k i = omega arith

line_some : (s : List ℕ) (i : ℕ) → 1 ≤ length (met_line s i)
unfolding met_line
line_some s i = omega arith

arrow_some : (s : List ℕ) (i : ℕ) → 1 ≤ length (met_arrow s i)
unfolding met_arrow
arrow_some s i = omega arith

texts_in : (s : List ℕ) (i : ℕ) → length (text_chain s i) ≤ length (met_line s i)
unfolding met_line
texts_in s i = let a : length (text_chain s i) ≤ length (flat_map (met_alone 4) (text_chain s i)) = flat_all (met_alone 4) (text_chain s i) (alone_some 4) in omega arith

lines_in : (s : List ℕ) (i : ℕ) → length (flat_map (met_line s) (line_chain s i)) ≤ length (met_arrow s i)
unfolding met_arrow
lines_in s i = omega arith

states_in : (s : List ℕ) → length (flat_map (met_alone 1) (state_chain s)) ≤ length (met s)
unfolding met
states_in s = rw (length-append (flat_map (met_alone 1) (state_chain s)) (flat_map (met_arrow s) (arrow_chain s))) (omega arith)

arrows_in : (s : List ℕ) → length (flat_map (met_arrow s) (arrow_chain s)) ≤ length (met s)
unfolding met
arrows_in s = rw (length-append (flat_map (met_alone 1) (state_chain s)) (flat_map (met_arrow s) (arrow_chain s))) (omega arith)

-- the j-th arrow's record, and the record of its line k
abbrev pub arrow_record : List ℕ → ℕ → ℕ
arrow_record s j = get_or (arrow_chain s) j 0

abbrev pub line_record : List ℕ → ℕ → ℕ → ℕ
line_record s j k = get_or (line_chain s (arrow_record s j)) k 0

-- every chain is read to its end: with room for n more records it is the same
pub record Whole (s : List ℕ) : Type 0 where
  pub states : (n : ℕ) → chain_by s (count s + 1 + n) (first_state s) ≡ state_chain s
  pub arrows : (n : ℕ) → chain_by s (count s + 1 + n) (first_arrow s) ≡ arrow_chain s
  pub lines : (j n : ℕ) → j < length (arrow_chain s) → chain_by s (count s + 1 + n) (first_line s (arrow_record s j)) ≡ line_chain s (arrow_record s j)
  pub texts : (j k n : ℕ) → j < length (arrow_chain s) → k < length (line_chain s (arrow_record s j))
      → chain_by s (count s + 1 + n) (first_text s (line_record s j k)) ≡ text_chain s (line_record s j k)

module _ (s : List ℕ) (e : wrong_chains s ≡ false) where
  to_end : (i n : ℕ) → length (chain s i) ≤ length (met s) → chain_by s (count s + 1 + n) i ≡ chain s i
  to_end i n h =
      let m : length (met s) ≡ count s = met-length s e in
      let l : length (chain_by s (suc (count s)) i) ≤ length (met s) = rw (add-one (count s)) at h in
      let k : length (chain_by s (suc (count s)) i) ≤ count s = omega arith in
      rw (add-one (count s)) (ended s (count s) i n k)

  arrow_in_lem : (j : ℕ) → j < length (arrow_chain s) → length (met_arrow s (arrow_record s j)) ≤ length (met s)
  arrow_in_lem j h =
      let a : length (met_arrow s (arrow_record s j)) ≤ length (flat_map (met_arrow s) (arrow_chain s)) = flat_one (met_arrow s) (arrow_chain s) j h in
      let b : length (flat_map (met_arrow s) (arrow_chain s)) ≤ length (met s) = arrows_in s in
      omega arith

  pub whole_sheet : Whole s
  whole_sheet = record {
    states = λ n. to_end (first_state s) n
        (let a : length (state_chain s) ≤ length (flat_map (met_alone 1) (state_chain s)) = flat_all (met_alone 1) (state_chain s) (alone_some 1) in
        let b : length (flat_map (met_alone 1) (state_chain s)) ≤ length (met s) = states_in s in omega arith);
    arrows = λ n. to_end (first_arrow s) n
        (let a : length (arrow_chain s) ≤ length (flat_map (met_arrow s) (arrow_chain s)) = flat_all (met_arrow s) (arrow_chain s) (arrow_some s) in
        let b : length (flat_map (met_arrow s) (arrow_chain s)) ≤ length (met s) = arrows_in s in omega arith);
    lines = λ j n h. to_end (first_line s (arrow_record s j)) n
        (let a : length (line_chain s (arrow_record s j)) ≤ length (flat_map (met_line s) (line_chain s (arrow_record s j))) = flat_all (met_line s) (line_chain s (arrow_record s j)) (line_some s) in
        let b : length (flat_map (met_line s) (line_chain s (arrow_record s j))) ≤ length (met_arrow s (arrow_record s j)) = lines_in s (arrow_record s j) in
        let c : length (met_arrow s (arrow_record s j)) ≤ length (met s) = arrow_in_lem j h in omega arith);
    texts = λ j k n h l. to_end (first_text s (line_record s j k)) n
        (let a : length (text_chain s (line_record s j k)) ≤ length (met_line s (line_record s j k)) = texts_in s (line_record s j k) in
        let b : length (met_line s (line_record s j k)) ≤ length (flat_map (met_line s) (line_chain s (arrow_record s j))) = flat_one (met_line s) (line_chain s (arrow_record s j)) k l in
        let c : length (flat_map (met_line s) (line_chain s (arrow_record s j))) ≤ length (met_arrow s (arrow_record s j)) = lines_in s (arrow_record s j) in
        let d : length (met_arrow s (arrow_record s j)) ≤ length (met s) = arrow_in_lem j h in omega arith);
  }
