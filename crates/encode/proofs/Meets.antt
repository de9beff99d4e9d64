-- The chains of a graph's sheet meet its records in the order in which they stand, each once and in a chain of its kind. Assumes nothing.
use Rattle.std.specs.Prelude.{◌≡◌, Bool, false, ℕ, zero, suc, ◌+◌, ◌*◌, ◌≤◌, ◌<◌, eqb, length}
use Rattle.std.proofs.Math.Path.{refl, ap, ap₂}
use Rattle.std.proofs.Common.{◌∙◌, add-one, arith, eqb-true, eq-eqb, ne_eqb}
use Rattle.std.proofs.Math.Bool.{not}
use mathlib.Core.List.{List, [], ◌∷◌, ◌++◌, map, flat_map, map-append}
use Rattle.std.proofs.lemmas.Bool.{eqb-false, not-false}
use Rattle.laws.specs.Cases.{by_bool}
use Rattle.laws.specs.Flat.{table}
use Rattle.sheet.specs.Sheet.{count, kind_of, chain, first_state, first_arrow, first_line, first_text, Arrow, Graph, Met, meet, met_alone, met_line, met_arrow, met}
use Rattle.sheet.specs.Refusals.{is_other, indices, wrong_chains}
use Rattle.laws.specs.Any.{any_of, any_head, any_rest, any_none, any_join, none_at}
use Rattle.laws.specs.Bools.{or_none}
use Rattle.sheet.specs.Once.{occurrences, Once, met_at, once_back}
use Rattle.encode.specs.Encode.{first_index, space_of, all_records, state_size, piece_size, pieces, line_records, arrow_records, line_size, arrow_size, records_for, arrows_from, encode}
use Rattle.encode.specs.Blocks.{StandsAt, at_kind, at-word, u16_back, beginnings, InRecords, all_head, all_rest}
use Rattle.encode.specs.Kinds.{never, any_never, pieces_good, state_form, piece_form, line_form, arrow_form}
use Rattle.encode.proofs.Means.{chain_is, line-head, line-rest, line-chain, arrow-head, arrow-rest, arrow-chain, head_at, states-at, arrows-at, count_is, encode_right}

-- ---- n numbers from k on
abbrev numbers_from : ℕ → ℕ → List ℕ
numbers_from k n = table (λ (i : ℕ). i) k n

numbers_join : (k a b : ℕ) → numbers_from k a ++ numbers_from (k + a) b ≡ numbers_from k (a + b)
unfolding table
numbers_join k zero b = let e : 0 + b ≡ b = omega arith in let d : k + 0 ≡ k = omega arith in rw (d, e)
numbers_join k (suc a) b =
    let e : suc a + b ≡ suc (a + b) = omega arith in
    let d : k + suc a ≡ suc k + a = omega arith in
    rw (d, e) (ap (λ (r : List ℕ). k ∷ r) (numbers_join (suc k) a b))

numbers_more : (k n : ℕ) → k ∷ numbers_from (k + 1) n ≡ numbers_from k (1 + n)
unfolding table
numbers_more k n = let e : 1 + n ≡ suc n = omega arith in rw (add-one k, e)

none_other : (i k c : ℕ) → (k ≤ i → i < k + c → ⊥) → occurrences i (numbers_from k c) ≡ 0
unfolding table occurrences
none_other i k zero h = refl
none_other i k (suc c) h = rw (ne_eqb i k (λ e. h (omega arith) (omega arith))) (none_other i (suc k) c (λ a b. h (omega arith) (omega arith)))

each_once : (i k c : ℕ) → k ≤ i → i < k + c → occurrences i (numbers_from k c) ≡ 1
unfolding table occurrences
each_once i k zero a b = absurd (omega arith)
each_once i k (suc c) a b =
    by_bool (eqb i k)
    (λ t. let q : i ≡ k = eqb-true i k t in rw t (ap suc (none_other i (suc k) c (λ l m. omega arith))))
    (λ t. let q : i ≡ k → ⊥ = eqb-false i k t in rw t (each_once i (suc k) c (omega arith) (omega arith)))

-- ---- of a list written in a sheet: f is what meeting an element's first record brings
module _ {A : Type 0} {size : A → ℕ} {write : ℕ → ℕ → A → List ℕ} {bad : A → Bool} (y : InRecords size write bad) (s : List ℕ) (f : ℕ → List Met) where
  all-numbers : ((k n : ℕ) (x : A) → 1 ≤ k → bad x ≡ false → StandsAt s k (write k n x) → map (λ (m : Met). m.index) (f k) ≡ numbers_from k (size x))
      → (k : ℕ) (l : List A) → 1 ≤ k → any_of bad l ≡ false → StandsAt s k (all_records size write k l) → map (λ (m : Met). m.index) (flat_map f (beginnings size k l)) ≡ numbers_from k (space_of size l)
  unfolding beginnings flat_map space_of table
  all-numbers t k [] h b a = refl
  all-numbers t k (x ∷ l) h b a =
      let g = any_head bad x l b in
      map-append (λ (m : Met). m.index) (f k) (flat_map f (beginnings size (k + size x) l))
      ∙ ap₂ (λ (p q : List ℕ). p ++ q) (t k (first_index (k + size x) l) x h g (all_head y s k x l a)) (all-numbers t (k + size x) l (omega arith) (any_rest bad x l b) (all_rest y s k x l g a))
      ∙ numbers_join k (size x) (space_of size l)

  all_none : (p : Met → Bool) → ((k n : ℕ) (x : A) → 1 ≤ k → bad x ≡ false → StandsAt s k (write k n x) → any_of p (f k) ≡ false)
      → (k : ℕ) (l : List A) → 1 ≤ k → any_of bad l ≡ false → StandsAt s k (all_records size write k l) → any_of p (flat_map f (beginnings size k l)) ≡ false
  unfolding beginnings flat_map any_of
  all_none p t k [] h b a = refl
  all_none p t k (x ∷ l) h b a =
      let g = any_head bad x l b in
      any_join p (f k) (flat_map f (beginnings size (k + size x) l))
      ∙ or_none (any_of p (f k)) (any_of p (flat_map f (beginnings size (k + size x) l))) (t k (first_index (k + size x) l) x h g (all_head y s k x l a)) (all_none p t (k + size x) l (omega arith) (any_rest bad x l b) (all_rest y s k x l g a))

-- ---- in a sheet of right length
module _ (s : List ℕ) (e : length s ≡ 16 * (1 + count s)) where
  alone_numbers : (k i : ℕ) → map (λ (m : Met). m.index) (met_alone k i) ≡ numbers_from i 1
  unfolding table
  alone_numbers k i = refl

  alone_kind : (k i : ℕ) → kind_of s i ≡ k → any_of (is_other s) (met_alone k i) ≡ false
  unfolding any_of
  alone_kind k i q = any_none (is_other s) (meet k i) [] (ap not (eq-eqb (kind_of s i) k q)) refl

  line-numbers : (k n : ℕ) (l : List ℕ) → 1 ≤ k → never l ≡ false → StandsAt s k (line_records k n l) → map (λ (m : Met). m.index) (met_line s k) ≡ numbers_from k (line_size l)
  unfolding met_line
  line-numbers k n l h b a =
      ap (λ (r : List ℕ). k ∷ map (λ (m : Met). m.index) (flat_map (met_alone 4) r)) (line-chain s e k n l a)
      ∙ ap (λ (r : List ℕ). k ∷ r) (all-numbers piece_form s (met_alone 4) (λ i m p g c t. alone_numbers 4 i) (k + 1) (pieces l) (omega arith) (pieces_good l) (line-rest s e k n l a))
      ∙ numbers_more k (space_of piece_size (pieces l))

  line-kinds : (k n : ℕ) (l : List ℕ) → 1 ≤ k → never l ≡ false → StandsAt s k (line_records k n l) → any_of (is_other s) (met_line s k) ≡ false
  unfolding met_line
  line-kinds k n l h b a =
      any_none (is_other s) (meet 3 k) (flat_map (met_alone 4) (chain s (first_text s k)))
      (ap not (eq-eqb (kind_of s k) 3 (at_kind (line-head s e k n l a))))
      (ap (λ (r : List ℕ). any_of (is_other s) (flat_map (met_alone 4) r)) (line-chain s e k n l a)
      ∙ all_none piece_form s (met_alone 4) (is_other s) (λ i m p g c t. alone_kind 4 i (at_kind t)) (k + 1) (pieces l) (omega arith) (pieces_good l) (line-rest s e k n l a))

  arrow-numbers : (k n : ℕ) (x : Arrow) → 1 ≤ k → never x ≡ false → StandsAt s k (arrow_records k n x) → map (λ (m : Met). m.index) (met_arrow s k) ≡ numbers_from k (arrow_size x)
  unfolding met_arrow
  arrow-numbers k n x h b a =
      ap (λ (r : List ℕ). k ∷ map (λ (m : Met). m.index) (flat_map (met_line s) r)) (arrow-chain s e k n x a)
      ∙ ap (λ (r : List ℕ). k ∷ r) (all-numbers line_form s (met_line s) line-numbers (k + 1) x.lines (omega arith) (any_never x.lines) (arrow-rest s e k n x a))
      ∙ numbers_more k (space_of line_size x.lines)

  arrow-kinds : (k n : ℕ) (x : Arrow) → 1 ≤ k → never x ≡ false → StandsAt s k (arrow_records k n x) → any_of (is_other s) (met_arrow s k) ≡ false
  unfolding met_arrow
  arrow-kinds k n x h b a =
      any_none (is_other s) (meet 2 k) (flat_map (met_line s) (chain s (first_line s k)))
      (ap not (eq-eqb (kind_of s k) 2 (at_kind (arrow-head s e k n x a))))
      (ap (λ (r : List ℕ). any_of (is_other s) (flat_map (met_line s) r)) (arrow-chain s e k n x a)
      ∙ all_none line_form s (met_line s) (is_other s) line-kinds (k + 1) x.lines (omega arith) (any_never x.lines) (arrow-rest s e k n x a))

-- ---- in the sheet of a graph
module _ (g : Graph) where
  states-chain : chain (encode g) (first_state (encode g)) ≡ beginnings state_size 1 g.states
  states-chain = chain_is (encode g) (encode_right g) (state_form never) (first_state (encode g)) 1 g.states (at-word 4 (head_at g) ∙ u16_back (first_index 1 g.states)) (omega arith) (any_never g.states) (states-at g)

  arrows-chain : chain (encode g) (first_arrow (encode g)) ≡ beginnings arrow_size (arrows_from g) g.arrows
  arrows-chain = chain_is (encode g) (encode_right g) arrow_form (first_arrow (encode g)) (arrows_from g) g.arrows (at-word 6 (head_at g) ∙ u16_back (first_index (arrows_from g) g.arrows)) (omega arith) (any_never g.arrows) (arrows-at g)

  met_is : met (encode g) ≡ flat_map (met_alone 1) (beginnings state_size 1 g.states) ++ flat_map (met_arrow (encode g)) (beginnings arrow_size (arrows_from g) g.arrows)
  unfolding met
  met_is = rw (states-chain, arrows-chain)

  -- The records are met in the order in which they stand.
  pub met_in_order : indices (encode g) ≡ table (λ (i : ℕ). i) 1 (records_for g)
  unfolding indices
  met_in_order =
      let s = encode g in
      ap (map (λ (m : Met). m.index)) met_is
      ∙ map-append (λ (m : Met). m.index) (flat_map (met_alone 1) (beginnings state_size 1 g.states)) (flat_map (met_arrow s) (beginnings arrow_size (arrows_from g) g.arrows))
      ∙ ap₂ (λ (p q : List ℕ). p ++ q)
      (all-numbers (state_form never) s (met_alone 1) (λ i m p h c t. alone_numbers s (encode_right g) 1 i) 1 g.states (omega arith) (any_never g.states) (states-at g))
      (all-numbers arrow_form s (met_arrow s) (arrow-numbers s (encode_right g)) (arrows_from g) g.arrows (omega arith) (any_never g.arrows) (arrows-at g))
      ∙ numbers_join 1 (space_of state_size g.states) (space_of arrow_size g.arrows)

  met_of_kind : any_of (is_other (encode g)) (met (encode g)) ≡ false
  met_of_kind =
      let s = encode g in
      let ps = flat_map (met_alone 1) (beginnings state_size 1 g.states) in
      let qs = flat_map (met_arrow s) (beginnings arrow_size (arrows_from g) g.arrows) in
      ap (any_of (is_other s)) met_is
      ∙ any_join (is_other s) ps qs
      ∙ or_none (any_of (is_other s) ps) (any_of (is_other s) qs)
      (all_none (state_form never) s (met_alone 1) (is_other s) (λ i m p h c t. alone_kind s (encode_right g) 1 i (at_kind t)) 1 g.states (omega arith) (any_never g.states) (states-at g))
      (all_none arrow_form s (met_arrow s) (is_other s) (arrow-kinds s (encode_right g)) (arrows_from g) g.arrows (omega arith) (any_never g.arrows) (arrows-at g))

  -- Every record is met exactly once, in a chain of its kind.
  encode_once : Once (encode g)
  encode_once = record {
    each = λ k a b. let d : k ≤ records_for g = rw (count_is g) at b in rw met_in_order (each_once k 1 (records_for g) a (omega arith));
    no_zero = rw met_in_order (none_other 0 1 (records_for g) (λ a b. omega arith));
    no_above = λ k h. let d : records_for g < k = rw (count_is g) at h in rw met_in_order (none_other k 1 (records_for g) (λ a b. omega arith));
    kinds = λ j h. eqb-true (kind_of (encode g) (met_at (encode g) j).index) (met_at (encode g) j).kind
        (not-false (eqb (kind_of (encode g) (met_at (encode g) j).index) (met_at (encode g) j).kind) (none_at (is_other (encode g)) (met (encode g)) j (meet 0 0) met_of_kind h));
  }

  pub right_chains : wrong_chains (encode g) ≡ false
  right_chains = once_back (encode g) encode_once
