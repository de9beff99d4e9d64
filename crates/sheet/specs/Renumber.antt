-- The meaning does not depend on where in the file a record stands: a sheet whose records carry other numbers, with the same contents and links, means the same.
-- Assumes nothing.
use Rattle.std.specs.Prelude.{◌≡◌, Bool, ◌||◌, ltb, eqb}
use Rattle.std.proofs.Math.Path.{refl, sym, ap, ap₂}
use Rattle.std.proofs.Common.{◌∙◌, arith}
use Rattle.std.proofs.Math.Bool.{false}
use mathlib.Core.List.{List, [], ◌∷◌, ◌++◌, map, flat_map}
use Prim.Native.Nat.{ℕ, zero, suc, ◌+◌, ◌≤◌}
use borrow.Author.Tests.{ltb-false, eqb-true, eqb-false, ne_eqb, not-false}
use Rattle.laws.specs.Cases.{by_bool}
use Rattle.laws.specs.Any.{any_of, any_head, any_rest, any_or, any_join, any_narrower, any_flat}
use Rattle.laws.specs.Bools.{clash, or_false_left, or_false_right}
use Rattle.sheet.specs.Sheet.{count, kind_of, byte_one, next, from_of, to_of, first_state, first_arrow, first_line, first_text, piece, chain_by, chain, state_chain, arrow_chain, line_chain, text_chain, Met, meet, met_alone, met_line, met_arrow, met, State, Arrow, line_of, lines_from, arrow_of, state_of, states_of, arrows_of, meaning}
use Rattle.sheet.specs.Refusals.{is_above, is_other, wrong_chains}
use Rattle.sheet.specs.Once.{chain_nonzero, right_inside, right_kinds}

-- Record k of s is record (new k) of t: each index of s names in t the record that stands for the one named, and what a record's kind holds is the same.
pub record Renumbered (new : ℕ → ℕ) (s t : List ℕ) : Type 0 where
  pub counts : count t ≡ count s
  pub ends : new 0 ≡ 0
  pub only : (k : ℕ) → new k ≡ 0 → k ≡ 0
  pub states : first_state t ≡ new (first_state s)
  pub arrows : first_arrow t ≡ new (first_arrow s)
  pub nexts : (k : ℕ) → 1 ≤ k → k ≤ count s → next t (new k) ≡ new (next s k)
  pub flags : (k : ℕ) → 1 ≤ k → k ≤ count s → kind_of s k ≡ 1 → byte_one t (new k) ≡ byte_one s k
  pub sources : (k : ℕ) → 1 ≤ k → k ≤ count s → kind_of s k ≡ 2 → from_of t (new k) ≡ from_of s k
  pub targets : (k : ℕ) → 1 ≤ k → k ≤ count s → kind_of s k ≡ 2 → to_of t (new k) ≡ to_of s k
  pub lines : (k : ℕ) → 1 ≤ k → k ≤ count s → kind_of s k ≡ 2 → first_line t (new k) ≡ new (first_line s k)
  pub texts : (k : ℕ) → 1 ≤ k → k ≤ count s → kind_of s k ≡ 3 → first_text t (new k) ≡ new (first_text s k)
  pub pieces : (k : ℕ) → 1 ≤ k → k ≤ count s → kind_of s k ≡ 4 → piece t (new k) ≡ piece s k

-- lists made of the elements of a list, where each element passes
module _ {A : Type 0} (new : ℕ → ℕ) (p : ℕ → Bool) where
  map_along : (f g : ℕ → A) (l : List ℕ) → any_of p l ≡ false → ((i : ℕ) → p i ≡ false → f (new i) ≡ g i) → map f (map new l) ≡ map g l
  map_along f g [] e h = refl
  map_along f g (x ∷ l) e h = ap₂ (λ (a : A) (r : List A). a ∷ r) (h x (any_head p x l e)) (map_along f g l (any_rest p x l e) h)

  flat_along : (f g : ℕ → List A) (l : List ℕ) → any_of p l ≡ false → ((i : ℕ) → p i ≡ false → f (new i) ≡ g i) → flat_map f (map new l) ≡ flat_map g l
  unfolding flat_map
  flat_along f g [] e h = refl
  flat_along f g (x ∷ l) e h = ap₂ (λ (a : List A) (r : List A). a ++ r) (h x (any_head p x l e)) (flat_along f g l (any_rest p x l e) h)

module _ (s : List ℕ) where
  abbrev is_wrong : Met → Bool
  is_wrong x = is_above s x || is_other s x

  in_count : (k i : ℕ) → is_wrong (meet k i) ≡ false → i ≤ count s
  in_count k i e = ltb-false (count s) i (or_false_left (is_above s (meet k i)) (is_other s (meet k i)) e)

  of_kind : (k i : ℕ) → is_wrong (meet k i) ≡ false → kind_of s i ≡ k
  of_kind k i e = eqb-true (kind_of s i) k (not-false (eqb (kind_of s i) k) (or_false_right (is_above s (meet k i)) (is_other s (meet k i)) e))

  none_wrong : wrong_chains s ≡ false → any_of is_wrong (met s) ≡ false
  none_wrong e = any_or (is_above s) (is_other s) (met s) (right_inside s e) (right_kinds s e)

  states_right : wrong_chains s ≡ false → any_of (λ i. any_of is_wrong (met_alone 1 i)) (state_chain s) ≡ false
  unfolding met
  states_right e =
      sym (any_flat is_wrong (met_alone 1) (state_chain s))
      ∙ or_false_left (any_of is_wrong (flat_map (met_alone 1) (state_chain s))) (any_of is_wrong (flat_map (met_arrow s) (arrow_chain s)))
      (sym (any_join is_wrong (flat_map (met_alone 1) (state_chain s)) (flat_map (met_arrow s) (arrow_chain s))) ∙ none_wrong e)

  arrows_right : wrong_chains s ≡ false → any_of (λ i. any_of is_wrong (met_arrow s i)) (arrow_chain s) ≡ false
  unfolding met
  arrows_right e =
      sym (any_flat is_wrong (met_arrow s) (arrow_chain s))
      ∙ or_false_right (any_of is_wrong (flat_map (met_alone 1) (state_chain s))) (any_of is_wrong (flat_map (met_arrow s) (arrow_chain s)))
      (sym (any_join is_wrong (flat_map (met_alone 1) (state_chain s)) (flat_map (met_arrow s) (arrow_chain s))) ∙ none_wrong e)

  alone_right : (k i : ℕ) → any_of is_wrong (met_alone k i) ≡ false → is_wrong (meet k i) ≡ false
  alone_right k i e = any_head is_wrong (meet k i) [] e

  line_right : (i : ℕ) → any_of is_wrong (met_line s i) ≡ false → is_wrong (meet 3 i) ≡ false
  unfolding met_line
  line_right i e = any_head is_wrong (meet 3 i) (flat_map (met_alone 4) (text_chain s i)) e

  texts_right : (i : ℕ) → any_of is_wrong (met_line s i) ≡ false → any_of (λ j. any_of is_wrong (met_alone 4 j)) (text_chain s i) ≡ false
  unfolding met_line
  texts_right i e = sym (any_flat is_wrong (met_alone 4) (text_chain s i)) ∙ any_rest is_wrong (meet 3 i) (flat_map (met_alone 4) (text_chain s i)) e

  arrow_right : (i : ℕ) → any_of is_wrong (met_arrow s i) ≡ false → is_wrong (meet 2 i) ≡ false
  unfolding met_arrow
  arrow_right i e = any_head is_wrong (meet 2 i) (flat_map (met_line s) (line_chain s i)) e

  lines_right : (i : ℕ) → any_of is_wrong (met_arrow s i) ≡ false → any_of (λ j. any_of is_wrong (met_line s j)) (line_chain s i) ≡ false
  unfolding met_arrow
  lines_right i e = sym (any_flat is_wrong (met_line s) (line_chain s i)) ∙ any_rest is_wrong (meet 2 i) (flat_map (met_line s) (line_chain s i)) e

module _ (new : ℕ → ℕ) (s t : List ℕ) (r : Renumbered new s t) where
  -- the chain of t is that of s, renumbered
  chain_along : (n i : ℕ) → any_of (ltb (count s)) (chain_by s n i) ≡ false → chain_by t n (new i) ≡ map new (chain_by s n i)
  unfolding chain_by
  chain_along zero i e = refl
  chain_along (suc n) i e =
      by_bool (eqb i 0)
      (λ b. rw (b, eqb-true i 0 b, r.ends))
      (λ b.
      let z : i ≡ 0 → ⊥ = eqb-false i 0 b in
      let q : any_of (ltb (count s)) (i ∷ chain_by s n (next s i)) ≡ false = rw b at e in
      let h : i ≤ count s = ltb-false (count s) i (any_head (ltb (count s)) i (chain_by s n (next s i)) q) in
      rw (b, ne_eqb (new i) 0 (λ w. z (r.only i w)))
      (ap (λ (l : List ℕ). new i ∷ l)
      (ap (chain_by t n) (r.nexts i (omega arith) h) ∙ chain_along n (next s i) (any_rest (ltb (count s)) i (chain_by s n (next s i)) q))))

  -- a chain whose records bring nothing wrong; f is what meeting one brings, its own record first
  chain_is : (k : ℕ) (f : ℕ → List Met) (i j : ℕ) → ((x : ℕ) → any_of (is_wrong s) (f x) ≡ false → is_wrong s (meet k x) ≡ false)
      → any_of (λ x. any_of (is_wrong s) (f x)) (chain s i) ≡ false → j ≡ new i → chain t j ≡ map new (chain s i)
  chain_is k f i j h e q =
      rw (q, r.counts)
      (chain_along (count s + 1) i
      (any_narrower (ltb (count s)) (λ x. any_of (is_wrong s) (f x)) (chain s i)
      (λ x b. by_bool (any_of (is_wrong s) (f x)) (λ c. c) (λ c. clash b (or_false_left (ltb (count s) x) (is_other s (meet k x)) (h x c))))
      e))

  -- an element of a chain is no zero and brings nothing wrong
  abbrev passes : (ℕ → List Met) → ℕ → Bool
  passes f x = eqb 0 x || any_of (is_wrong s) (f x)

  some_one : (f : ℕ → List Met) (x : ℕ) → passes f x ≡ false → 1 ≤ x
  some_one f x e = let z : 0 ≡ x → ⊥ = eqb-false 0 x (or_false_left (eqb 0 x) (any_of (is_wrong s) (f x)) e) in omega arith

  all_pass : (f : ℕ → List Met) (i : ℕ) → any_of (λ x. any_of (is_wrong s) (f x)) (chain s i) ≡ false → any_of (passes f) (chain s i) ≡ false
  all_pass f i e = any_or (eqb 0) (λ x. any_of (is_wrong s) (f x)) (chain s i) (chain_nonzero s (count s + 1) i) e

  line_same : (i : ℕ) → 1 ≤ i → any_of (is_wrong s) (met_line s i) ≡ false → line_of t (new i) ≡ line_of s i
  unfolding line_of
  line_same i a e =
      let w = line_right s i e in
      let tx = texts_right s i e in
      ap (flat_map (piece t)) (chain_is 4 (met_alone 4) (first_text s i) (first_text t (new i)) (alone_right s 4) tx (r.texts i a (in_count s 3 i w) (of_kind s 3 i w)))
      ∙ flat_along new (passes (met_alone 4)) (piece t) (piece s) (text_chain s i) (all_pass (met_alone 4) (first_text s i) tx)
      (λ x b.
      let v = alone_right s 4 x (or_false_right (eqb 0 x) (any_of (is_wrong s) (met_alone 4 x)) b) in
      r.pieces x (some_one (met_alone 4) x b) (in_count s 4 x v) (of_kind s 4 x v))

  lines_same : (i j : ℕ) → any_of (λ x. any_of (is_wrong s) (met_line s x)) (chain s i) ≡ false → j ≡ new i → lines_from t j ≡ lines_from s i
  unfolding lines_from
  lines_same i j e q =
      ap (map (line_of t)) (chain_is 3 (met_line s) i j (line_right s) e q)
      ∙ map_along new (passes (met_line s)) (line_of t) (line_of s) (chain s i) (all_pass (met_line s) i e)
      (λ x b. line_same x (some_one (met_line s) x b) (or_false_right (eqb 0 x) (any_of (is_wrong s) (met_line s x)) b))

  arrow-same : (i : ℕ) → 1 ≤ i → any_of (is_wrong s) (met_arrow s i) ≡ false → arrow_of t (new i) ≡ arrow_of s i
  unfolding arrow_of
  arrow-same i a e =
      let w = arrow_right s i e in
      let c = in_count s 2 i w in
      let k = of_kind s 2 i w in
      rw (r.sources i a c k, r.targets i a c k, lines_same (first_line s i) (first_line t (new i)) (lines_right s i e) (r.lines i a c k))

  states-same : wrong_chains s ≡ false → states_of t ≡ states_of s
  unfolding states_of
  states-same e =
      let g = states_right s e in
      ap (map (state_of t)) (chain_is 1 (met_alone 1) (first_state s) (first_state t) (alone_right s 1) g r.states)
      ∙ map_along new (passes (met_alone 1)) (state_of t) (state_of s) (state_chain s) (all_pass (met_alone 1) (first_state s) g)
      (λ x b.
      let v = alone_right s 1 x (or_false_right (eqb 0 x) (any_of (is_wrong s) (met_alone 1 x)) b) in
      ap (λ (n : ℕ). record { flags = n }) (r.flags x (some_one (met_alone 1) x b) (in_count s 1 x v) (of_kind s 1 x v)))

  arrows-same : wrong_chains s ≡ false → arrows_of t ≡ arrows_of s
  unfolding arrows_of
  arrows-same e =
      let g = arrows_right s e in
      ap (map (arrow_of t)) (chain_is 2 (met_arrow s) (first_arrow s) (first_arrow t) (arrow_right s) g r.arrows)
      ∙ map_along new (passes (met_arrow s)) (arrow_of t) (arrow_of s) (arrow_chain s) (all_pass (met_arrow s) (first_arrow s) g)
      (λ x b. arrow-same x (some_one (met_arrow s) x b) (or_false_right (eqb 0 x) (any_of (is_wrong s) (met_arrow s x)) b))

  -- A sheet that passes the test of refusal 3, and is renumbered, means what it meant.
  pub meaning-same : wrong_chains s ≡ false → meaning t ≡ meaning s
  meaning-same e = ap₂ (λ (a : List State) (b : List Arrow). record { states = a; arrows = b }) (states-same e) (arrows-same e)
