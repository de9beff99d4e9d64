-- The graph that an accepted sheet means can be written, in no more records than the sheet has. Assumes nothing.
use Rattle.std.specs.Prelude.{◌≡◌, refl, Bool, cond, ◌||◌, ℕ, zero, suc, ◌+◌, ◌-◌, ◌*◌, ◌≤◌, ◌<◌, eqb, drop}
use Rattle.std.proofs.Math.Path.{sym}
use Rattle.std.proofs.Common.{ap, ◌∙◌, length-drop, length-take, ltb-false, le-ltb, eqb-true}
use Rattle.std.proofs.Math.Bool.{false}
use mathlib.Core.List.{List, [], ◌∷◌, map, flat_map}
use native.Mathlib.Omega.{arith}
use Rattle.std.proofs.Math.Dec.{ltb}
use Rattle.std.proofs.Math.ListN.{length, length-append, length-map}
use Rattle.std.proofs.lemmas.Bool.{not-false}
use Rattle.laws.specs.Cases.{by_bool}
use Rattle.laws.specs.Loops.{any_up}
use Rattle.sheet.specs.Sheet.{version, count, kind_of, byte_one, piece, state_chain, arrow_chain, line_chain, text_chain, Met, meet, met_alone, met_line, met_arrow, met, line_of, lines_from, arrow_of, state_of, states_of, arrows_of, meaning}
use Rattle.sheet.specs.Refusals.{refusals, wrong_version, wrong_chains, is_above, is_other, some_set, wrong_record, wrong_bytes}
use Rattle.laws.specs.Any.{any_of, any_here, any_head, any_rest, any_or, any_join, any_narrower, any_flat, any_map, none_up}
use Rattle.laws.specs.Bools.{clash, or_false_left, or_false_right}
use Rattle.sheet.specs.Once.{right_inside, right_kinds}
use Rattle.sheet.specs.Whole.{met-length}
use Rattle.sheet.specs.Accepted.{few, Within}
use Rattle.laws.specs.Refusals.{Clear}
use Rattle.sheet.specs.declared.Limits.{Limits}
use Rattle.encode.specs.Encode.{space_of, state_size, piece_size, pieces_by, pieces, line_size, arrow_size, records_for}
use Rattle.encode.specs.Flags.{flags_above, each_below_lem}
use Rattle.encode.specs.Accepts.{Encodable}

-- ---- no fewer pieces will do: bytes that n pieces of at most 12 can hold are written in at most n
by_least : (m n : ℕ) (l : List ℕ) → length l ≤ 12 * n → length (pieces_by m l) ≤ n
unfolding pieces_by
by_least zero n l h = omega arith
by_least (suc m) n [] h = omega arith
by_least (suc m) zero (b ∷ l) h = absurd (omega arith)
by_least (suc m) (suc n) (b ∷ l) h =
    let e : length (drop 12 (b ∷ l)) ≡ length (b ∷ l) - 12 = length-drop 12 (b ∷ l) in
    let r : length (pieces_by m (drop 12 (b ∷ l))) ≤ n = by_least m n (drop 12 (b ∷ l)) (omega arith) in
    omega arith

pieces_least : (n : ℕ) (l : List ℕ) → length l ≤ 12 * n → length (pieces l) ≤ n
pieces_least n l h = by_least (length l) n l h

-- things that take a record each
pub space_one : {A : Type 0} (l : List A) → space_of (λ x. 1) l ≡ length l
unfolding space_of
space_one {A} [] = refl
space_one {A} (x ∷ l) = let e : space_of {A = A} (λ x. 1) l ≡ length l = space_one l in omega arith

module _ {A : Type 0} (size : A → ℕ) (v : ℕ → A) (f : ℕ → List Met) (bad : ℕ → Bool) (t : (i : ℕ) → bad i ≡ false → size (v i) ≤ length (f i)) where
  space_le : (l : List ℕ) → any_of bad l ≡ false → space_of size (map v l) ≤ length (flat_map f l)
  unfolding space_of flat_map
  space_le [] b = omega arith
  space_le (i ∷ l) b =
      let p : size (v i) ≤ length (f i) = t i (any_head bad i l b) in
      let q : space_of size (map v l) ≤ length (flat_map f l) = space_le l (any_rest bad i l b) in
      rw (length-append (f i) (flat_map f l)) (omega arith)

alone_length : (k : ℕ) (l : List ℕ) → length (flat_map (met_alone k) l) ≡ length l
unfolding flat_map
alone_length k [] = refl
alone_length k (i ∷ l) = ap suc (alone_length k l)

joined-short : (s : List ℕ) (l : List ℕ) → any_of (λ k. ltb 12 (length (piece s k))) l ≡ false → length (flat_map (piece s) l) ≤ 12 * length l
unfolding flat_map
joined-short s [] b = omega arith
joined-short s (k ∷ l) b =
    let p : length (piece s k) ≤ 12 = ltb-false 12 (length (piece s k)) (any_head (λ j. ltb 12 (length (piece s j))) k l b) in
    let q : length (flat_map (piece s) l) ≤ 12 * length l = joined-short s l (any_rest (λ j. ltb 12 (length (piece s j))) k l b) in
    rw (length-append (piece s k) (flat_map (piece s) l)) (omega arith)

-- ---- what the records met are
-- a state whose flags are too large, a text whose piece is too long
abbrev large_flags : List ℕ → Met → Bool
large_flags s x = cond (eqb x.kind 1) (ltb 3 (byte_one s x.index)) false

state_right : (s : List ℕ) (k : ℕ) → kind_of s k ≡ 1 → wrong_record s k ≡ false → (ltb 3 (byte_one s k) || some_set s (16 * k + 4) (16 * k + 16)) ≡ false
unfolding wrong_record
state_right s k q e = rw q at e

text_right : (s : List ℕ) (k : ℕ) → kind_of s k ≡ 4 → wrong_record s k ≡ false → (ltb 12 (byte_one s k) || some_set s (16 * k + 4 + byte_one s k) (16 * k + 16)) ≡ false
unfolding wrong_record
text_right s k q e = or_false_right (ltb (byte_one s k) 1) (ltb 12 (byte_one s k) || some_set s (16 * k + 4 + byte_one s k) (16 * k + 16)) (rw q at e)

abbrev long_text : List ℕ → Met → Bool
long_text s x = cond (eqb x.kind 4) (ltb 12 (length (piece s x.index))) false

-- where the causes of 2, 4 and 3 do not hold
module _ (s : List ℕ) (first : wrong_version s ≡ false) (plain : wrong_bytes s ≡ false) (chained : wrong_chains s ≡ false) where
  -- a test that fails of every record met in a chain of its kind fails of all met
  met_none : (p : Met → Bool) → ((k i : ℕ) → i ≤ count s → kind_of s i ≡ k → p (meet k i) ≡ false) → any_of p (met s) ≡ false
  met_none p t =
      any_narrower p (λ x. is_above s x || is_other s x) (met s)
      (λ x h. by_bool (is_above s x || is_other s x) (λ c. c)
      (λ c. clash h
      (t x.kind x.index (ltb-false (count s) x.index (or_false_left (is_above s x) (is_other s x) c))
      (eqb-true (kind_of s x.index) x.kind (not-false (eqb (kind_of s x.index) x.kind) (or_false_right (is_above s x) (is_other s x) c))))))
      (any_or (is_above s) (is_other s) (met s) (right_inside s chained) (right_kinds s chained))

  version_one : version s ≡ 1
  version_one = eqb-true (version s) 1 (not-false (eqb (version s) 1) first)

  record_right : (i : ℕ) → 1 ≤ i → i ≤ count s → wrong_record s i ≡ false
  unfolding wrong_bytes
  record_right i a b = none_up (wrong_record s) 1 (count s + 1) i (or_false_right (some_set s 8 16) (any_up (wrong_record s) 1 (count s + 1)) plain) a (omega arith)

  flags-small : (i : ℕ) → i ≤ count s → kind_of s i ≡ 1 → ltb 3 (byte_one s i) ≡ false
  flags-small zero b q = let v : version s ≡ 1 = version_one in le-ltb 3 (byte_one s 0) (omega arith)
  flags-small (suc i) b q = or_false_left (ltb 3 (byte_one s (suc i))) (some_set s (16 * suc i + 4) (16 * suc i + 16)) (state_right s (suc i) q (record_right (suc i) (omega arith) b))

  text_few : (i : ℕ) → i ≤ count s → kind_of s i ≡ 4 → ltb 12 (length (piece s i)) ≡ false
  text_few zero b q = let v : version s ≡ 1 = version_one in absurd (omega arith)
  text_few (suc i) b q =
      let k = suc i in
      let y : byte_one s k ≤ 12 =
      ltb-false 12 (byte_one s k) (or_false_left (ltb 12 (byte_one s k)) (some_set s (16 * k + 4 + byte_one s k) (16 * k + 16)) (text_right s k q (record_right k (omega arith) b))) in
      le-ltb 12 (length (piece s k)) (rw (length-take (byte_one s k) (drop (16 * k + 4) s)) (omega arith))

  met-flags : any_of (large_flags s) (met s) ≡ false
  met-flags = met_none (large_flags s) (λ k i b q. by_bool (eqb k 1) (λ t. rw t (flags-small i b (q ∙ eqb-true k 1 t))) (λ t. rw t))

  met_texts : any_of (long_text s) (met s) ≡ false
  met_texts = met_none (long_text s) (λ k i b q. by_bool (eqb k 4) (λ t. rw t (text_few i b (q ∙ eqb-true k 4 t))) (λ t. rw t))

  -- ---- flags
  of_states : (p : Met → Bool) → any_of p (met s) ≡ false → any_of p (flat_map (met_alone 1) (state_chain s)) ≡ false
  unfolding met
  of_states p e = or_false_left (any_of p (flat_map (met_alone 1) (state_chain s))) (any_of p (flat_map (met_arrow s) (arrow_chain s))) (sym (any_join p (flat_map (met_alone 1) (state_chain s)) (flat_map (met_arrow s) (arrow_chain s))) ∙ e)

  of_arrows : (p : Met → Bool) → any_of p (met s) ≡ false → any_of p (flat_map (met_arrow s) (arrow_chain s)) ≡ false
  unfolding met
  of_arrows p e = or_false_right (any_of p (flat_map (met_alone 1) (state_chain s))) (any_of p (flat_map (met_arrow s) (arrow_chain s))) (sym (any_join p (flat_map (met_alone 1) (state_chain s)) (flat_map (met_arrow s) (arrow_chain s))) ∙ e)

  flags_right : any_of (flags_above 3) (states_of s) ≡ false
  unfolding states_of
  flags_right =
      any_map (flags_above 3) (state_of s) (state_chain s)
      ∙ any_narrower (λ i. ltb 3 (byte_one s i)) (λ i. any_of (large_flags s) (met_alone 1 i)) (state_chain s) (λ i h. any_here (large_flags s) (meet 1 i) [] h)
      (sym (any_flat (large_flags s) (met_alone 1) (state_chain s)) ∙ of_states (large_flags s) met-flags)

  -- ---- records
  line_fewer : (i : ℕ) → any_of (long_text s) (met_line s i) ≡ false → line_size (line_of s i) ≤ length (met_line s i)
  unfolding met_line line_of
  line_fewer i b =
      let c = text_chain s i in
      let r : any_of (λ k. ltb 12 (length (piece s k))) c ≡ false =
      any_narrower (λ k. ltb 12 (length (piece s k))) (λ k. any_of (long_text s) (met_alone 4 k)) c (λ k h. any_here (long_text s) (meet 4 k) [] h)
      (sym (any_flat (long_text s) (met_alone 4) c) ∙ any_rest (long_text s) (meet 3 i) (flat_map (met_alone 4) c) b) in
      let q : length (pieces (flat_map (piece s) c)) ≤ length c = pieces_least (length c) (flat_map (piece s) c) (joined-short s c r) in
      let a : length (flat_map (met_alone 4) c) ≡ length c = alone_length 4 c in
      let z : space_of piece_size (pieces (flat_map (piece s) c)) ≡ length (pieces (flat_map (piece s) c)) = space_one (pieces (flat_map (piece s) c)) in
      omega arith

  arrow_fewer : (i : ℕ) → any_of (long_text s) (met_arrow s i) ≡ false → arrow_size (arrow_of s i) ≤ length (met_arrow s i)
  unfolding met_arrow arrow_of lines_from
  arrow_fewer i b =
      let c = line_chain s i in
      let q : space_of line_size (map (line_of s) c) ≤ length (flat_map (met_line s) c) =
      space_le line_size (line_of s) (met_line s) (λ k. any_of (long_text s) (met_line s k)) line_fewer c
      (sym (any_flat (long_text s) (met_line s) c) ∙ any_rest (long_text s) (meet 2 i) (flat_map (met_line s) c) b) in
      omega arith

  arrows_fewer : space_of arrow_size (arrows_of s) ≤ length (flat_map (met_arrow s) (arrow_chain s))
  unfolding arrows_of
  arrows_fewer =
      space_le arrow_size (arrow_of s) (met_arrow s) (λ k. any_of (long_text s) (met_arrow s k)) arrow_fewer (arrow_chain s)
      (sym (any_flat (long_text s) (met_arrow s) (arrow_chain s)) ∙ of_arrows (long_text s) met_texts)

  states_fewer : space_of state_size (states_of s) ≡ length (flat_map (met_alone 1) (state_chain s))
  unfolding states_of
  states_fewer = space_one (map (state_of s) (state_chain s)) ∙ length-map (state_chain s) (state_of s) ∙ sym (alone_length 1 (state_chain s))

  met-both : length (met s) ≡ length (flat_map (met_alone 1) (state_chain s)) + length (flat_map (met_arrow s) (arrow_chain s))
  unfolding met
  met-both = length-append (flat_map (met_alone 1) (state_chain s)) (flat_map (met_arrow s) (arrow_chain s))

  pub records_fewer : records_for (meaning s) ≤ count s
  records_fewer =
      let a : space_of arrow_size (arrows_of s) ≤ length (flat_map (met_arrow s) (arrow_chain s)) = arrows_fewer in
      let b : space_of state_size (states_of s) ≡ length (flat_map (met_alone 1) (state_chain s)) = states_fewer in
      let c : length (met s) ≡ length (flat_map (met_alone 1) (state_chain s)) + length (flat_map (met_arrow s) (arrow_chain s)) = met-both in
      let d : length (met s) ≡ count s = met-length s chained in
      omega arith

-- what a sheet means that a screen accepts, can be written for it
pub meaning_encodable : (m : Limits) (s : List ℕ) → Clear (refusals m s) → Within m (meaning s) → Encodable m (meaning s)
meaning_encodable m s c i =
    let a : records_for (meaning s) ≤ count s = records_fewer s (c.none 2) (c.none 4) (c.none 3) in
    let b : count s < 4096 = few s (c.none 1) in
    record { within = i; flags = each_below_lem 3 (meaning s) (flags_right s (c.none 2) (c.none 4) (c.none 3)); few = omega arith }
