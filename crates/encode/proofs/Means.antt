-- A graph's sheet means the graph. Assumes nothing.
use Rattle.std.specs.Prelude.{◌≡◌, Bool, false, ℕ, ◌+◌, ◌-◌, ◌*◌, ◌≤◌}
use Rattle.std.proofs.Math.Path.{refl, sym, ap}
use Rattle.std.proofs.Common.{ap₂, ◌∙◌, arith}
use mathlib.Core.List.{List, [], ◌++◌, map, flat_map, append_assoc, append-nil, map-id}
use Rattle.std.proofs.Math.ListN.{length, length-append}
use Rattle.std.proofs.Math.Seq.{take-append_seam}
use Rattle.sheet.specs.Sheet.{count, first_state, first_arrow, first_line, first_text, from_of, to_of, piece, chain_by, chain, State, Arrow, Graph, line_of, lines_from, arrow_of, state_of, states_of, arrows_of, meaning}
use Rattle.laws.specs.Any.{any_of}
use Rattle.sheet.specs.Records.{header, arrow_bytes, line_bytes, zeros}
use Rattle.encode.specs.Encode.{first_index, space_of, all_records, state_size, piece_size, pieces, state_records, piece_records, line_records, arrow_records, line_size, arrow_size, records_for, arrows_from, encode}
use Rattle.encode.specs.Blocks.{StandsAt, at_left, at_right, at_drop, at_byte, at-word, u16_back, beginnings, InRecords, all-length, all_fits, all-chain, all_map, all_flat}
use Rattle.encode.specs.Kinds.{never, any_never, bad_piece, pieces_good, pieces_join, state_form, piece_form, line_form, arrow_form}

-- ---- in a sheet of right length
module _ (s : List ℕ) (e : length s ≡ 16 * (1 + count s)) where
  -- a chain that begins where a list was written meets its elements, and ends
  pub chain_is : {A : Type 0} {size : A → ℕ} {write : ℕ → ℕ → A → List ℕ} {bad : A → Bool} (y : InRecords size write bad) (i k : ℕ) (l : List A)
      → i ≡ first_index k l → 1 ≤ k → any_of bad l ≡ false → StandsAt s k (all_records size write k l) → chain s i ≡ beginnings size k l
  chain_is y i k l q h b a =
      let f : length l ≤ count s = all_fits y s (count s) k l e h b a in
      ap (chain_by s (count s + 1)) q ∙ all-chain y s (count s + 1) k l h (omega arith) b a

  module _ (k n : ℕ) (l : List ℕ) (a : StandsAt s k (line_records k n l)) where
    pub line-head : StandsAt s k (line_bytes n (first_index (k + 1) (pieces l)))
    unfolding line_records
    line-head = at_left (line_bytes n (first_index (k + 1) (pieces l))) (all_records piece_size piece_records (k + 1) (pieces l)) a

    pub line-rest : StandsAt s (k + 1) (all_records piece_size piece_records (k + 1) (pieces l))
    unfolding line_records
    line-rest = at_right 1 (line_bytes n (first_index (k + 1) (pieces l))) (all_records piece_size piece_records (k + 1) (pieces l)) refl a

    pub line-chain : chain s (first_text s k) ≡ beginnings piece_size (k + 1) (pieces l)
    line-chain = chain_is piece_form (first_text s k) (k + 1) (pieces l) (at-word 4 line-head ∙ u16_back (first_index (k + 1) (pieces l))) (omega arith) (pieces_good l) line-rest

  module _ (k n : ℕ) (x : Arrow) (a : StandsAt s k (arrow_records k n x)) where
    pub arrow-head : StandsAt s k (arrow_bytes n x.source x.target (first_index (k + 1) x.lines))
    unfolding arrow_records
    arrow-head = at_left (arrow_bytes n x.source x.target (first_index (k + 1) x.lines)) (all_records line_size line_records (k + 1) x.lines) a

    pub arrow-rest : StandsAt s (k + 1) (all_records line_size line_records (k + 1) x.lines)
    unfolding arrow_records
    arrow-rest = at_right 1 (arrow_bytes n x.source x.target (first_index (k + 1) x.lines)) (all_records line_size line_records (k + 1) x.lines) refl a

    pub arrow-chain : chain s (first_line s k) ≡ beginnings line_size (k + 1) x.lines
    arrow-chain = chain_is line_form (first_line s k) (k + 1) x.lines (at-word 8 arrow-head ∙ u16_back (first_index (k + 1) x.lines)) (omega arith) (any_never x.lines) arrow-rest

  piece_is : (k n : ℕ) (p : List ℕ) → 1 ≤ k → bad_piece p ≡ false → StandsAt s k (piece_records k n p) → piece s k ≡ p
  piece_is k n p h b a = rw (at_byte 1 a, at_drop 4 a, append_assoc p (zeros (12 - length p)) a.rest) (take-append_seam p (zeros (12 - length p) ++ a.rest))

  line_is : (k n : ℕ) (l : List ℕ) → 1 ≤ k → never l ≡ false → StandsAt s k (line_records k n l) → line_of s k ≡ l
  unfolding line_of
  line_is k n l h b a =
      ap (flat_map (piece s)) (line-chain k n l a)
      ∙ all_flat piece_form s (piece s) (λ p. p) piece_is (k + 1) (pieces l) (omega arith) (pieces_good l) (line-rest k n l a)
      ∙ pieces_join l

  lines_are : (k n : ℕ) (x : Arrow) → StandsAt s k (arrow_records k n x) → lines_from s (first_line s k) ≡ x.lines
  unfolding lines_from
  lines_are k n x a =
      ap (map (line_of s)) (arrow-chain k n x a)
      ∙ all_map line_form s (line_of s) (λ l. l) line_is (k + 1) x.lines (omega arith) (any_never x.lines) (arrow-rest k n x a)
      ∙ map-id x.lines

  arrow_is : (k n : ℕ) (x : Arrow) → 1 ≤ k → never x ≡ false → StandsAt s k (arrow_records k n x) → arrow_of s k ≡ x
  unfolding arrow_of
  arrow_is k n x h b a =
      let f : from_of s k ≡ x.source = at-word 4 (arrow-head k n x a) ∙ u16_back x.source in
      let t : to_of s k ≡ x.target = at-word 6 (arrow-head k n x a) ∙ u16_back x.target in
      rw (f, t, lines_are k n x a)

  states_are : (l : List State) → first_state s ≡ first_index 1 l → StandsAt s 1 (all_records state_size state_records 1 l) → states_of s ≡ l
  unfolding states_of
  states_are l q a =
      ap (map (state_of s)) (chain_is (state_form never) (first_state s) 1 l q (omega arith) (any_never l) a)
      ∙ all_map (state_form never) s (state_of s) (λ x. x) (λ k n x h b t. ap (λ (f : ℕ). record { flags = f }) (at_byte 1 t)) 1 l (omega arith) (any_never l) a
      ∙ map-id l

  arrows_are : (k : ℕ) (l : List Arrow) → 1 ≤ k → first_arrow s ≡ first_index k l → StandsAt s k (all_records arrow_size arrow_records k l) → arrows_of s ≡ l
  unfolding arrows_of
  arrows_are k l h q a =
      ap (map (arrow_of s)) (chain_is arrow_form (first_arrow s) k l q h (any_never l) a)
      ∙ all_map arrow_form s (arrow_of s) (λ x. x) arrow_is k l h (any_never l) a
      ∙ map-id l

-- ---- in the sheet of a graph
module _ (g : Graph) where
  abbrev head : List ℕ
  head = header (records_for g) (first_index 1 g.states) (first_index (arrows_from g) g.arrows)

  abbrev states : List ℕ
  states = all_records state_size state_records 1 g.states

  abbrev arrows : List ℕ
  arrows = all_records arrow_size arrow_records (arrows_from g) g.arrows

  whole-at : StandsAt (encode g) 0 (head ++ (states ++ arrows))
  unfolding encode
  whole-at = record { rest = []; here = sym (append-nil (head ++ (states ++ arrows))) }

  pub head_at : StandsAt (encode g) 0 head
  head_at = at_left head (states ++ arrows) whole-at

  both_at : StandsAt (encode g) 1 (states ++ arrows)
  both_at = at_right 1 head (states ++ arrows) refl whole-at

  states-length : length states ≡ 16 * space_of state_size g.states
  states-length = all-length (state_form never) 1 g.states (any_never g.states)

  pub states-at : StandsAt (encode g) 1 states
  states-at = at_left states arrows both_at

  pub arrows-at : StandsAt (encode g) (arrows_from g) arrows
  arrows-at = at_right (space_of state_size g.states) states arrows states-length both_at

  pub count_is : count (encode g) ≡ records_for g
  count_is = at-word 2 head_at ∙ u16_back (records_for g)

  -- The sheet has its header and as many records as its count says.
  pub encode-length : length (encode g) ≡ 16 * (1 + records_for g)
  unfolding encode
  encode-length =
      let a : length arrows ≡ 16 * space_of arrow_size g.arrows = all-length arrow_form (arrows_from g) g.arrows (any_never g.arrows) in
      let b = states-length in
      rw (length-append head (states ++ arrows), length-append states arrows) (omega arith)

  pub encode_right : length (encode g) ≡ 16 * (1 + count (encode g))
  encode_right = rw count_is encode-length

  -- The sheet of a graph means the graph.
  pub meaning-encode : meaning (encode g) ≡ g
  meaning-encode =
      ap₂ (λ (a : List State) (b : List Arrow). record { states = a; arrows = b })
      (states_are (encode g) encode_right g.states (at-word 4 head_at ∙ u16_back (first_index 1 g.states)) states-at)
      (arrows_are (encode g) encode_right (arrows_from g) g.arrows (omega arith) (at-word 6 head_at ∙ u16_back (first_index (arrows_from g) g.arrows)) arrows-at)
