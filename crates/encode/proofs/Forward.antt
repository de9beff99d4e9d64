-- 'full pieces of 12 bytes first. Next indices point forward', and an arrow's lines and a line's pieces follow it at once. Assumes nothing.
use Rattle.std.specs.Prelude.{◌≡◌, false, List, [], ◌∷◌, map, ℕ, suc, ◌+◌, ◌*◌, ◌≤◌, ◌<◌, length, get_or}
use Rattle.std.proofs.Common.{sym, ap, ◌∙◌, arith}
use Rattle.std.proofs.lemmas.List.{length-map}
use Rattle.laws.specs.Lists.{map_at}
use Rattle.sheet.specs.Sheet.{count, kind_of, next, first_line, first_text, byte_one, text_chain, State, Arrow, Graph}
use Rattle.sheet.specs.Records.{arrow_bytes, text_bytes}
use Rattle.encode.specs.Encode.{first_index, space_of, state_size, piece_size, pieces, state_records, line_records, arrow_records, line_size, arrow_size, records_for, arrows_from, encode}
use Rattle.encode.specs.Blocks.{StandsAt, at_kind, at_byte, at-word, u16_back, Ahead, Throughout, throughout_one, throughout_join, all_map, all_throughout}
use Rattle.encode.specs.Kinds.{never, any_never, pieces_good, state_form, piece_form, line_form, arrow_form}
use Rattle.encode.specs.Pieces.{pieces_full}
use Rattle.encode.proofs.Means.{line-head, line-rest, line-chain, arrow-head, arrow-rest, states-at, arrows-at, encode_right}
use Rattle.encode.specs.Forward.{Forward, FullFirst}

record Linked (s : List ℕ) (k : ℕ) : Type 0 where
  points : Forward s k
  full : FullFirst s k

first_next : {A : Type 0} (k i : ℕ) (l : List A) → i ≡ first_index (k + 1) l → (i ≡ 0 → ⊥) → i ≡ k + 1
first_next k i [] e z = absurd (z e)
first_next k i (x ∷ l) e z = e

ahead_by : (k n i : ℕ) → i ≡ n → Ahead k n → Ahead k i
ahead_by k n i e h z = let r : k < n = h (λ q. z (e ∙ q)) in omega arith

module _ (s : List ℕ) (k n : ℕ) (h : Ahead k n) where
  state_linked : (x : State) → StandsAt s k (state_records k n x) → Linked s k
  state_linked x a =
      let q : kind_of s k ≡ 1 = at_kind a in
      record {
        points = record { onward = ahead_by k n (next s k) (at-word 2 a ∙ u16_back n) h; lines = λ c z. absurd (omega arith); texts = λ c z. absurd (omega arith) };
        full = λ c. absurd (omega arith);
      }

  piece_linked : (p : List ℕ) → StandsAt s k (text_bytes n p) → Linked s k
  piece_linked p a =
      let q : kind_of s k ≡ 4 = at_kind a in
      record {
        points = record { onward = ahead_by k n (next s k) (at-word 2 a ∙ u16_back n) h; lines = λ c z. absurd (omega arith); texts = λ c z. absurd (omega arith) };
        full = λ c. absurd (omega arith);
      }

  arrow_linked : {A : Type 0} (f t : ℕ) (l : List A) → StandsAt s k (arrow_bytes n f t (first_index (k + 1) l)) → Linked s k
  arrow_linked f t l a =
      let q : kind_of s k ≡ 2 = at_kind a in
      record {
        points = record {
          onward = ahead_by k n (next s k) (at-word 2 a ∙ u16_back n) h;
          lines = λ c z. first_next k (first_line s k) l (at-word 8 a ∙ u16_back (first_index (k + 1) l)) z;
          texts = λ c z. absurd (omega arith);
        };
        full = λ c. absurd (omega arith);
      }

module _ (s : List ℕ) (e : length s ≡ 16 * (1 + count s)) where
  line_full : (k n : ℕ) (l : List ℕ) → StandsAt s k (line_records k n l) → (j : ℕ) → suc j < length (text_chain s k) → byte_one s (get_or (text_chain s k) j 0) ≡ 12
  line_full k n l a j h =
      let c = text_chain s k in
      let ps = pieces l in
      let q : map (byte_one s) c ≡ map length ps =
      ap (map (byte_one s)) (line-chain s e k n l a)
      ∙ all_map piece_form s (byte_one s) length (λ i m p g b t. at_byte 1 t) (k + 1) ps (omega arith) (pieces_good l) (line-rest s e k n l a) in
      let z : length c ≡ length ps = sym (length-map c (byte_one s)) ∙ ap length q ∙ length-map ps length in
      map_at (byte_one s) c j 0 0 (omega arith) ∙ ap (λ (v : List ℕ). get_or v j 0) q ∙ sym (map_at length ps j [] 0 (omega arith)) ∙ pieces_full l j (omega arith)

  line_linked : (k n : ℕ) (l : List ℕ) → Ahead k n → StandsAt s k (line_records k n l) → Linked s k
  line_linked k n l h a =
      let t = line-head s e k n l a in
      let q : kind_of s k ≡ 3 = at_kind t in
      record {
        points = record {
          onward = ahead_by k n (next s k) (at-word 2 t ∙ u16_back n) h;
          lines = λ c z. absurd (omega arith);
          texts = λ c z. first_next k (first_text s k) (pieces l) (at-word 4 t ∙ u16_back (first_index (k + 1) (pieces l))) z;
        };
        full = λ c. line_full k n l a;
      }

  lines_linked : (k n : ℕ) (l : List ℕ) → never l ≡ false → Ahead k n → StandsAt s k (line_records k n l) → Throughout (Linked s) k (line_size l)
  lines_linked k n l b h a =
      throughout_join (Linked s) k 1 (space_of piece_size (pieces l)) (throughout_one (Linked s) k (line_linked k n l h a))
      (all_throughout piece_form s (Linked s) (λ i m p c z t. throughout_one (Linked s) i (piece_linked s i m z p t)) (k + 1) (pieces l) (pieces_good l) (line-rest s e k n l a))

  arrows_linked : (k n : ℕ) (x : Arrow) → never x ≡ false → Ahead k n → StandsAt s k (arrow_records k n x) → Throughout (Linked s) k (arrow_size x)
  arrows_linked k n x b h a =
      throughout_join (Linked s) k 1 (space_of line_size x.lines) (throughout_one (Linked s) k (arrow_linked s k n h x.source x.target x.lines (arrow-head s e k n x a)))
      (all_throughout line_form s (Linked s) lines_linked (k + 1) x.lines (any_never x.lines) (arrow-rest s e k n x a))

linked : (g : Graph) (k : ℕ) → 1 ≤ k → k ≤ records_for g → Linked (encode g) k
linked g k a b =
    let s = encode g in
    throughout_join (Linked s) 1 (space_of state_size g.states) (space_of arrow_size g.arrows)
    (all_throughout (state_form never) s (Linked s) (λ i m x c z t. throughout_one (Linked s) i (state_linked s i m z x t)) 1 g.states (any_never g.states) (states-at g))
    (all_throughout arrow_form s (Linked s) (arrows_linked s (encode_right g)) (arrows_from g) g.arrows (any_never g.arrows) (arrows-at g))
    k a (omega arith)

-- Every index in a record of a graph's sheet points forward.
pub forward : (g : Graph) (k : ℕ) → 1 ≤ k → k ≤ records_for g → Forward (encode g) k
forward g k a b = (linked g k a b).points

-- The pieces of its lines are full but for the last.
pub full_first : (g : Graph) (k : ℕ) → 1 ≤ k → k ≤ records_for g → FullFirst (encode g) k
full_first g k a b = (linked g k a b).full
