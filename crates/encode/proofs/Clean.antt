-- No byte of a graph's sheet refuses it: kinds, flags, text counts, and zeros where no byte is named. Assumes nothing.
use Rattle.std.specs.Prelude.{◌≡◌, false, ◌||◌, ℕ, ◌+◌, ◌-◌, ◌*◌, ◌≤◌, ltb, get_or}
use Rattle.std.proofs.Math.Path.{sym, ap}
use Rattle.std.proofs.Common.{◌∙◌, arith, get_or-drop, drop-drop, le-ltb}
use mathlib.Core.List.{List, ◌++◌, append_assoc}
use Rattle.std.proofs.Math.ListN.{length, drop, get_or-append}
use Rattle.std.proofs.lemmas.List.{length-replicate, get_or-replicate}
use Rattle.std.proofs.Math.Seq.{drop-append_seam}
use Rattle.laws.specs.Loops.{any_up}
use Rattle.sheet.specs.Sheet.{byte_at, count, State, Arrow, Graph}
use Rattle.sheet.specs.Refusals.{is_set, some_set, wrong_record, wrong_bytes}
use Rattle.laws.specs.Any.{any_of, up_none}
use Rattle.laws.specs.Bools.{or_none}
use Rattle.sheet.specs.Records.{arrow_bytes, line_bytes, text_bytes, zeros}
use Rattle.encode.specs.Encode.{first_index, space_of, state_size, piece_size, pieces, state_records, line_records, arrow_records, line_size, arrow_size, records_for, arrows_from, encode}
use Rattle.encode.specs.Flags.{flags_above}
use Rattle.encode.specs.Blocks.{StandsAt, at_drop, at_byte, at_kind, Ahead, Throughout, throughout_one, throughout_join, all_throughout}
use Rattle.encode.specs.Kinds.{never, any_never, bad_piece, piece_some, piece_few, pieces_good, state_form, piece_form, line_form, arrow_form}
use Rattle.encode.proofs.Means.{line-head, line-rest, arrow-head, arrow-rest, head_at, states-at, arrows-at, count_is, encode_right}

-- zeros that stand from byte i on
unset : (s : List ℕ) (i e n : ℕ) (r : List ℕ) → drop i s ≡ zeros n ++ r → e ≤ i + n → some_set s i e ≡ false
unfolding is_set
unset s i e n r q h =
    up_none (is_set s) i e
    (λ j a b.
    let d : i + (j - i) ≡ j = omega arith in
    let z : byte_at s (i + (j - i)) ≡ 0 =
    sym (get_or-drop i s (j - i) 0) ∙ ap (λ (l : List ℕ). get_or l (j - i) 0) q
    ∙ get_or-append (zeros n) r 0 (j - i) (rw (length-replicate {A = ℕ} n 0) (omega arith)) ∙ get_or-replicate n (j - i) 0 0 (omega arith) in
    let w : byte_at s j ≡ 0 = ap (byte_at s) (sym d) ∙ z in
    rw w)

module _ (s : List ℕ) (k n : ℕ) where
  state_clean : (x : State) → flags_above 3 x ≡ false → StandsAt s k (state_records k n x) → wrong_record s k ≡ false
  unfolding wrong_record
  state_clean x b a =
      rw (at_kind a, at_byte 1 a)
      (or_none (ltb 3 x.flags) (some_set s (16 * k + 4) (16 * k + 16)) b (unset s (16 * k + 4) (16 * k + 16) 12 a.rest (at_drop 4 a) (omega arith)))

  arrow_clean : (f t i : ℕ) → StandsAt s k (arrow_bytes n f t i) → wrong_record s k ≡ false
  unfolding wrong_record
  arrow_clean f t i a =
      rw (at_kind a, at_byte 1 a) (unset s (16 * k + 10) (16 * k + 16) 6 a.rest (at_drop 10 a) (omega arith))

  line_clean : (i : ℕ) → StandsAt s k (line_bytes n i) → wrong_record s k ≡ false
  unfolding wrong_record
  line_clean i a =
      rw (at_kind a, at_byte 1 a) (unset s (16 * k + 6) (16 * k + 16) 10 a.rest (at_drop 6 a) (omega arith))

  piece_clean : (p : List ℕ) → bad_piece p ≡ false → StandsAt s k (text_bytes n p) → wrong_record s k ≡ false
  unfolding wrong_record
  piece_clean p b a =
      let lo : 1 ≤ length p = piece_some p b in
      let hi : length p ≤ 12 = piece_few p b in
      let m = length p in
      let z : drop (16 * k + 4 + m) s ≡ zeros (12 - m) ++ a.rest =
      sym (drop-drop m (16 * k + 4) s) ∙ ap (drop m) (at_drop 4 a ∙ append_assoc p (zeros (12 - m)) a.rest) ∙ drop-append_seam p (zeros (12 - m) ++ a.rest) in
      rw (at_kind a, at_byte 1 a)
      (or_none (ltb m 1) (ltb 12 m || some_set s (16 * k + 4 + m) (16 * k + 16)) (le-ltb m 1 lo)
      (or_none (ltb 12 m) (some_set s (16 * k + 4 + m) (16 * k + 16)) (le-ltb 12 m hi) (unset s (16 * k + 4 + m) (16 * k + 16) (12 - m) a.rest z (omega arith))))

abbrev Right : List ℕ → ℕ → Type 0
Right s k = wrong_record s k ≡ false

module _ (s : List ℕ) (e : length s ≡ 16 * (1 + count s)) where
  lines_clean : (k n : ℕ) (l : List ℕ) → never l ≡ false → Ahead k n → StandsAt s k (line_records k n l) → Throughout (Right s) k (line_size l)
  lines_clean k n l b h a =
      throughout_join (Right s) k 1 (space_of piece_size (pieces l)) (throughout_one (Right s) k (line_clean s k n (first_index (k + 1) (pieces l)) (line-head s e k n l a)))
      (all_throughout piece_form s (Right s) (λ i m p c z t. throughout_one (Right s) i (piece_clean s i m p c t)) (k + 1) (pieces l) (pieces_good l) (line-rest s e k n l a))

  arrows_clean : (k n : ℕ) (x : Arrow) → never x ≡ false → Ahead k n → StandsAt s k (arrow_records k n x) → Throughout (Right s) k (arrow_size x)
  arrows_clean k n x b h a =
      throughout_join (Right s) k 1 (space_of line_size x.lines) (throughout_one (Right s) k (arrow_clean s k n x.source x.target (first_index (k + 1) x.lines) (arrow-head s e k n x a)))
      (all_throughout line_form s (Right s) lines_clean (k + 1) x.lines (any_never x.lines) (arrow-rest s e k n x a))

-- A graph whose states have flags below 4 has a sheet that no byte refuses.
pub right_bytes : (g : Graph) → any_of (flags_above 3) g.states ≡ false → wrong_bytes (encode g) ≡ false
unfolding wrong_bytes
right_bytes g b =
    let s = encode g in
    let states = all_throughout (state_form (flags_above 3)) s (Right s) (λ i m x c z t. throughout_one (Right s) i (state_clean s i m x c t)) 1 g.states b (states-at g) in
    let arrows = all_throughout arrow_form s (Right s) (arrows_clean s (encode_right g)) (arrows_from g) g.arrows (any_never g.arrows) (arrows-at g) in
    let all = throughout_join (Right s) 1 (space_of state_size g.states) (space_of arrow_size g.arrows) states arrows in
    let c : count s ≡ records_for g = count_is g in
    or_none (some_set s 8 16) (any_up (wrong_record s) 1 (count s + 1))
    (unset s 8 16 8 (head_at g).rest (at_drop 8 (head_at g)) (omega arith))
    (up_none (wrong_record s) 1 (count s + 1) (λ j h l. all j h (omega arith)))
