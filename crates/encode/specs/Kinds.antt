-- States, pieces, lines and arrows, as they are written: whole records, one at least, the first with its next index. The pieces of a line. Assumes nothing.
use Rattle.std.specs.Prelude.{◌≡◌, refl, Bool, false, ◌||◌, ℕ, zero, suc, ◌+◌, ◌-◌, ◌≤◌, ltb, length, take, drop}
use Rattle.std.proofs.Common.{ap, ◌∙◌, arith, length-append, length-drop, length-take, take-append-drop, ltb-false, le-ltb}
use mathlib.Core.List.{List, [], ◌∷◌, ◌++◌, flat_map}
use Rattle.std.proofs.lemmas.List.{length-replicate}
use Rattle.sheet.specs.Sheet.{State}
use Rattle.laws.specs.Any.{any_of, any_none}
use Rattle.laws.specs.Bools.{or_false_left, or_false_right, or_none}
use Rattle.sheet.specs.Records.{arrow_bytes, line_bytes, text_bytes, zeros}
use Rattle.encode.specs.Encode.{first_index, all_records, state_size, piece_size, pieces_by, pieces, state_records, piece_records, line_records, arrow_records, line_size, arrow_size}
use Rattle.encode.specs.Blocks.{at_left, at-word, u16_back, InRecords, all-length}

-- nothing is asked of an element
abbrev pub never : {A : Type 0} → A → Bool
never x = false

pub any_never : {A : Type 0} (l : List A) → any_of never l ≡ false
unfolding any_of
any_never [] = refl
any_never (x ∷ l) = any_never l

-- a piece that is none: empty, or of more than 12 bytes
abbrev pub bad_piece : List ℕ → Bool
bad_piece p = ltb (length p) 1 || ltb 12 (length p)

pub piece_some : (p : List ℕ) → bad_piece p ≡ false → 1 ≤ length p
piece_some p b = ltb-false (length p) 1 (or_false_left (ltb (length p) 1) (ltb 12 (length p)) b)

pub piece_few : (p : List ℕ) → bad_piece p ≡ false → length p ≤ 12
piece_few p b = ltb-false 12 (length p) (or_false_right (ltb (length p) 1) (ltb 12 (length p)) b)

by_good : (n : ℕ) (l : List ℕ) → any_of bad_piece (pieces_by n l) ≡ false
unfolding pieces_by any_of
by_good zero l = refl
by_good (suc n) [] = refl
by_good (suc n) (b ∷ l) =
    let p = take 12 (b ∷ l) in
    let e : length p ≡ _ = length-take 12 (b ∷ l) in
    any_none bad_piece p (pieces_by n (drop 12 (b ∷ l)))
    (or_none (ltb (length p) 1) (ltb 12 (length p)) (le-ltb (length p) 1 (rw e (omega arith))) (le-ltb 12 (length p) (rw e (omega arith))))
    (by_good n (drop 12 (b ∷ l)))

pub pieces_good : (l : List ℕ) → any_of bad_piece (pieces l) ≡ false
pieces_good l = by_good (length l) l

by_join : (n : ℕ) (l : List ℕ) → length l ≤ n → flat_map (λ p. p) (pieces_by n l) ≡ l
unfolding pieces_by flat_map
by_join zero [] h = refl
by_join zero (b ∷ l) h = absurd (omega arith)
by_join (suc n) [] h = refl
by_join (suc n) (b ∷ l) h =
    ap (λ (r : List ℕ). take 12 (b ∷ l) ++ r) (by_join n (drop 12 (b ∷ l)) (rw (length-drop 12 (b ∷ l)) (omega arith)))
    ∙ take-append-drop 12 (b ∷ l)

-- 'A line's text is its pieces joined.'
pub pieces_join : (l : List ℕ) → flat_map (λ p. p) (pieces l) ≡ l
pieces_join l = by_join (length l) l (omega arith)

pub state_form : (bad : State → Bool) → InRecords state_size state_records bad
state_form bad = record { some = λ x. omega arith; wide = λ k n x b. refl; linked = λ s k n x b a. at-word 2 a ∙ u16_back n }

piece-wide : (n : ℕ) (p : List ℕ) → length p ≤ 12 → length (text_bytes n p) ≡ 16
piece-wide n p h = rw (length-append p (zeros (12 - length p)), length-replicate {A = ℕ} (12 - length p) 0) (omega arith)

pub piece_form : InRecords piece_size piece_records bad_piece
piece_form = record { some = λ x. omega arith; wide = λ k n p b. piece-wide n p (piece_few p b); linked = λ s k n p b a. at-word 2 a ∙ u16_back n }

pub line_form : InRecords line_size line_records never
unfolding line_records
line_form = record {
  some = λ l. omega arith;
  wide = λ k n l b. rw (length-append (line_bytes n (first_index (k + 1) (pieces l))) (all_records piece_size piece_records (k + 1) (pieces l)), all-length piece_form (k + 1) (pieces l) (pieces_good l)) (omega arith);
  linked = λ s k n l b a. at-word 2 (at_left (line_bytes n (first_index (k + 1) (pieces l))) (all_records piece_size piece_records (k + 1) (pieces l)) a) ∙ u16_back n;
}

pub arrow_form : InRecords arrow_size arrow_records never
unfolding arrow_records
arrow_form = record {
  some = λ a. omega arith;
  wide = λ k n a b. rw (length-append (arrow_bytes n a.source a.target (first_index (k + 1) a.lines)) (all_records line_size line_records (k + 1) a.lines), all-length line_form (k + 1) a.lines (any_never a.lines)) (omega arith);
  linked = λ s k n a b t. at-word 2 (at_left (arrow_bytes n a.source a.target (first_index (k + 1) a.lines)) (all_records line_size line_records (k + 1) a.lines) t) ∙ u16_back n;
}
