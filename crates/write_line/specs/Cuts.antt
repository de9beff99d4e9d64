-- A line cut into its pieces by a loop: where a piece ends, what is left behind it, and its bytes as a text record. Assumes nothing.
use Rattle.std.specs.Prelude.{◌≡◌, refl, false, List, [], ◌∷◌, ◌++◌, ℕ, zero, suc, ◌+◌, ◌-◌, ◌*◌, ◌≤◌, ◌<◌, ltb, min, length, take, drop}
use Rattle.std.proofs.Common.{sym, ap, ap₂, ◌∙◌, arith, length-drop, drop_of_length-le, take_all, lt-ltb, le-ltb}
use Rattle.laws.specs.Any.{any_of, any_head}
use Rattle.laws.specs.Cases.{by_lt}
use Rattle.laws.specs.Put.{put, put-put}
use Rattle.sheet.specs.Records.{u16, zeros, text_bytes}
use Rattle.encode.specs.Encode.{first_index, space_of, piece_size, pieces_by, pieces, piece_records}
use Rattle.encode.specs.Kinds.{bad_piece, pieces_good, piece_form}
use Rattle.write_line.specs.Writing.{index_if}
use Rattle.write_line.specs.Puts.{put-over}
use Rattle.write_line.specs.Writes.{Writes, writes_fit, writes_step}

-- ---- the first piece of a line, and the others

by_room : (n m : ℕ) (l : List ℕ) → length l ≤ n → length l ≤ m → pieces_by n l ≡ pieces_by m l
unfolding pieces_by
by_room zero zero l h g = refl
by_room zero (suc m) [] h g = refl
by_room zero (suc m) (b ∷ l) h g = absurd (omega arith)
by_room (suc n) zero [] h g = refl
by_room (suc n) zero (b ∷ l) h g = absurd (omega arith)
by_room (suc n) (suc m) [] h g = refl
by_room (suc n) (suc m) (b ∷ l) h g =
    let d : length (drop 12 (b ∷ l)) ≡ length (b ∷ l) - 12 = length-drop 12 (b ∷ l) in
    ap (λ (r : List (List ℕ)). take 12 (b ∷ l) ∷ r) (by_room n m (drop 12 (b ∷ l)) (omega arith) (omega arith))

pub pieces_none : (l : List ℕ) → length l ≤ 0 → pieces l ≡ []
unfolding pieces_by
pieces_none [] h = refl
pieces_none (b ∷ l) h = absurd (omega arith)

pieces_step : (l : List ℕ) → 0 < length l → pieces l ≡ take 12 l ∷ pieces (drop 12 l)
unfolding pieces_by
pieces_step [] h = absurd (omega arith)
pieces_step (b ∷ l) h =
    let d : length (drop 12 (b ∷ l)) ≡ length (b ∷ l) - 12 = length-drop 12 (b ∷ l) in
    ap (λ (r : List (List ℕ)). take 12 (b ∷ l) ∷ r)
    (by_room (length l) (length (drop 12 (b ∷ l))) (drop 12 (b ∷ l)) (omega arith) (omega arith))

-- the index of the first of them
pub pieces-first : (l : List ℕ) (k : ℕ) → first_index k (pieces l) ≡ index_if (ltb 0 (length l)) k
pieces-first l k =
    by_lt 0 (length l)
    (λ h. rw (lt-ltb 0 (length l) h, pieces_step l h))
    (λ h. rw (le-ltb 0 (length l) h, pieces_none l h))

-- the piece of n bytes
module _ (l : List ℕ) (n : ℕ) (q : n ≡ min (length l) 12) where
  stop_take : take n l ≡ take 12 l
  stop_take =
      by_lt (length l) 12
      (λ h. take_all n l (omega arith) ∙ sym (take_all 12 l (omega arith)))
      (λ h. let y : n ≡ 12 = omega arith in rw y)

  stop_drop : drop n l ≡ drop 12 l
  stop_drop =
      by_lt (length l) 12
      (λ h. drop_of_length-le l {i = n} (omega arith) ∙ sym (drop_of_length-le l {i = 12} (omega arith)))
      (λ h. let y : n ≡ 12 = omega arith in rw y)

  module _ (h : 0 < length l) where
    piece_cut : pieces l ≡ take n l ∷ pieces (drop n l)
    piece_cut = pieces_step l h ∙ sym (ap₂ (λ (p r : List ℕ). p ∷ pieces r) stop_take stop_drop)

    pub cuts_fit : {out₀ : List ℕ} {k₀ : ℕ} {whole : List (List ℕ)} {out : List ℕ} {k : ℕ} → Writes piece_size piece_records out₀ k₀ whole out k (pieces l)
        → (k₀ + space_of piece_size whole < 65536) × (16 * (k₀ + space_of piece_size whole) ≤ length out₀)
        → (k + 1 < 65536) × (16 * (k + 1) ≤ length out)
    cuts_fit w = writes_fit w (take n l) (pieces (drop n l)) piece_cut

    -- written as record k with the index of the one behind it
    pub cuts_step : {out₀ : List ℕ} {k₀ : ℕ} {whole : List (List ℕ)} {out out' : List ℕ} {k m : ℕ}
        → Writes piece_size piece_records out₀ k₀ whole out k (pieces l) → m ≡ index_if (ltb 0 (length (drop n l))) (k + 1)
        → out' ≡ put out (16 * k) (text_bytes m (take n l))
        → Writes piece_size piece_records out₀ k₀ whole out' (k + 1) (pieces (drop n l))
    cuts_step {k = k} {m = m} w e p =
        let x = take n l in
        let r = pieces (drop n l) in
        let good : bad_piece x ≡ false = any_head bad_piece x r (ap (any_of bad_piece) (sym piece_cut) ∙ pieces_good l) in
        writes_step w x r piece_cut (e ∙ sym (pieces-first (drop n l) (k + 1))) (piece_form.wide k m x good) p refl

-- ---- a text record

drop-zeros : (m n : ℕ) → drop m (zeros n) ≡ zeros (n - m)
drop-zeros zero n = let e : n - 0 ≡ n = omega arith in rw e
drop-zeros (suc m) zero = let e : 0 - suc m ≡ 0 = omega arith in rw e
drop-zeros (suc m) (suc n) = let e : suc n - suc m ≡ n - m = omega arith in rw e (drop-zeros m n)

-- m bytes are to come, and zeros stand for them
abbrev text_head : ℕ → ℕ → List ℕ
text_head m next = 4 ∷ m ∷ u16 next ++ zeros 12

-- the bytes over the zeros
text_over : (out : List ℕ) (i n : ℕ) (p : List ℕ) → length p ≤ 12 → put (put out i (text_head (length p) n)) (i + 4) p ≡ put out i (text_bytes n p)
text_over out i n p h =
    let head : List ℕ = 4 ∷ length p ∷ u16 n in
    ap (λ (l : List ℕ). put l (i + 4) p) (sym (put-put out i head (zeros 12)))
    ∙ put-over (put out i head) (i + 4) (zeros 12) p h
    ∙ ap (λ (z : List ℕ). put (put out i head) (i + 4) (p ++ z)) (drop-zeros (length p) 12)
    ∙ put-put out i head (p ++ zeros (12 - length p))

pub text_put : {out' out'' : List ℕ} (out p : List ℕ) (i n : ℕ) → length p ≤ 12 → out' ≡ put out i (text_head (length p) n) → out'' ≡ put out' (i + 4) p
    → out'' ≡ put out i (text_bytes n p)
text_put out p i n h e q = q ∙ ap (λ (o : List ℕ). put o (i + 4) p) e ∙ text_over out i n p h
