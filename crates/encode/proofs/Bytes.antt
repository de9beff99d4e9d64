-- Every number in a graph's sheet is a byte, where the graph's flags and line bytes are, its ends are u16, and it has at most 65,535 records; what a sheet of bytes means is such a graph. Assumes nothing.
use Rattle.std.specs.Prelude.{◌≡◌, Bool, false, ◌||◌, ℕ, zero, suc, ◌+◌, ◌-◌, ◌*◌, ◌/◌, ◌%◌, ◌≤◌, ◌<◌, length, take, drop}
use Rattle.std.proofs.Math.Path.{refl}
use Rattle.std.proofs.Common.{◌∙◌, arith}
use mathlib.Core.List.{List, [], ◌∷◌, ◌++◌, map, flat_map}
use Rattle.std.proofs.Math.Dec.{ltb}
use Rattle.std.proofs.Math.ListN.{get_or, get_or-eq_default}
use borrow.Author.Tests.{ltb-false, le-ltb}
use Rattle.laws.specs.Cases.{by_lt}
use Rattle.sheet.specs.Sheet.{byte_at, le16, byte_one, from_of, to_of, piece, state_chain, arrow_chain, line_chain, text_chain, State, Arrow, Graph, line_of, lines_from, arrow_of, state_of, states_of, arrows_of, meaning, flags_of}
use Rattle.laws.specs.Any.{any_of, any_head, any_rest, any_none, any_or, any_join, any_map, any_flat, none_at, none_all}
use Rattle.laws.specs.Bools.{or_false_left, or_false_right, or_none}
use Rattle.sheet.specs.Records.{zeros, header, arrow_bytes, line_bytes}
use Rattle.sheet.specs.Meaning.{no_arrow, arrow_at}
use Rattle.sheet.specs.Accepted.{line_at}
use Rattle.encode.specs.Encode.{first_index, space_of, all_records, state_size, piece_size, pieces_by, pieces, state_records, piece_records, line_records, arrow_records, line_size, arrow_size, records_for, arrows_from, encode}
use Rattle.encode.specs.Flags.{flags_above, none_above, each_below_lem}
use Rattle.encode.specs.Kinds.{bad_piece, piece_few, pieces_good}
use Rattle.encode.specs.Bytes.{OfBytes}

-- some number of a list is no byte
abbrev not_bytes : List ℕ → Bool
not_bytes l = any_of (ltb 255) l

-- an arrow that has no place in a record: an end that is no u16, or a line with a number that is no byte
unfoldable wide_arrow : Arrow → Bool
wide_arrow a = ltb 65535 a.source || (ltb 65535 a.target || any_of not_bytes a.lines)

cons-small : (b : ℕ) (l : List ℕ) → b < 256 → not_bytes l ≡ false → not_bytes (b ∷ l) ≡ false
cons-small b l h e = any_none (ltb 255) b l (le-ltb 255 b (omega arith)) e

join_small : (l r : List ℕ) → not_bytes l ≡ false → not_bytes r ≡ false → not_bytes (l ++ r) ≡ false
join_small l r e q = any_join (ltb 255) l r ∙ or_none (not_bytes l) (not_bytes r) e q

u16-small : (n : ℕ) (l : List ℕ) → n < 65536 → not_bytes l ≡ false → not_bytes (n % 256 ∷ n / 256 ∷ l) ≡ false
u16-small n l h e = cons-small (n % 256) (n / 256 ∷ l) (omega arith) (cons-small (n / 256) l (omega arith) e)

zeros-small : (n : ℕ) → not_bytes (zeros n) ≡ false
unfolding any_of
zeros-small zero = refl
zeros-small (suc n) = zeros-small n

take-small : (n : ℕ) (l : List ℕ) → not_bytes l ≡ false → not_bytes (take n l) ≡ false
unfolding any_of
take-small zero l e = refl
take-small (suc n) [] e = refl
take-small (suc n) (b ∷ l) e = any_none (ltb 255) b (take n l) (any_head (ltb 255) b l e) (take-small n l (any_rest (ltb 255) b l e))

drop-small : (n : ℕ) (l : List ℕ) → not_bytes l ≡ false → not_bytes (drop n l) ≡ false
drop-small zero l e = e
drop-small (suc n) [] e = e
drop-small (suc n) (b ∷ l) e = drop-small n l (any_rest (ltb 255) b l e)

by_small : (n : ℕ) (l : List ℕ) → not_bytes l ≡ false → any_of not_bytes (pieces_by n l) ≡ false
unfolding pieces_by any_of
by_small zero l e = refl
by_small (suc n) [] e = refl
by_small (suc n) (b ∷ l) e = any_none not_bytes (take 12 (b ∷ l)) (pieces_by n (drop 12 (b ∷ l))) (take-small 12 (b ∷ l) e) (by_small n (drop 12 (b ∷ l)) (drop-small 12 (b ∷ l) e))

first_small : {A : Type 0} (size : A → ℕ) (k : ℕ) (l : List A) → ((x : A) → 1 ≤ size x) → k + space_of size l ≤ 65536 → first_index k l < 65536
unfolding space_of
first_small size k [] t h = omega arith
first_small size k (x ∷ l) t h = let a : 1 ≤ size x = t x in omega arith

module _ {A : Type 0} (size : A → ℕ) (write : ℕ → ℕ → A → List ℕ) (bad : A → Bool) (some : (x : A) → 1 ≤ size x)
    (t : (k n : ℕ) (x : A) → bad x ≡ false → n < 65536 → k + size x ≤ 65536 → not_bytes (write k n x) ≡ false) where
  all_small : (k : ℕ) (l : List A) → any_of bad l ≡ false → k + space_of size l ≤ 65536 → not_bytes (all_records size write k l) ≡ false
  unfolding all_records space_of any_of
  all_small k [] b h = refl
  all_small k (x ∷ l) b h =
      join_small (write k (first_index (k + size x) l) x) (all_records size write (k + size x) l)
      (t k (first_index (k + size x) l) x (any_head bad x l b) (first_small size (k + size x) l some (omega arith)) (omega arith))
      (all_small (k + size x) l (any_rest bad x l b) (omega arith))

piece-small : (k n : ℕ) (p : List ℕ) → (bad_piece p || not_bytes p) ≡ false → n < 65536 → k + piece_size p ≤ 65536 → not_bytes (piece_records k n p) ≡ false
piece-small k n p b h r =
    let f : length p ≤ 12 = piece_few p (or_false_left (bad_piece p) (not_bytes p) b) in
    let e = p ++ zeros (12 - length p) in
    cons-small 4 (length p ∷ n % 256 ∷ n / 256 ∷ e) (omega arith)
    (cons-small (length p) (n % 256 ∷ n / 256 ∷ e) (omega arith)
    (u16-small n e h (join_small p (zeros (12 - length p)) (or_false_right (bad_piece p) (not_bytes p) b) (zeros-small (12 - length p)))))

line_small : (k n : ℕ) (l : List ℕ) → not_bytes l ≡ false → n < 65536 → k + line_size l ≤ 65536 → not_bytes (line_records k n l) ≡ false
unfolding line_records
line_small k n l b h r =
    let i = first_index (k + 1) (pieces l) in
    let f : i < 65536 = first_small piece_size (k + 1) (pieces l) (λ p. omega arith) (omega arith) in
    join_small (line_bytes n i) (all_records piece_size piece_records (k + 1) (pieces l))
    (cons-small 3 (0 ∷ n % 256 ∷ n / 256 ∷ i % 256 ∷ i / 256 ∷ zeros 10) (omega arith)
    (cons-small 0 (n % 256 ∷ n / 256 ∷ i % 256 ∷ i / 256 ∷ zeros 10) (omega arith)
    (u16-small n (i % 256 ∷ i / 256 ∷ zeros 10) h (u16-small i (zeros 10) f (zeros-small 10)))))
    (all_small piece_size piece_records (λ p. bad_piece p || not_bytes p) (λ p. omega arith) piece-small (k + 1) (pieces l)
    (any_or bad_piece not_bytes (pieces l) (pieces_good l) (by_small (length l) l b)) (omega arith))

arrow-small : (k n : ℕ) (a : Arrow) → wide_arrow a ≡ false → n < 65536 → k + arrow_size a ≤ 65536 → not_bytes (arrow_records k n a) ≡ false
unfolding arrow_records wide_arrow
arrow-small k n a b h r =
    let i = first_index (k + 1) a.lines in
    let x = a.source in
    let y = a.target in
    let f : i < 65536 = first_small line_size (k + 1) a.lines (λ l. omega arith) (omega arith) in
    let c = or_false_right (ltb 65535 x) (ltb 65535 y || any_of not_bytes a.lines) b in
    let u : x ≤ 65535 = ltb-false 65535 x (or_false_left (ltb 65535 x) (ltb 65535 y || any_of not_bytes a.lines) b) in
    let v : y ≤ 65535 = ltb-false 65535 y (or_false_left (ltb 65535 y) (any_of not_bytes a.lines) c) in
    join_small (arrow_bytes n x y i) (all_records line_size line_records (k + 1) a.lines)
    (cons-small 2 (0 ∷ n % 256 ∷ n / 256 ∷ x % 256 ∷ x / 256 ∷ y % 256 ∷ y / 256 ∷ i % 256 ∷ i / 256 ∷ zeros 6) (omega arith)
    (cons-small 0 (n % 256 ∷ n / 256 ∷ x % 256 ∷ x / 256 ∷ y % 256 ∷ y / 256 ∷ i % 256 ∷ i / 256 ∷ zeros 6) (omega arith)
    (u16-small n (x % 256 ∷ x / 256 ∷ y % 256 ∷ y / 256 ∷ i % 256 ∷ i / 256 ∷ zeros 6) h
    (u16-small x (y % 256 ∷ y / 256 ∷ i % 256 ∷ i / 256 ∷ zeros 6) (omega arith)
    (u16-small y (i % 256 ∷ i / 256 ∷ zeros 6) (omega arith) (u16-small i (zeros 6) f (zeros-small 6)))))))
    (all_small line_size line_records not_bytes (λ l. omega arith) line_small (k + 1) a.lines (or_false_right (ltb 65535 y) (any_of not_bytes a.lines) c) (omega arith))

state_small : (k n : ℕ) (x : State) → flags_above 255 x ≡ false → n < 65536 → k + state_size x ≤ 65536 → not_bytes (state_records k n x) ≡ false
state_small k n x b h r =
    let f = x.flags in
    cons-small 1 (f ∷ n % 256 ∷ n / 256 ∷ zeros 12) (omega arith) (any_none (ltb 255) f (n % 256 ∷ n / 256 ∷ zeros 12) b (u16-small n (zeros 12) h (zeros-small 12)))

-- A graph's sheet is a list of bytes.
encode-bytes : (g : Graph) → any_of (flags_above 255) g.states ≡ false → any_of wide_arrow g.arrows ≡ false → records_for g < 65536 → not_bytes (encode g) ≡ false
unfolding encode
encode-bytes g b c h =
    let n = records_for g in
    let i = first_index 1 g.states in
    let j = first_index (arrows_from g) g.arrows in
    let f : i < 65536 = first_small state_size 1 g.states (λ x. omega arith) (omega arith) in
    let e : j < 65536 = first_small arrow_size (arrows_from g) g.arrows (λ x. omega arith) (omega arith) in
    join_small (header n i j) (all_records state_size state_records 1 g.states ++ all_records arrow_size arrow_records (arrows_from g) g.arrows)
    (cons-small 1 (0 ∷ n % 256 ∷ n / 256 ∷ i % 256 ∷ i / 256 ∷ j % 256 ∷ j / 256 ∷ zeros 8) (omega arith)
    (cons-small 0 (n % 256 ∷ n / 256 ∷ i % 256 ∷ i / 256 ∷ j % 256 ∷ j / 256 ∷ zeros 8) (omega arith)
    (u16-small n (i % 256 ∷ i / 256 ∷ j % 256 ∷ j / 256 ∷ zeros 8) h (u16-small i (j % 256 ∷ j / 256 ∷ zeros 8) f (u16-small j (zeros 8) e (zeros-small 8))))))
    (join_small (all_records state_size state_records 1 g.states) (all_records arrow_size arrow_records (arrows_from g) g.arrows)
    (all_small state_size state_records (flags_above 255) (λ x. omega arith) state_small 1 g.states b (omega arith))
    (all_small arrow_size arrow_records wide_arrow (λ x. omega arith) arrow-small (arrows_from g) g.arrows c (omega arith)))

-- ---- what a list of bytes means
none_any : {A : Type 0} (p : A → Bool) (l : List A) → ((x : A) → p x ≡ false) → any_of p l ≡ false
unfolding any_of
none_any p [] t = refl
none_any p (x ∷ l) t = any_none p x l (t x) (none_any p l t)

flat_small : (f : ℕ → List ℕ) (l : List ℕ) → ((k : ℕ) → not_bytes (f k) ≡ false) → not_bytes (flat_map f l) ≡ false
flat_small f l t = any_flat (ltb 255) f l ∙ none_any (λ k. not_bytes (f k)) l t

module _ (s : List ℕ) (b : not_bytes s ≡ false) where
  byte_small : (i : ℕ) → byte_at s i ≤ 255
  byte_small i =
      by_lt i (length s)
      (λ h. ltb-false 255 (byte_at s i) (none_at (ltb 255) s i 0 b h))
      (λ h. let e : byte_at s i ≡ 0 = get_or-eq_default s 0 h in omega arith)

  word_small : (i : ℕ) → ltb 65535 (le16 s i) ≡ false
  word_small i = let u : byte_at s i ≤ 255 = byte_small i in let v : byte_at s (i + 1) ≤ 255 = byte_small (i + 1) in le-ltb 65535 (le16 s i) (omega arith)

  line-bytes : (k : ℕ) → not_bytes (line_of s k) ≡ false
  unfolding line_of
  line-bytes k = flat_small (piece s) (text_chain s k) (λ i. take-small (byte_one s i) (drop (16 * i + 4) s) (drop-small (16 * i + 4) s b))

  arrow-bytes : (k : ℕ) → wide_arrow (arrow_of s k) ≡ false
  unfolding wide_arrow arrow_of lines_from
  arrow-bytes k =
      let c = line_chain s k in
      or_none (ltb 65535 (from_of s k)) (ltb 65535 (to_of s k) || any_of not_bytes (map (line_of s) c)) (word_small (16 * k + 4))
      (or_none (ltb 65535 (to_of s k)) (any_of not_bytes (map (line_of s) c)) (word_small (16 * k + 6))
      (any_map not_bytes (line_of s) c ∙ none_any (λ i. not_bytes (line_of s i)) c line-bytes))

  states-small : any_of (flags_above 255) (states_of s) ≡ false
  unfolding states_of
  states-small = any_map (flags_above 255) (state_of s) (state_chain s) ∙ none_any (λ i. ltb 255 (byte_one s i)) (state_chain s) (λ i. le-ltb 255 (byte_one s i) (byte_small (16 * i + 1)))

  arrows-small : any_of wide_arrow (arrows_of s) ≡ false
  unfolding arrows_of
  arrows-small = any_map wide_arrow (arrow_of s) (arrow_chain s) ∙ none_any (λ i. wide_arrow (arrow_of s i)) (arrow_chain s) arrow-bytes

-- ---- the same of each state, arrow, line and byte

module _ (g : Graph) (o : OfBytes g) where
  states_narrow : any_of (flags_above 255) g.states ≡ false
  states_narrow = none_above 255 g (λ k h. let a : get_or (flags_of g) k 0 < 256 = o.flags k h in omega arith)

  arrows_narrow : any_of wide_arrow g.arrows ≡ false
  unfolding wide_arrow
  arrows_narrow =
      none_all wide_arrow g.arrows no_arrow
      (λ k h.
      let x = arrow_at g k in
      let a : x.source < 65536 = o.sources k h in
      let b : x.target < 65536 = o.targets k h in
      or_none (ltb 65535 x.source) (ltb 65535 x.target || any_of not_bytes x.lines) (le-ltb 65535 x.source (omega arith))
      (or_none (ltb 65535 x.target) (any_of not_bytes x.lines) (le-ltb 65535 x.target (omega arith))
      (none_all not_bytes x.lines []
      (λ j l. none_all (ltb 255) (line_at g k j) 0
      (λ i p. let d : get_or (line_at g k j) i 0 < 256 = o.texts k j i h l p in le-ltb 255 (get_or (line_at g k j) i 0) (omega arith))))))

  -- A graph's sheet is bytes.
  pub sheet_bytes : records_for g ≤ 65535 → (i : ℕ) → byte_at (encode g) i < 256
  sheet_bytes h i = let a : byte_at (encode g) i ≤ 255 = byte_small (encode g) (encode-bytes g states_narrow arrows_narrow (omega arith)) i in omega arith

narrow_ends : (a : Arrow) → wide_arrow a ≡ false → (a.source < 65536) × (a.target < 65536) × (any_of not_bytes a.lines ≡ false)
unfolding wide_arrow
narrow_ends a b =
    let c = or_false_right (ltb 65535 a.source) (ltb 65535 a.target || any_of not_bytes a.lines) b in
    let u : a.source ≤ 65535 = ltb-false 65535 a.source (or_false_left (ltb 65535 a.source) (ltb 65535 a.target || any_of not_bytes a.lines) b) in
    let v : a.target ≤ 65535 = ltb-false 65535 a.target (or_false_left (ltb 65535 a.target) (any_of not_bytes a.lines) c) in
    (omega arith, omega arith, or_false_right (ltb 65535 a.target) (any_of not_bytes a.lines) c)

-- What a sheet of bytes means is such a graph.
module _ (s : List ℕ) (h : (i : ℕ) → byte_at s i < 256) where
  all-bytes : not_bytes s ≡ false
  all-bytes = none_all (ltb 255) s 0 (λ i l. let a : byte_at s i < 256 = h i in le-ltb 255 (byte_at s i) (omega arith))

  narrow_at : (k : ℕ) → k < length (arrows_of s) → ((arrow_at (meaning s) k).source < 65536) × ((arrow_at (meaning s) k).target < 65536) × (any_of not_bytes (arrow_at (meaning s) k).lines ≡ false)
  narrow_at k l = narrow_ends (arrow_at (meaning s) k) (none_at wide_arrow (arrows_of s) k no_arrow (arrows-small s all-bytes) l)

  pub meaning-bytes : OfBytes (meaning s)
  meaning-bytes = record {
    flags = λ k l. let a : get_or (flags_of (meaning s)) k 0 ≤ 255 = each_below_lem 255 (meaning s) (states-small s all-bytes) k l in omega arith;
    sources = λ k l. (narrow_at k l).0;
    targets = λ k l. (narrow_at k l).1;
    texts = λ k j i l p q.
        let a : get_or (line_at (meaning s) k j) i 0 ≤ 255 =
        ltb-false 255 (get_or (line_at (meaning s) k j) i 0) (none_at (ltb 255) (line_at (meaning s) k j) i 0 (none_at not_bytes (arrow_at (meaning s) k).lines j [] (narrow_at k l).2 p) q) in
        omega arith;
  }
