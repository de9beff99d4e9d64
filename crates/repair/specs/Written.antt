-- The marks of a graph's sheet, gone through record by record: it becomes the sheet of the repaired graph. Assumes nothing.
use Rattle.std.specs.Prelude.{◌≡◌, Bool, true, cond, ℕ, ◌+◌, ◌*◌, length, set}
use Rattle.std.proofs.Math.Path.{refl, sym, ap}
use Rattle.std.proofs.Common.{ap₂, ◌∙◌, arith, length-append}
use Rattle.std.proofs.Math.Bool.{false}
use mathlib.Core.List.{List, [], ◌∷◌, ◌++◌, map, append_assoc}
use Rattle.std.proofs.lemmas.List.{set_at, get_or_at}
use Rattle.std.proofs.Math.Seq.{append_snoc}
use Rattle.laws.specs.Cases.{by_bool}
use Rattle.sheet.specs.Sheet.{byte_one, State, Graph}
use Rattle.sheet.specs.Meaning.{is_start}
use Rattle.sheet.specs.Records.{u16, zeros, header, state_bytes}
use Rattle.encode.specs.Encode.{first_index, all_records, state_size, state_records, arrow_size, arrow_records, arrows_from, records_for, encode}
use Rattle.encode.specs.Fewer.{space_one}
use Rattle.encode.proofs.Means.{encode-length}
use Rattle.repair.specs.Repaired.{without_start, unmarked, one_mark, repaired}
use Rattle.repair.specs.Marks.{marked_at, cleared_at, mark_kept}
use Rattle.repair.specs.OneMark.{states-many, repaired-records}

-- states behind a marked one, or behind none
abbrev kept_from : Bool → List State → List State
kept_from marked l = cond marked (map unmarked l) (one_mark l)

-- the flags of a state, likewise
abbrev kept_flags : Bool → ℕ → ℕ
kept_flags marked f = cond marked (without_start f) f

kept_none : (b : Bool) → kept_from b [] ≡ []
unfolding one_mark
kept_none true = refl
kept_none false = refl

kept_more : (b : Bool) (a : State) (l : List State) → kept_from b (a ∷ l) ≡ record { flags = kept_flags b a.flags } ∷ kept_from (cond b true (is_start a.flags)) l
unfolding one_mark
kept_more true a l = refl
kept_more false a l = by_bool (is_start a.flags) (λ t. rw t) (λ t. rw t)

kept-index : (b : Bool) (k : ℕ) (l : List State) → first_index k (kept_from b l) ≡ first_index k l
kept-index b k [] = ap (first_index k) (kept_none b)
kept-index b k (a ∷ l) = ap (first_index k) (kept_more b a l)

-- ---- one state record, behind what takes k records

module _ (k f n : ℕ) (pre rest : List ℕ) (e : length pre ≡ 16 * k) where
  before : length (pre ++ (1 ∷ [])) ≡ 16 * k + 1
  before = let d : length (pre ++ (1 ∷ [])) ≡ length pre + 1 = length-append pre (1 ∷ []) in omega arith

  -- the record, and its flags as they are met
  whole : pre ++ (state_bytes f n ++ rest) ≡ (pre ++ (1 ∷ [])) ++ (f ∷ (u16 n ++ zeros 12) ++ rest)
  whole = sym (append_snoc pre 1 (f ∷ (u16 n ++ zeros 12) ++ rest))

  flags-read : byte_one (pre ++ (state_bytes f n ++ rest)) k ≡ f
  flags-read = rw whole (get_or_at (pre ++ (1 ∷ [])) f ((u16 n ++ zeros 12) ++ rest) 0 (16 * k + 1) before)

  flags-set : (v : ℕ) → set (pre ++ (state_bytes f n ++ rest)) (16 * k + 1) v ≡ pre ++ (state_bytes v n ++ rest)
  flags-set v =
      rw whole (set_at (pre ++ (1 ∷ [])) f ((u16 n ++ zeros 12) ++ rest) v (16 * k + 1) before)
      ∙ append_snoc pre 1 (v ∷ (u16 n ++ zeros 12) ++ rest)

  marked_is : (b : Bool) → marked_at b k (pre ++ (state_bytes f n ++ rest)) ≡ cond b true (is_start f)
  marked_is b = ap (λ (v : ℕ). cond b true (is_start v)) flags-read

  cleared_is : (b : Bool) → cleared_at b k (pre ++ (state_bytes f n ++ rest)) ≡ pre ++ (state_bytes (kept_flags b f) n ++ rest)
  cleared_is true = flags-set (without_start (byte_one (pre ++ (state_bytes f n ++ rest)) k)) ∙ ap (λ (v : ℕ). pre ++ (state_bytes (without_start v) n ++ rest)) flags-read
  cleared_is false = refl

  -- one more record is behind
  past : length (pre ++ state_bytes f n) ≡ 16 * (k + 1)
  past = let d : length (pre ++ state_bytes f n) ≡ length pre + 16 = length-append pre (state_bytes f n) in omega arith

-- ---- all

regroup : (p q r t : List ℕ) → p ++ ((q ++ r) ++ t) ≡ (p ++ q) ++ (r ++ t)
regroup p q r t = ap (λ (l : List ℕ). p ++ l) (append_assoc q r t) ∙ sym (append_assoc p q (r ++ t))

abbrev records : ℕ → List State → List ℕ
records k l = all_records state_size state_records k l

states-kept : (b : Bool) (k : ℕ) (l : List State) (pre post : List ℕ) → length pre ≡ 16 * k
    → mark_kept b k (length l) (pre ++ (records k l ++ post)) ≡ pre ++ (records k (kept_from b l) ++ post)
unfolding mark_kept all_records
states-kept b k [] pre post e = ap (λ (r : List State). pre ++ (records k r ++ post)) (sym (kept_none b))
states-kept b k (a ∷ l) pre post e =
    let f = a.flags in
    let n = first_index (k + 1) l in
    let rest = records (k + 1) l ++ post in
    let b' = cond b true (is_start f) in
    let first = state_bytes (kept_flags b f) n in
    ap (λ (w : List ℕ). mark_kept (marked_at b k w) (k + 1) (length l) (cleared_at b k w)) (ap (λ (r : List ℕ). pre ++ r) (append_assoc (state_bytes f n) (records (k + 1) l) post))
    ∙ ap₂ (λ (m : Bool) (w : List ℕ). mark_kept m (k + 1) (length l) w) (marked_is k f n pre rest e b) (cleared_is k f n pre rest e b ∙ sym (append_assoc pre first rest))
    ∙ states-kept b' (k + 1) l (pre ++ first) post (past k (kept_flags b f) n pre rest e)
    ∙ sym (regroup pre first (records (k + 1) (kept_from b' l)) post)
    ∙ ap (λ (j : ℕ). pre ++ ((state_bytes (kept_flags b f) j ++ records (k + 1) (kept_from b' l)) ++ post)) (sym (kept-index b' (k + 1) l))
    ∙ ap (λ (r : List State). pre ++ (records k r ++ post)) (sym (kept_more b a l))

module _ (g : Graph) where
  arrows_from_lem : arrows_from (repaired g) ≡ arrows_from g
  arrows_from_lem = ap (λ (n : ℕ). 1 + n) (space_one (one_mark g.states) ∙ states-many g ∙ sym (space_one g.states))

  pub repaired-length : length (encode (repaired g)) ≡ length (encode g)
  repaired-length = encode-length (repaired g) ∙ ap (λ (n : ℕ). 16 * (1 + n)) (repaired-records g) ∙ sym (encode-length g)

  -- the sheet of the graph, with anything behind it
  pub sheet_kept : (tail : List ℕ) → mark_kept false 1 (length g.states) (encode g ++ tail) ≡ encode (repaired g) ++ tail
  unfolding encode
  sheet_kept tail =
      let h = header (records_for g) (first_index 1 g.states) (first_index (arrows_from g) g.arrows) in
      let arrows = all_records arrow_size arrow_records (arrows_from g) g.arrows in
      let parted : (l : List State) → (h ++ (records 1 l ++ arrows)) ++ tail ≡ h ++ (records 1 l ++ (arrows ++ tail)) =
      λ l. append_assoc h (records 1 l ++ arrows) tail ∙ ap (λ (r : List ℕ). h ++ r) (append_assoc (records 1 l) arrows tail) in
      ap (mark_kept false 1 (length g.states)) (parted g.states)
      ∙ states-kept false 1 g.states h (arrows ++ tail) refl
      ∙ sym (parted (one_mark g.states))
      ∙ rw (repaired-records g, kept-index false 1 g.states, arrows_from_lem)
