-- Accents take no width. Assumes nothing.
use Rattle.std.specs.Prelude.{◌≡◌, refl, true, false, ◌||◌, List, [], ◌∷◌, map, ℕ, suc, ◌+◌, ◌≤◌, ◌<◌, ltb, eqb, length, get_or, drop, Float}
use Rattle.std.proofs.Math.Path.{sym, ap}
use Rattle.std.proofs.Common.{ap₂, ◌∙◌, append-nil, arith, le-ltb, eq-eqb}
use Rattle.std.proofs.Math.Bool.{not}
use Rattle.std.proofs.Math.Seq.{take-length}
use Rattle.std.specs.Float.Ieee.{of_bits}
use Rattle.std.specs.Float.Ieee as Ieee
use Rattle.laws.specs.Any.{any_of, none_at, none_all}
use Rattle.laws.specs.Bools.{or_false_right}
use Rattle.laws.specs.Lists.{map-alike}
use Rattle.laws.specs.Loops.{over}
use Rattle.laws.specs.Refusals.{decide, Clear, clear_none, without, clear_decides}
use Rattle.float.specs.Constants.{f0, f15}
use Rattle.float.specs.Standins.{max}
use Rattle.text.specs.Utf8.{well_formed}
use Rattle.text.specs.Encode.{utf8, Scalar, formed_utf8}
use Rattle.text.specs.Encoded.{utf8-length}
use Rattle.sheet.specs.Sheet.{Graph, meaning}
use Rattle.sheet.specs.Meaning.{no_arrow, arrow_at}
use Rattle.sheet.specs.Refusals.{ill_line}
use Rattle.sheet.specs.Order.{accepted_exactly}
use Rattle.sheet.specs.Accepted.{line_at, Within, not-over, not_ill, within-limits}
use Rattle.label.specs.declared.Block.{Block}
use Rattle.label.specs.Label.{char_width, wider_line, label_refusals, cut, total_length, block_width, block_height}
use Rattle.label.specs.Accents.{bare, zero-width, other_width, border_widths, each_width, character_width, same_width, same_block, with_bare, with_formed, accents_alone, accents_line}
use Rattle.routing.specs.Sheets.{size_of}
use Rattle.calls.specs.Calls.{values, number, capped_limits, check, label_size}
use Rattle.calls.specs.Laws.{capped-largest}
use Rattle.sheet.specs.declared.Limits.{Limits}
use Rattle.calls.specs.Decided.{answered-clear}
use Rattle.calls.specs.Refused.{check-answered}
use Rattle.demand3.specs.Demand.{graph}
use Rattle.accents.specs.Sheets.{LinesPut, AccentsOnly, AccentsPut, SameSizes, Sound, AccentsTakeNoWidth}
use Rattle.accents.specs.BySizes.{by_sizes_lem, by_sizes_records}

-- ---- the sizes of labels

sizes-alike : (g h : Graph) → AccentsOnly g h → SameSizes g h
sizes-alike g h e = record {
  ends = e.ends;
  sizes = map-alike size_of size_of g.arrows h.arrows no_arrow no_arrow e.ends.many
      (λ k l. ap (λ (b : Block). record { width = b.width; height = b.height }) (same_block (arrow_at g k).lines (arrow_at h k).lines (e.lines k l)));
}

-- as many lines as lengths
cut-length : (s ns : List ℕ) → length (cut s ns) ≡ length ns
unfolding cut
cut-length s [] = refl
cut-length s (n ∷ ns) = ap suc (cut-length (drop n s) ns)

-- what is answered is the block's size
block-answered : (s ns : List ℕ) (m : Limits) (v : Float × Float) → label_size s ns m ≡ values v → v ≡ (block_width (cut s ns), block_height (length (cut s ns)))
unfolding label_size
block-answered s ns m v h =
    (answered-clear (label_refusals (capped_limits m) s ns) (block_width (cut s ns), block_height (length ns)) v (sym h)).1
    ∙ ap (λ (n : ℕ). (block_width (cut s ns), block_height n)) (sym (cut-length s ns))

blocks_alike : (text lengths text' lengths' : List ℕ) (l m : Limits) (a b : Float × Float) → label_size text lengths l ≡ values a → label_size text' lengths' m ≡ values b
    → map bare (cut text lengths) ≡ map bare (cut text' lengths') → a ≡ b
blocks_alike text lengths text' lengths' l m a b p q e =
    block-answered text lengths l a p
    ∙ ap (λ (z : Block). (z.width, z.height)) (same_block (cut text lengths) (cut text' lengths') e)
    ∙ sym (block-answered text' lengths' m b q)

-- the width of a block of one character
one_wide : (c : ℕ) → max f0 (char_width c) ≡ char_width c
unfolding of_bits Ieee.lt Ieee.ne Ieee.eq
one_wide c = each_width (λ w. max f0 w ≡ w) refl refl refl c

one_high : block_height 1 ≡ f15
unfolding Ieee.of_int Ieee.mul Ieee.round of_bits
one_high = refl

cut_one : (s : List ℕ) → cut s (length s ∷ []) ≡ s ∷ []
unfolding cut
cut_one s = ap (λ (l : List ℕ). l ∷ []) (take-length s)

-- limits of one line and nothing else
abbrev one_line : Limits
one_line = record { states = 0; arrows = 0; lines = 1 }

one_answered : (c : ℕ) (m : Limits) → Scalar c → 1 ≤ m.lines → label_size (utf8 c) (length (utf8 c) ∷ []) m ≡ values (char_width c, f15)
unfolding label_size decide any_of total_length over wider_line
one_answered c m q h =
    let n = length (utf8 c) in
    let few : ltb (capped_limits m).lines 1 ≡ false = le-ltb (capped_limits m).lines 1 (capped-largest one_line m (record { states = omega arith; arrows = omega arith; lines = h }) (record { states = omega arith; arrows = omega arith; lines = omega arith })).lines in
    let short : ltb 96 n ≡ false = le-ltb 96 n (omega (arith, (utf8-length c).1)) in
    let whole : eqb n (n + 0) ≡ true = eq-eqb n (n + 0) (omega arith) in
    let formed : well_formed (utf8 c) ≡ true = ap well_formed (sym (append-nil (utf8 c))) ∙ formed_utf8 c [] q in
    rw (few, short, whole, cut_one (utf8 c), formed) (ap₂ (λ (w h : Float). values (w, h)) (ap (max f0) (character_width c q) ∙ one_wide c) one_high)

-- ---- accents put into lines

lines_bare : (l m : List (List ℕ)) → LinesPut l m → map bare l ≡ map bare m
lines_bare l m e = map-alike bare bare l m [] [] e.many (λ j h. sym (with_bare (get_or l j []) (get_or m j []) (e.each j h)))

lines_formed : (l m : List (List ℕ)) → LinesPut l m → any_of ill_line l ≡ false → any_of ill_line m ≡ false
lines_formed l m e o =
    none_all ill_line m []
    (λ j h. let i : j < length l = omega (arith, e.many) in ap not (with_formed (get_or l j []) (get_or m j []) (e.each j i)) ∙ none_at ill_line l j [] o i)

-- ---- of a label block

module _ (text lengths text' lengths' : List ℕ) (m : Limits) (a : Float × Float) (h : label_size text lengths m ≡ values a) (e : LinesPut (cut text lengths) (cut text' lengths')) where
  block-clear : Clear (label_refusals (capped_limits m) text lengths)
  unfolding label_size
  block-clear = (answered-clear (label_refusals (capped_limits m) text lengths) (block_width (cut text lengths), block_height (length lengths)) a (sym h)).0

  few_lines : ltb (capped_limits m).lines (length lengths') ≡ false
  few_lines =
      let n : length lengths ≡ length lengths' = sym (cut-length text lengths) ∙ e.many ∙ cut-length text' lengths' in
      ap (ltb (capped_limits m).lines) (sym n) ∙ or_false_right (not (eqb (length text) (total_length lengths)) || any_of (ltb 96) lengths) (ltb (capped_limits m).lines (length lengths)) (block-clear.none 5)

  block-put : any_of (ltb 96) lengths' ≡ false → length text' ≡ total_length lengths' → label_size text' lengths' m ≡ values a
  unfolding label_size
  block-put b t =
      clear_decides number (values (block_width (cut text' lengths'), block_height (length lengths'))) (label_refusals (capped_limits m) text' lengths')
      (without 5 few_lines (without 5 b (without 5 (ap not (eq-eqb (length text') (total_length lengths') t)) (without 6 (lines_formed (cut text lengths) (cut text' lengths') e (block-clear.none 6)) clear_none))))
      ∙ ap values
      (ap (λ (n : ℕ). (block_width (cut text' lengths'), block_height n)) (sym (cut-length text' lengths'))
      ∙ ap (λ (z : Block). (z.width, z.height)) (sym (same_block (cut text lengths) (cut text' lengths') (lines_bare (cut text lengths) (cut text' lengths') e)))
      ∙ sym (block-answered text lengths m a h))

-- ---- of a sheet

put_only : (g h : Graph) → AccentsPut g h → AccentsOnly g h
put_only g h e = record { ends = e.ends; lines = λ k l. lines_bare (arrow_at g k).lines (arrow_at h k).lines (e.lines k l) }

module _ (s t : List ℕ) (m : Limits) (a : check s m ≡ values tt) (e : AccentsPut (meaning s) (meaning t)) (o : Sound t) where
  put-within : Within (capped_limits m) (meaning t)
  put-within =
      let w : Within (capped_limits m) (meaning s) = within-limits (capped_limits m) s ((accepted_exactly (capped_limits m) s).1 ((check-answered s m).answer.0 a)) in
      record {
        states = omega (arith, w.states, e.ends.states);
        arrows = omega (arith, w.arrows, e.ends.many);
        lines = λ k h. let i : k < length (meaning s).arrows = omega (arith, e.ends.many) in omega (arith, w.lines k i, (e.lines k i).many);
        bytes = o.bytes;
        formed = λ k j h l.
            let i : k < length (meaning s).arrows = omega (arith, e.ends.many) in
            let q : j < length (arrow_at (meaning s) k).lines = omega (arith, (e.lines k i).many) in
            with_formed (line_at (meaning s) k j) (line_at (meaning t) k j) ((e.lines k i).each j q) ∙ w.formed k j i q;
      }

  put_accepted : check t m ≡ values tt
  put_accepted =
      (check-answered t m).answer.1
      (without 1 o.records.right (without 2 o.records.first (without 4 o.records.plain (without 3 o.records.chained
      (without 5 (not-over (capped_limits m) (meaning t) put-within) (without 6 (not_ill (capped_limits m) (meaning t) put-within) clear_none))))))

-- for all label blocks, all sheets, all limits, all centres and all lent slices
pub accents_take_no_width : AccentsTakeNoWidth
accents_take_no_width = record {
  exactly = zero-width;
  others = other_width;
  borders = border_widths;
  one = one_answered;
  put = λ line l p. (with_bare line l p, same_width l line (with_bare line l p), with_formed line l p);
  alone = λ marks a. (accents_alone marks a, λ l m. accents_line l m marks a);
  measured = block-answered;
  blocks = blocks_alike;
  blocks_put = block-put;
  by_sizes = by_sizes_lem;
  records_by_sizes = by_sizes_records;
  same_sizes = sizes-alike;
  sheets = λ s t l m a b o. by_sizes_lem s t l m a b (sizes-alike (meaning s) (meaning t) o);
  routings = λ c d a b o p. by_sizes_records c d a b (sizes-alike (graph c) (graph d) o) p;
  only = put_only;
  accepted = put_accepted;
}
