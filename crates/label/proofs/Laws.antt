-- One step of each loop and where it begins, from what the calls give. Assumes nothing.
use Rattle.std.proofs.Common.{◌≡◌, ℕ, suc, ◌+◌, ◌-◌, ◌<◌, ◌≤◌, Bool, true, false, not, ◌&&◌, eqb, ltb, List, [], ◌∷◌, map, length, get_or, take, drop, sym, refl, ap, ◌∙◌, add-one, arith, drop_of_length-le, drop-cons, le-ltb, lt-ltb, eq-eqb, ne_eqb, eqb-true}
use mathlib.Core.List.{flat_map}
use lib.Ieee.{Float}
use lib.ListN.{length-map}
use borrow.Author.Tests.{eqb-false}
use Rattle.std.specs.List.{fold}
use Rattle.laws.specs.Cases.{by_bool}
use Rattle.laws.specs.Loops.{over, over_join}
use Rattle.laws.specs.Any.{any_of}
use Rattle.laws.specs.Bools.{and_second}
use Rattle.float.specs.Constants.{f0}
use Rattle.float.specs.Standins.{max}
use Rattle.text.specs.Utf8.{well_formed}
use Rattle.sheet.specs.Sheet.{chain, piece, first_text, line_of, lines_from}
use Rattle.text.specs.Automaton.{is_whole}
use Rattle.label.specs.declared.Measure.{Measure}
use Rattle.label.specs.declared.Block.{Block}
use Rattle.refusal.specs.Refused.{values, number}
use Rattle.label.specs.Label.{line_width, wider_line, block_height, block, block_width, cut, total_length}
use Rattle.label.specs.Measuring.{measure_of, measure_all, measure_start, measured_formed, measured-width, lengths_fit, lines_size}

-- ---- the lengths from i on
and_no : (a : Bool) → (a && false) ≡ false
and_no true = refl
and_no false = refl

same_test : (a b c d : ℕ) → (a ≡ b → c ≡ d) → (c ≡ d → a ≡ b) → eqb a b ≡ eqb c d
same_test a b c d f g =
    by_bool (eqb a b)
    (λ e. e ∙ sym (eq-eqb c d (f (eqb-true a b e))))
    (λ e. e ∙ sym (ne_eqb c d (λ h. eqb-false a b e (g h))))

fit-over : (most bytes n : ℕ) (ns : List ℕ) → most < n → false ≡ lengths_fit most bytes (n ∷ ns)
unfolding lengths_fit any_of
fit-over most bytes n ns h = rw (lt-ltb most n h)

fit-short : (most bytes n : ℕ) (ns : List ℕ) → bytes < n → false ≡ lengths_fit most bytes (n ∷ ns)
unfolding lengths_fit total_length
fit-short most bytes n ns h = let z : bytes ≡ n + total_length ns → ⊥ = λ e. omega arith in rw (ne_eqb bytes (n + total_length ns) z, and_no)

fit_turn : (most bytes n : ℕ) (ns : List ℕ) → n ≤ most → n ≤ bytes → lengths_fit most (bytes - n) ns ≡ lengths_fit most bytes (n ∷ ns)
unfolding lengths_fit any_of total_length
fit_turn most bytes n ns h k = rw (le-ltb most n h, same_test (bytes - n) (total_length ns) bytes (n + total_length ns) (λ e. omega arith) (λ e. omega arith))

module _ (most left : ℕ) (l : List ℕ) (i : ℕ) (h : i < length l) where
  here : drop i l ≡ get_or l i 0 ∷ drop (suc i) l
  here = drop-cons l i 0 h

  pub fit_over_at : most < get_or l i 0 → false ≡ lengths_fit most left (drop i l)
  fit_over_at k = fit-over most left (get_or l i 0) (drop (suc i) l) k ∙ ap (lengths_fit most left) (sym here)

  pub fit_short_at : left < get_or l i 0 → false ≡ lengths_fit most left (drop i l)
  fit_short_at k = fit-short most left (get_or l i 0) (drop (suc i) l) k ∙ ap (lengths_fit most left) (sym here)

  pub fit_turn_at : get_or l i 0 ≤ most → get_or l i 0 ≤ left → lengths_fit most (left - get_or l i 0) (drop (i + 1) l) ≡ lengths_fit most left (drop i l)
  fit_turn_at j k =
      ap (λ (n : ℕ). lengths_fit most (left - get_or l i 0) (drop n l)) (add-one i)
      ∙ fit_turn most left (get_or l i 0) (drop (suc i) l) j k
      ∙ ap (lengths_fit most left) (sym here)

  pub total-at : total_length (drop i l) ≡ get_or l i 0 + total_length (drop (i + 1) l)
  unfolding total_length
  total-at = ap total_length here ∙ ap (λ (n : ℕ). get_or l i 0 + total_length (drop n l)) (sym (add-one i))

pub fit_end_at : (most left : ℕ) (l : List ℕ) (i : ℕ) → length l ≤ i → eqb left 0 ≡ lengths_fit most left (drop i l)
unfolding lengths_fit any_of total_length
fit_end_at most left l i h = rw (drop_of_length-le l h)

-- ---- the lines from i on, which are the text that is left
module _ (h w : Float) (text lengths : List ℕ) (i : ℕ) where
  abbrev rest : List (List ℕ)
  rest = cut text (drop i lengths)

  abbrev line : List ℕ
  line = take (get_or lengths i 0) text

  abbrev later : List (List ℕ)
  later = cut (drop (get_or lengths i 0) text) (drop (i + 1) lengths)

  cut_at : i < length lengths → rest ≡ line ∷ later
  unfolding cut
  cut_at k = rw (drop-cons lengths i 0 k, add-one i)

  -- a line that is not well-formed, and one that is
  pub line_ill : i < length lengths → (m : Measure) → m ≡ measure_all measure_start line → is_whole m.awaiting ≡ false → number 6 ≡ lines_size h w rest
  unfolding lines_size any_of
  line_ill k m e z = let f : well_formed line ≡ false = measured_formed line ∙ sym (ap (λ (n : Measure). is_whole n.awaiting) e) ∙ z in rw (cut_at k, f)

  pub line_well : i < length lengths → (m : Measure) → m ≡ measure_all measure_start line → is_whole m.awaiting ≡ true
      → lines_size h (max w m.width) later ≡ lines_size h w rest
  unfolding lines_size any_of over wider_line
  line_well k m e z =
      let f : well_formed line ≡ true = measured_formed line ∙ sym (ap (λ (n : Measure). is_whole n.awaiting) e) ∙ z in
      let u : m.width ≡ line_width line = ap (λ (n : Measure). n.width) e ∙ measured-width line in
      rw (cut_at k, f, u)

  pub lines_end : length lengths ≤ i → values (w, h) ≡ lines_size h w rest
  unfolding lines_size any_of over cut
  lines_end k = rw (drop_of_length-le lengths k)

pub fit-total : (most bytes : ℕ) (l : List ℕ) → lengths_fit most bytes l ≡ true → bytes ≡ total_length l
unfolding lengths_fit
fit-total most bytes l e = eqb-true bytes (total_length l) (and_second (not (any_of (ltb most) l)) (eqb bytes (total_length l)) e)

-- ---- folds along a chain, in the words of the sheet's meaning
measure_pieces : (s : List ℕ) (m : Measure) (l : List ℕ) → fold (λ t i. measure_all t (piece s i)) m l ≡ measure_all m (flat_map (piece s) l)
unfolding over flat_map
measure_pieces s m [] = refl
measure_pieces s m (i ∷ l) = measure_pieces s (measure_all m (piece s i)) l ∙ sym (over_join measure_of m (piece s i) (flat_map (piece s) l))

pub measure_of_line : (s : List ℕ) (k : ℕ) → fold (λ t i. measure_all t (piece s i)) measure_start (chain s (first_text s k)) ≡ measure_all measure_start (line_of s k)
unfolding line_of
measure_of_line s k = measure_pieces s measure_start (chain s (first_text s k))

widest_map : (s : List ℕ) (w : Float) (l : List ℕ) → fold (λ v k. wider_line v (line_of s k)) w l ≡ over wider_line w (map (line_of s) l)
unfolding over
widest_map s w [] = refl
widest_map s w (k ∷ l) = widest_map s (wider_line w (line_of s k)) l

pub widest_of_chain : (s : List ℕ) (first : ℕ) → fold (λ v k. wider_line v (line_of s k)) f0 (chain s first) ≡ block_width (lines_from s first)
unfolding lines_from
widest_of_chain s first = widest_map s f0 (chain s first)

-- a line's measure widens the block as the line does
pub wider-measured : (w v : Float) (line : List ℕ) (m : Measure) → m ≡ measure_all measure_start line → v ≡ max w m.width → v ≡ wider_line w line
unfolding wider_line
wider-measured w v line m e f = f ∙ ap (max w) (ap (λ (m : Measure). m.width) e ∙ measured-width line)

abbrev pub sized_block : Float → Float → Block
sized_block w h = record { width = w; height = h }

pub block_is : (s : List ℕ) (first n : ℕ) (w h : Float) → w ≡ over wider_line f0 (lines_from s first) → n ≡ length (chain s first) → h ≡ block_height n
    → sized_block w h ≡ block (lines_from s first)
unfolding lines_from
block_is s first n w h e f g = rw (e, g, f, length-map)
