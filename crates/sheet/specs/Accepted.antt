-- What holds of a sheet that is not refused. Assumes nothing.
use Rattle.std.specs.Prelude.{◌≡◌, true, false, ◌||◌, ℕ, ◌+◌, ◌*◌, ◌≤◌, ◌<◌, ltb, eqb, length, get_or}
use Rattle.std.proofs.Math.Path.{ap}
use Rattle.std.proofs.Math.Bool.{not}
use mathlib.Core.List.{List, []}
use Rattle.std.proofs.Common.{arith}
use Rattle.laws.specs.Refusals.{Clear}
use Rattle.laws.specs.Any.{any_of, none_at, none_all}
use Rattle.laws.specs.Bools.{or_false_left, or_false_right, or_none}
use borrow.Author.Tests.{ltb-false, le-ltb, eqb-true, not-false}
use Rattle.text.specs.Utf8.{well_formed}
use Rattle.sheet.specs.Sheet.{count, Graph, meaning}
use Rattle.sheet.specs.Refusals.{wrong_length, long_line, large_arrow, over_limits, ill_line, ill_arrow, ill_formed, refusals, main_screen, AtMost, check_of}
use Rattle.sheet.specs.Order.{accepted_exactly}
use Rattle.refusal.specs.Refused.{values}
use Rattle.sheet.specs.declared.Limits.{Limits}
use Rattle.sheet.specs.Meaning.{no_arrow, arrow_at}

pub right_length : (s : List ℕ) → wrong_length s ≡ false → length s ≡ 16 * (1 + count s)
right_length s e =
    eqb-true (length s) (16 * (1 + count s))
    (not-false (eqb (length s) (16 * (1 + count s)))
    (or_false_right (ltb 65536 (length s)) (not (eqb (length s) (16 * (1 + count s))))
    (or_false_right (ltb (length s) 16) (ltb 65536 (length s) || not (eqb (length s) (16 * (1 + count s)))) e)))

-- A sheet of right length has at most 4,095 records.
pub few : (s : List ℕ) → wrong_length s ≡ false → count s < 4096
few s e =
    let over = or_false_right (ltb (length s) 16) (ltb 65536 (length s) || not (eqb (length s) (16 * (1 + count s)))) e in
    let a : length s ≤ 65536 = ltb-false 65536 (length s) (or_false_left (ltb 65536 (length s)) (not (eqb (length s) (16 * (1 + count s)))) over) in
    let b : length s ≡ 16 * (1 + count s) = right_length s e in
    omega arith

-- line j of arrow k; an empty one past the end
abbrev pub line_at : Graph → ℕ → ℕ → List ℕ
line_at g k j = get_or (arrow_at g k).lines j []

-- A graph within limits whose lines have at most 96 bytes and are well-formed.
pub record Within (m : Limits) (g : Graph) : Type 0 where
  pub states : length g.states ≤ m.states
  pub arrows : length g.arrows ≤ m.arrows
  pub lines : (k : ℕ) → k < length g.arrows → length (arrow_at g k).lines ≤ m.lines
  pub bytes : (k j : ℕ) → k < length g.arrows → j < length (arrow_at g k).lines → length (line_at g k j) ≤ 96
  pub formed : (k j : ℕ) → k < length g.arrows → j < length (arrow_at g k).lines → well_formed (line_at g k j) ≡ true

-- what a graph has that 5 does not refuse
module _ (m : Limits) (g : Graph) (o : over_limits m g ≡ false) where
  pub few_states : ltb m.states (length g.states) ≡ false
  unfolding over_limits
  few_states = or_false_left (ltb m.states (length g.states)) _ o

  pub few_arrows : ltb m.arrows (length g.arrows) ≡ false
  unfolding over_limits
  few_arrows = or_false_left (ltb m.arrows (length g.arrows)) _ (or_false_right (ltb m.states (length g.states)) _ o)

  none_large : any_of (large_arrow m) g.arrows ≡ false
  unfolding over_limits
  none_large = or_false_right (ltb m.arrows (length g.arrows)) _ (or_false_right (ltb m.states (length g.states)) _ o)

  module _ (k : ℕ) (h : k < length g.arrows) where
    pub few_lines : ltb m.lines (length (arrow_at g k).lines) ≡ false
    unfolding large_arrow
    few_lines = or_false_left (ltb m.lines (length (arrow_at g k).lines)) (any_of long_line (arrow_at g k).lines) (none_at (large_arrow m) g.arrows k no_arrow none_large h)

    pub none_long : any_of long_line (arrow_at g k).lines ≡ false
    unfolding large_arrow
    none_long = or_false_right (ltb m.lines (length (arrow_at g k).lines)) (any_of long_line (arrow_at g k).lines) (none_at (large_arrow m) g.arrows k no_arrow none_large h)

module _ (m : Limits) (g : Graph) (o : over_limits m g ≡ false) (i : ill_formed g ≡ false) where
  none_ill : any_of ill_arrow g.arrows ≡ false
  unfolding ill_formed
  none_ill = i

  none_bad : (k : ℕ) → k < length g.arrows → any_of ill_line (arrow_at g k).lines ≡ false
  unfolding ill_arrow
  none_bad k h = none_at ill_arrow g.arrows k no_arrow none_ill h

  graph-within : Within m g
  graph-within = record {
    states = ltb-false m.states (length g.states) (few_states m g o);
    arrows = ltb-false m.arrows (length g.arrows) (few_arrows m g o);
    lines = λ k h. ltb-false m.lines (length (arrow_at g k).lines) (few_lines m g o k h);
    bytes = λ k j h l. ltb-false 96 (length (line_at g k j)) (none_at long_line (arrow_at g k).lines j [] (none_long m g o k h) l);
    formed = λ k j h l. not-false (well_formed (line_at g k j)) (none_at ill_line (arrow_at g k).lines j [] (none_bad k h) l);
  }

-- And a graph within the limits, with well-formed lines, is not refused by 5 or 6.
module _ (m : Limits) (g : Graph) (w : Within m g) where
  pub not-over : over_limits m g ≡ false
  unfolding over_limits large_arrow
  not-over =
      or_none (ltb m.states (length g.states)) (ltb m.arrows (length g.arrows) || any_of (large_arrow m) g.arrows) (le-ltb m.states (length g.states) w.states)
      (or_none (ltb m.arrows (length g.arrows)) (any_of (large_arrow m) g.arrows) (le-ltb m.arrows (length g.arrows) w.arrows)
      (none_all (large_arrow m) g.arrows no_arrow
      (λ k h. or_none (ltb m.lines (length (arrow_at g k).lines)) (any_of long_line (arrow_at g k).lines) (le-ltb m.lines (length (arrow_at g k).lines) (w.lines k h))
      (none_all long_line (arrow_at g k).lines [] (λ j l. le-ltb 96 (length (line_at g k j)) (w.bytes k j h l))))))

  pub not_ill : ill_formed g ≡ false
  unfolding ill_formed ill_arrow
  not_ill = none_all ill_arrow g.arrows no_arrow (λ k h. none_all ill_line (arrow_at g k).lines [] (λ j l. ap not (w.formed k j h l)))

-- An accepted sheet is within the limits, and its lines are well-formed.
pub within-limits : (m : Limits) (s : List ℕ) → check_of m s ≡ values tt → Within m (meaning s)
within-limits m s q = let c : Clear (refusals m s) = (accepted_exactly m s).0 q in graph-within m (meaning s) (c.none 5) (c.none 6)

-- At the main screen: at most 64 states, 256 arrows, 8 lines an arrow and 96 bytes a line.
pub record OnMainScreen (g : Graph) : Type 0 where
  pub states : length g.states ≤ 64
  pub arrows : length g.arrows ≤ 256
  pub lines : (k : ℕ) → k < length g.arrows → length (arrow_at g k).lines ≤ 8
  pub bytes : (k j : ℕ) → k < length g.arrows → j < length (arrow_at g k).lines → length (line_at g k j) ≤ 96
  pub formed : (k j : ℕ) → k < length g.arrows → j < length (arrow_at g k).lines → well_formed (line_at g k j) ≡ true

pub on_main_screen : (m : Limits) (s : List ℕ) → AtMost m main_screen → check_of m s ≡ values tt → OnMainScreen (meaning s)
on_main_screen m s a q =
    let w = within-limits m s q in
    record {
      states = omega (arith, w.states, a.states);
      arrows = omega (arith, w.arrows, a.arrows);
      lines = λ k h. omega (arith, w.lines k h, a.lines);
      bytes = w.bytes;
      formed = w.formed;
    }
