-- A line measured a byte at a time, so that it can come in pieces. Assumes nothing.
use Rattle.std.specs.Prelude.{◌≡◌, ℕ, ◌<◌, ◌≤◌, Bool, true, false, cond, not, ◌&&◌, T, List, [], ◌∷◌, length, ◌==◌, nat_eq, nat_lt, refl, Float}
use Rattle.std.proofs.Common.{sym, ap, ◌∙◌, subst, lt-ltb, le-ltb}
use Rattle.laws.specs.Cases.{by_bool}
use Rattle.laws.specs.Loops.{over}
use Rattle.laws.specs.Refusals.{decide}
use Rattle.laws.specs.Any.{any_of}
use Rattle.float.specs.Constants.{f0}
use Rattle.text.specs.Utf8.{well_formed}
use Rattle.text.specs.declared.Awaiting.{Awaiting}
use Rattle.text.specs.declared.Awaiting.TheVariants.{First}
use Rattle.text.specs.Automaton.{is_whole, feed_of, gather_of, feed_all, read_by}
use Rattle.text.specs.Table.{well_formed_is}
use Rattle.text.specs.Codes.{read_codes}
use Rattle.sheet.specs.declared.Limits.{Limits}
use Rattle.sheet.specs.Refusals.{ill_line}
use Rattle.label.specs.declared.Measure.{Measure}
use Rattle.refusal.specs.Refused.{Outcome, values, number}
use Rattle.label.specs.Label.{widened, line_width, wider_line, block_height, cut, total_length, sized}

abbrev pub measure : Awaiting → ℕ → Float → Measure
measure w value width = record { awaiting = w; value = value; width = width }

-- before the first byte of a line
abbrev pub measure_start : Measure
measure_start = measure First 0 f0

-- one byte: the width grows where a character is complete
unfoldable pub measure_of : Measure → ℕ → Measure
measure_of m b =
    let w = feed_of m.awaiting b in
    let value = gather_of m.awaiting m.value b in
    measure w value (cond (is_whole w) (widened m.width value) m.width)

-- all bytes of a piece
abbrev pub measure_all : Measure → List ℕ → Measure
measure_all m s = over measure_of m s

measure_awaiting : (m : Measure) (s : List ℕ) → (measure_all m s).awaiting ≡ feed_all m.awaiting s
unfolding over measure_of
measure_awaiting m [] = refl
measure_awaiting m (b ∷ s) = measure_awaiting (measure_of m b) s

measure-width : (m : Measure) (s : List ℕ) → (measure_all m s).width ≡ read_by widened m.awaiting m.value m.width s
unfolding over measure_of read_by
measure-width m [] = refl
measure-width m (b ∷ s) = measure-width (measure_of m b) s

-- the line is well-formed exactly where its measure ends with a whole character
pub measured_formed : (line : List ℕ) → well_formed line ≡ is_whole (measure_all measure_start line).awaiting
measured_formed line = well_formed_is line ∙ ap is_whole (sym (measure_awaiting measure_start line))

-- and its width is the measure's
pub measured-width : (line : List ℕ) → (measure_all measure_start line).width ≡ line_width line
unfolding line_width
measured-width line = measure-width measure_start line ∙ read_codes widened f0 line

-- ---- the parts of the call
-- no length is above the limit, and they add up to so many bytes
unfoldable pub lengths_fit : ℕ → ℕ → List ℕ → Bool
lengths_fit most bytes lengths = not (any_of (nat_lt most) lengths) && bytes == total_length lengths

-- the size of lines that come after some of width w, where the whole block has height h
unfoldable pub lines_size : Float → Float → List (List ℕ) → Outcome (Float × Float)
lines_size h w lines = cond (any_of ill_line lines) (number 6) (values (over wider_line w lines, h))

module _ (m : Limits) (text lengths : List ℕ) where
  pub sized-many : m.lines < length lengths → sized m text lengths ≡ number 5
  unfolding sized decide
  sized-many h = rw (lt-ltb m.lines (length lengths) h)

  pub sized_unfit : length lengths ≤ m.lines → lengths_fit 96 (length text) lengths ≡ false → sized m text lengths ≡ number 5
  unfolding sized decide lengths_fit
  sized_unfit h f =
      by_bool (any_of (nat_lt 96) lengths) (λ a. rw (le-ltb m.lines (length lengths) h, a))
      (λ a. let g : nat_eq (length text) (total_length lengths) ≡ false = rw a at f in rw (le-ltb m.lines (length lengths) h, a, g))

  pub sized-fit : length lengths ≤ m.lines → lengths_fit 96 (length text) lengths ≡ true
      → sized m text lengths ≡ lines_size (block_height (length lengths)) f0 (cut text lengths)
  unfolding sized decide lengths_fit lines_size
  sized-fit h f =
      by_bool (any_of (nat_lt 96) lengths) (λ a. let z : false ≡ true = rw a at f in absurd (subst T (sym z) tt))
      (λ a. let g : nat_eq (length text) (total_length lengths) ≡ true = rw a at f in rw (le-ltb m.lines (length lengths) h, a, g))
