-- The size of a label block, and the answer of the call that gives it.
use Rattle.std.specs.Prelude.{ℕ, ◌+◌, Bool, cond, not, ◌&&◌, ltb, List, [], ◌∷◌, length, take, drop, ◌==◌, nat_le, nat_lt, Float}
use Rattle.laws.specs.Loops.{over}
use Rattle.laws.specs.Refusals.{Refusal, refusal, decide}
use Rattle.laws.specs.Any.{any_of}
use Rattle.float.specs.Ops.{◌⊕◌, ◌⊗◌, of_nat}
use Rattle.float.specs.Constants.{f0, label_char_width, label_wide_char_width, label_line_height}
use Rattle.float.specs.Standins.{max}
use Rattle.text.specs.Utf8.{code_points}
use Rattle.sheet.specs.declared.Limits.{Limits}
use Rattle.sheet.specs.Refusals.{ill_line}
use Rattle.label.specs.declared.Block.{Block}
use Rattle.refusal.specs.Refused.{Outcome, values, number}

-- Document 02, T-02: 'Characters U+0300 to U+036F now have width 0, in place of a full em; all others stay.'
abbrev pub accent : ℕ → Bool
accent c = nat_le 0x300 c && nat_le c 0x36f

-- Document 01: 'Character widths: ASCII 0.6·12, all others 12, line height 15'. The width of a code point
unfoldable pub char_width : ℕ → Float
char_width c = cond (accent c) f0 (cond (nat_lt c 0x80) label_char_width label_wide_char_width)

abbrev pub widened : Float → ℕ → Float
widened w c = w ⊕ char_width c

-- 'A line's width is added character by character from 0'
unfoldable pub line_width : List ℕ → Float
line_width line = over widened f0 (code_points line)

-- the widest line, from 0, and a line height for each line
unfoldable pub wider_line : Float → List ℕ → Float
wider_line w line = max w (line_width line)

abbrev pub block_width : List (List ℕ) → Float
block_width lines = over wider_line f0 lines

abbrev pub block_height : ℕ → Float
block_height n = of_nat n ⊗ label_line_height

-- the size of a block with these lines
abbrev pub block : List (List ℕ) → Block
block lines = record { width = block_width lines; height = block_height (length lines) }

-- ---- 'A label block is given text bytes and a list of line lengths'
-- the lines, one after the other
unfoldable pub cut : List ℕ → List ℕ → List (List ℕ)
cut s [] = []
cut s (n ∷ ns) = take n s ∷ cut (drop n s) ns

unfoldable pub total_length : List ℕ → ℕ
total_length [] = 0
total_length (n ∷ ns) = n + total_length ns

-- 'it meets only 5 (also where the lengths do not add up to the text) and 6': more lines than the limit, or more than 96 bytes in a line;
-- lengths that do not add up; then a line that is not well-formed UTF-8
abbrev pub label_refusals : Limits → List ℕ → List ℕ → List Refusal
label_refusals m text lengths =
    refusal 5 (nat_lt m.lines (length lengths))
    ∷ refusal 5 (any_of (ltb 96) lengths)
    ∷ refusal 5 (not (length text == total_length lengths))
    ∷ refusal 6 (any_of ill_line (cut text lengths))
    ∷ []

unfoldable pub sized : Limits → List ℕ → List ℕ → Outcome (Float × Float)
sized m text lengths = decide (label_refusals m text lengths) number (values (block_width (cut text lengths), block_height (length lengths)))
