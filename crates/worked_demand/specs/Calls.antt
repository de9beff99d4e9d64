-- Two calls of `route`, one under the main screen's limits and one under the service panel's, whose sheets differ in one line of one arrow: a two-way pair, a straight arrow and a loop, each with a label.
use Rattle.std.specs.Prelude.{List, [], ◌∷◌, ◌++◌, ℕ, replicate, Float}
use Rattle.float.specs.Constants.{f0, whole}
use Rattle.text.specs.Ascii.{ascii}
use Rattle.sheet.specs.Refusals.{main_screen, service_panel}
use Rattle.sheet.specs.Records.{header, state_bytes, arrow_bytes, line_bytes, text_bytes}
use Rattle.demand3.specs.Demand.{Call}

-- three states, the first a start; arrow 0 leads from 0 to 1 with the line `a`, arrow 1 from 1 to 0 with the line given, arrow 2 from 0 to 2 with `c`,
-- arrow 3 from 2 to 2 with `d`
abbrev pub sheet_with : List ℕ → List ℕ
sheet_with l =
    header 15 1 4
    ++ state_bytes 1 2 ++ state_bytes 0 3 ++ state_bytes 0 0
    ++ arrow_bytes 5 0 1 8 ++ arrow_bytes 6 1 0 10 ++ arrow_bytes 7 0 2 12 ++ arrow_bytes 0 2 2 14
    ++ line_bytes 0 9 ++ text_bytes 0 (ascii "a")
    ++ line_bytes 0 11 ++ text_bytes 0 l
    ++ line_bytes 0 13 ++ text_bytes 0 (ascii "c")
    ++ line_bytes 0 15 ++ text_bytes 0 (ascii "d")

abbrev pub one_letter : List ℕ
one_letter = ascii "b"

abbrev pub twelve_letters : List ℕ
twelve_letters = ascii "bbbbbbbbbbbb"

-- the centres 0 0, 120 0 and 0 100
abbrev pub worked_xs : List Float
worked_xs = f0 ∷ whole 120 ∷ f0 ∷ []

abbrev pub worked_ys : List Float
worked_ys = f0 ∷ f0 ∷ whole 100 ∷ []

abbrev pub first : Call
first = record { sheet = sheet_with one_letter; limits = main_screen; xs = worked_xs; ys = worked_ys; records = replicate 80 f0; text = replicate 141 0 }

-- with a fourth x, which is no state's, and longer outputs
abbrev pub second : Call
second = record { sheet = sheet_with twelve_letters; limits = service_panel; xs = worked_xs ++ (whole 7 ∷ []); ys = worked_ys; records = replicate 90 f0; text = replicate 150 0 }
