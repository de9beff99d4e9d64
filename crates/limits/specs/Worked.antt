-- Sheets and label blocks under limits, computed: a list, and one theorem over it. Assumes nothing.
use Rattle.std.specs.Prelude.{Bool, true, ◌&&◌, ℕ, suc, ◌*◌, T, eqb, replicate}
use mathlib.Core.List.{List, [], ◌∷◌, ◌++◌, flat_map}
use Rattle.laws.specs.Any.{any_of}
use Rattle.laws.specs.Loops.{any_for, any_up, over}
use Rattle.laws.specs.Refusals.{decide}
use Rattle.sheet.specs.Sheet.{chain_by, met_line, met_arrow, met, line_of, lines_from, arrow_of, states_of, arrows_of}
use Rattle.sheet.specs.Refusals.{repeats, is_set, wrong_record, wrong_bytes, indices, wrong_chains, large_arrow, over_limits, ill_arrow, ill_formed}
use Rattle.sheet.specs.Records.{zeros, header, state_bytes, arrow_bytes, line_bytes}
use Rattle.sheet.specs.Examples.{many_states, many_arrows, many_lines, many_texts, empty_sheet, lined}
use Rattle.sheet.specs.declared.Limits.{Limits}
use Rattle.label.specs.Label.{cut, total_length}
use Rattle.calls.specs.Calls.{Outcome, values, number, main_screen, service_panel, capped_limits, check, label_size}

abbrev pub with_states : ℕ → List ℕ
with_states n = header n 1 0 ++ many_states 1 n

abbrev pub with_arrows : ℕ → List ℕ
with_arrows n = header n 0 1 ++ many_arrows 1 n

-- one arrow with n lines
abbrev pub with_lines : ℕ → List ℕ
with_lines n = header (suc n) 0 1 ++ arrow_bytes 0 0 0 2 ++ many_lines 2 n

abbrev pub three_limits : ℕ → ℕ → ℕ → Limits
three_limits a b c = record { states = a; arrows = b; lines = c }

-- the number of a refusal; values are a 0 here
abbrev pub answer_number : {A : Type 0} → Outcome A → ℕ
answer_number (values v) = 0
answer_number (number n) = n

-- a sheet that is checked, and a label block of that many lines of that many letters
pub data Tried : Type 0 where
  sheet_tried : List ℕ → Limits → ℕ → Tried
  block_tried : ℕ → ℕ → Limits → ℕ → Tried

abbrev pub answers_so : Tried → Bool
answers_so (sheet_tried s m n) = eqb (answer_number (check s m)) n
answers_so (block_tried k l m n) = eqb (answer_number (label_size (replicate (k * l) 97) (replicate k l) m)) n

abbrev pub all_answer : List Tried → Bool
all_answer [] = true
all_answer (t ∷ ts) = answers_so t && all_answer ts

abbrev pub tried_limits : List Tried
tried_limits =
    -- "at most 24 states, 64 arrows and 4 lines an arrow. The main screen keeps its 64, 256 and 8."
    sheet_tried (with_states 24) service_panel 0
    ∷ sheet_tried (with_states 25) service_panel 5
    ∷ sheet_tried (with_states 25) main_screen 0
    ∷ sheet_tried (with_arrows 64) service_panel 0
    ∷ sheet_tried (with_arrows 65) service_panel 5
    ∷ sheet_tried (with_arrows 65) main_screen 0
    ∷ sheet_tried (with_lines 4) service_panel 0
    ∷ sheet_tried (with_lines 5) service_panel 5
    ∷ sheet_tried (with_lines 5) main_screen 0
    -- each limit by itself: three states, two arrows, one line
    ∷ sheet_tried (with_states 3) (three_limits 3 0 0) 0
    ∷ sheet_tried (with_states 3) (three_limits 2 9 9) 5
    ∷ sheet_tried (with_arrows 2) (three_limits 0 2 0) 0
    ∷ sheet_tried (with_arrows 2) (three_limits 9 1 9) 5
    ∷ sheet_tried (with_lines 1) (three_limits 0 1 1) 0
    ∷ sheet_tried (with_lines 1) (three_limits 9 9 0) 5
    -- limits of nothing
    ∷ sheet_tried empty_sheet (three_limits 0 0 0) 0
    ∷ sheet_tried (with_states 1) (three_limits 0 0 0) 5
    -- "Each limit above the main screen's counts as the main screen's."
    ∷ sheet_tried (with_states 65) (three_limits 65 256 8) 5
    ∷ sheet_tried (with_lines 9) (three_limits 64 256 18446744073709551615) 5
    ∷ sheet_tried (with_states 64) (three_limits 18446744073709551615 0 0) 0
    -- a line keeps its 96 bytes under any limits
    ∷ sheet_tried (header 10 0 1 ++ arrow_bytes 0 0 0 2 ++ line_bytes 0 3 ++ many_texts 3 7 12) (three_limits 0 1 1) 0
    ∷ sheet_tried (header 11 0 1 ++ arrow_bytes 0 0 0 2 ++ line_bytes 0 3 ++ many_texts 3 8 1) (three_limits 1000 1000 1000) 5
    -- 1, 2, 4 and 3 come before 5, and 5 before 6
    ∷ sheet_tried (header 1 1 0) (three_limits 0 0 0) 1
    ∷ sheet_tried (2 ∷ zeros 15) (three_limits 0 0 0) 2
    ∷ sheet_tried (header 1 1 0 ++ state_bytes 4 0) (three_limits 0 0 0) 4
    ∷ sheet_tried (header 1 1 0 ++ state_bytes 0 1) (three_limits 0 0 0) 3
    ∷ sheet_tried (lined (0xc3 ∷ []) (0x61 ∷ [])) (three_limits 0 1 0) 5
    ∷ sheet_tried (lined (0xc3 ∷ []) (0x61 ∷ [])) (three_limits 0 1 1) 6
    -- label blocks: the lines alone
    ∷ block_tried 4 0 service_panel 0
    ∷ block_tried 5 0 service_panel 5
    ∷ block_tried 8 0 main_screen 0
    ∷ block_tried 9 0 (three_limits 64 256 9) 5
    ∷ block_tried 1 0 (three_limits 0 0 1) 0
    ∷ block_tried 1 96 (three_limits 0 0 1) 0
    ∷ block_tried 1 97 (three_limits 1000 1000 1000) 5
    ∷ block_tried 0 0 (three_limits 0 0 0) 0
    ∷ []

pub worked_limits : T (all_answer tried_limits)
unfolding check label_size capped_limits cut total_length decide wrong_bytes wrong_record is_set any_up any_for wrong_chains indices met met_arrow met_line flat_map chain_by any_of repeats over_limits large_arrow states_of arrows_of arrow_of lines_from line_of ill_formed ill_arrow over
worked_limits = tt
