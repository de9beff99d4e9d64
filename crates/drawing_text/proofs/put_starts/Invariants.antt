-- `drawing_text::put_starts` meets its contract. The invariant: what is written, with the lines of the starts still to come, is the whole text.
use mathlib.Core.Bool.{cond}
use mathlib.Core.List.{[], map, flat_map}
use lib.ListN.{drop}
use Rattle.text.specs.Continues.{Continues}
use Rattle.sheet.specs.Meaning.{is_start}
use Rattle.drawing_text.specs.Lines.{ListedState, flag_of, start_line, states_from, starts, line_text, lines_text}
use Rattle.drawing_text.proofs.put_starts.Given as goal

abbrev pub invariant-loop-k : goal.invariant-loop-k
invariant-loop-k l = Continues l.initial.w l.w (flat_map (λ (s : ListedState). cond (is_start (flag_of l.flags s)) (line_text (start_line s)) []) (states_from l.k (drop l.k l.nodes))) (lines_text (map start_line (starts l.flags (states_from 0 l.nodes))))
