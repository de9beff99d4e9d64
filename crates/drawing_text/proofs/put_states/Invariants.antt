-- `drawing_text::put_states` meets its contract. The invariant: what is written, with the lines of the states still to come, is the whole text.
use mathlib.Core.List.{map, flat_map}
use lib.ListN.{drop}
use Rattle.text.specs.Continues.{Continues}
use Rattle.drawing_text.specs.Lines.{ListedState, state_line, states_from, line_text, lines_text}
use Rattle.drawing_text.proofs.put_states.Given as goal

abbrev pub invariant-loop-k : goal.invariant-loop-k
invariant-loop-k l = Continues l.initial.w l.w (flat_map (λ (s : ListedState). line_text (state_line s)) (states_from l.k (drop l.k l.nodes))) (lines_text (map state_line (states_from 0 l.nodes)))
