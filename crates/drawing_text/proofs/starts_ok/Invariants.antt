-- `drawing_text::starts_ok` meets its contract. The invariant: the test of the states still to come decides.
use mathlib.Core.Path.{◌≡◌}
use lib.ListN.{drop}
use mathlib.Core.Bool.{true, cond}
use Rattle.laws.specs.Every.{every}
use mathlib.Core.List.{map}
use Rattle.sheet.specs.Meaning.{is_start}
use Rattle.drawing_text.specs.Lines.{ListedState, flag_of, start_line, states_from, starts, line_writable, lines_writable}
use Rattle.drawing_text.proofs.starts_ok.Given as goal

abbrev pub invariant-loop-k : goal.invariant-loop-k
invariant-loop-k l = (every (λ (s : ListedState). cond (is_start (flag_of l.flags s)) (line_writable (start_line s)) true) (states_from l.k (drop l.k l.nodes)) ≡ lines_writable (map start_line (starts l.flags (states_from 0 l.nodes))))
