-- `drawing_text::put_states` meets its contract. The invariant: what is written, with the lines of the states still to come, is the whole text.
use mathlib.Core.Path.{sym}
use native.Mathlib.Omega.{arith}
use Rattle.text.specs.Continues.{continues_whole, texts_step, texts_end}
use Rattle.laws.specs.Joined.{flat_map_lem}
use Rattle.drawing_text.specs.Lines.{ListedState, state_line, line_text, lines_text}
use Rattle.drawing_text.proofs.Laws.{states_front, states_none}
use Rattle.drawing_text.proofs.put_states.Goals as goal

pub loop-k-init : goal.loop-k-init
unfolding lines_text
loop-k-init c = continues_whole _ (omega arith) (omega arith) (sym (flat_map_lem line_text state_line _))

pub loop-k-preserved : goal.loop-k-preserved
loop-k-preserved c = texts_step (λ (s : ListedState). line_text (state_line s)) _ (states_front c.args.nodes.now c.loop-k.k c.loop-k-test.true) c.loop-k.invariant c.put_state_line.ensures

pub returns : goal.returns
returns c = texts_end (λ (s : ListedState). line_text (state_line s)) (states_none c.args.nodes.now c.loop-k.k c.loop-k-test.false) c.loop-k.invariant
