-- `drawing_text::put_starts` meets its contract. The invariant: what is written, with the lines of the starts still to come, is the whole text.
use mathlib.Core.Path.{sym}
use mathlib.Core.Bool.{cond}
use mathlib.Core.List.{[]}
use native.Mathlib.Omega.{arith}
use Rattle.text.specs.Continues.{continues_whole, texts_step, texts_end}
use Rattle.laws.specs.Joined.{flat_chosen}
use Rattle.sheet.specs.Meaning.{is_start}
use Rattle.drawing_text.specs.Lines.{ListedState, flag_of, start_line, listed_state, starts, line_text, lines_text}
use Rattle.drawing_text.proofs.Laws.{states_front, states_none}
use Rattle.std.proofs.Common.{get_or}
use lib.Ieee.{nan}
use Rattle.shape.specs.Plane.{vec}
use Rattle.drawing_text.proofs.put_starts.Goals as goal

pub loop-k-init : goal.loop-k-init
unfolding lines_text starts
loop-k-init c = continues_whole _ (omega arith) (omega arith) (sym (flat_chosen line_text start_line _ _))

pub loop-k-preserved : goal.loop-k-preserved
loop-k-preserved c = texts_step (λ (s : ListedState). cond (is_start (flag_of c.args.flags.now s)) (line_text (start_line s)) []) (listed_state c.loop-k.k (get_or c.args.nodes.now c.loop-k.k (vec nan nan))) (states_front c.args.nodes.now c.loop-k.k c.loop-k-test.true) c.loop-k.invariant c.put_start.ensures

pub returns : goal.returns
returns c = texts_end (λ (s : ListedState). cond (is_start (flag_of c.args.flags.now s)) (line_text (start_line s)) []) (states_none c.args.nodes.now c.loop-k.k c.loop-k-test.false) c.loop-k.invariant
