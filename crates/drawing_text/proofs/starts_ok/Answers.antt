-- `drawing_text::starts_ok` meets its contract. The invariant: the test of the states still to come decides.
use mathlib.Core.Path.{sym, ◌∙◌}
use mathlib.Core.Bool.{Bool, true, cond}
use borrow.Author.Tests.{not-true, not-false}
use Rattle.laws.specs.Every.{every_stop, every-step, every-end, every-chosen}
use Rattle.sheet.specs.Meaning.{is_start}
use Rattle.drawing_text.specs.Lines.{ListedState, flag_of, start_line, listed_state, starts, line_writable, lines_writable}
use Rattle.drawing_text.proofs.Laws.{states_front, states_none}
use mathlib.Core.Path.{ap}
use mathlib.Core.Bool.{not}
use Rattle.std.proofs.Common.{get_or}
use lib.Ieee.{nan}
use Rattle.shape.specs.Plane.{vec}
use Rattle.drawing_text.proofs.starts_ok.Goals as goal

pub loop-k-init : goal.loop-k-init
unfolding lines_writable starts
loop-k-init c = (sym (every-chosen line_writable start_line _ _))

pub returns-then-not-start_ok : goal.returns-then-not-start_ok
returns-then-not-start_ok c = let p : ListedState → Bool = λ s. cond (is_start (flag_of c.args.flags.now s)) (line_writable (start_line s)) true in
    every_stop p (listed_state c.loop-k.k (get_or c.args.nodes.now c.loop-k.k (vec nan nan))) (states_front c.args.nodes.now c.loop-k.k c.loop-k-test.true) (sym c.start_ok.ensures ∙ not-true _ (ap not c.if-not-start_ok.true)) c.loop-k.invariant

pub loop-k-preserved : goal.loop-k-preserved
loop-k-preserved c = let p : ListedState → Bool = λ s. cond (is_start (flag_of c.args.flags.now s)) (line_writable (start_line s)) true in
    (every-step p (listed_state c.loop-k.k (get_or c.args.nodes.now c.loop-k.k (vec nan nan))) (states_front c.args.nodes.now c.loop-k.k c.loop-k-test.true) (sym c.start_ok.ensures ∙ not-false _ (ap not c.if-not-start_ok.false)) c.loop-k.invariant)

pub returns : goal.returns
returns c = let p : ListedState → Bool = λ s. cond (is_start (flag_of c.args.flags.now s)) (line_writable (start_line s)) true in
    every-end p (states_none c.args.nodes.now c.loop-k.k c.loop-k-test.false) c.loop-k.invariant
