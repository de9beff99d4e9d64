use Rattle.std.proofs.Common.{◌∙◌, arith}
use Rattle.label.proofs.Laws.{fit_over_at, fit_short_at, fit_turn_at, fit_end_at}
use Rattle.label.proofs.lengths_fit.Goals.{then-most-n-via-then-most-n, then-most-n-via-else-most-n+then-left-n}
use Rattle.label.proofs.lengths_fit.Goals as goal

pub returns-then-most-n : goal.returns-then-most-n
returns-then-most-n c = elim c.then-most-n.branch [
  | then-most-n-via-then-most-n w ↦ fit_over_at c.args.most c.loop-n.left c.args.lengths.now c.loop-n.n-index (omega arith) w.if-most-n.true ∙ c.loop-n.invariant
  | then-most-n-via-else-most-n+then-left-n w ↦ fit_short_at c.args.most c.loop-n.left c.args.lengths.now c.loop-n.n-index (omega arith) w.if-left-n.true ∙ c.loop-n.invariant
]

pub loop-n-preserved : goal.loop-n-preserved
loop-n-preserved c = fit_turn_at c.args.most c.loop-n.left c.args.lengths.now c.loop-n.n-index (omega arith) c.if-most-n.false c.if-left-n.false ∙ c.loop-n.invariant

pub returns : goal.returns
returns c = fit_end_at c.args.most c.loop-n.left c.args.lengths.now c.loop-n.n-index (omega arith) ∙ c.loop-n.invariant
