use Rattle.std.proofs.Common.{ap, not}
use borrow.Author.Tests.{not-true, not-false}
use Rattle.sheet_check.proofs.Laws.{walks_end, walks_step, walks_stop}
use Rattle.sheet_check.proofs.walk.Goals as goal

pub returns-then-not-visit : goal.returns-then-not-visit
returns-then-not-visit g c = λ s met h. walks_stop s met c.loop-i.marks (c.loop-i.invariant s met h) c.in-Some.ensures.steps (h _ _ _ _ c.visit.ensures) (not-true _ (ap not c.if-not-visit.true))

pub loop-i-preserved : goal.loop-i-preserved
loop-i-preserved g c = λ s met h. walks_step s met c.loop-i.marks (c.loop-i.invariant s met h) c.in-Some.ensures.steps (h _ _ _ _ c.visit.ensures) (not-false _ (ap not c.if-not-visit.false))

pub returns : goal.returns
returns g c = λ s met h. walks_end s met c.loop-i.marks (c.loop-i.invariant s met h) c.in-None.ensures.steps.0
