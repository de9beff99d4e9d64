-- `bend::with_bow` meets its contract.
use Rattle.bend.specs.Between.{with_bow}
use Rattle.bend.proofs.with_bow.Goals as goal

pub returns-then-h : goal.returns-then-h
unfolding with_bow
returns-then-h c = rw c.if-h.true c.straight.ensures

pub returns : goal.returns
unfolding with_bow
returns c = rw c.if-h.false c.bowed.ensures
