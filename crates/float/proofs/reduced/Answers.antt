-- `float::reduced` meets its contract.
use Rattle.float.specs.Standins.{reduced}
use Rattle.float.proofs.reduced.Goals as goal

pub returns-then-r : goal.returns-then-r
unfolding reduced
returns-then-r c = rw (← c.rem_tau-r.ensures, c.if-r.true)

pub returns-then-r-2 : goal.returns-then-r-2
unfolding reduced
returns-then-r-2 c = rw (← c.rem_tau-r.ensures, c.if-r.false, c.if-r-2.true)

pub returns-else-r-2 : goal.returns-else-r-2
unfolding reduced
returns-else-r-2 c = rw (← c.rem_tau-r.ensures, c.if-r.false, c.if-r-2.false)
