-- `float::atan2` meets its contract.
use Rattle.float.specs.Standins.{atan2}
use Rattle.float.proofs.atan2.Goals as goal

pub returns-then-negative : goal.returns-then-negative
unfolding atan2
returns-then-negative c = rw (← c.abs.ensures, ← c.abs-2.ensures, ← c.quarter-first.ensures, ← c.negative.ensures, ← c.negative-2.ensures, c.if-negative.true, c.turned_back-half.ensures)

pub returns-else-negative : goal.returns-else-negative
unfolding atan2
returns-else-negative c = rw (← c.abs.ensures, ← c.abs-2.ensures, ← c.quarter-first.ensures, ← c.negative.ensures, ← c.negative-2.ensures, c.if-negative.false, c.turned_back-half.ensures)
