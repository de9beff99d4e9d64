-- `label_spots::upper` meets its contract.
use Rattle.label_spots.specs.Spots.{upper}
use Rattle.label_spots.proofs.upper.Goals as goal

pub returns-then-is_up : goal.returns-then-is_up
unfolding upper
returns-then-is_up c = rw (← c.normal-left.ensures, ← c.is_up.ensures, c.if-is_up.true)

pub returns : goal.returns
unfolding upper
returns c = rw (c.neg.ensures, ← c.normal-left.ensures, ← c.is_up.ensures, c.if-is_up.false)
