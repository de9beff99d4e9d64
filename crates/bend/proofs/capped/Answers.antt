-- `bend::capped` meets its contract.
use Rattle.bend.proofs.capped.Goals as goal

pub returns-then-abs-cap : goal.returns-then-abs-cap
returns-then-abs-cap c = rw (← c.abs.ensures, c.if-abs-cap.true) c.copysign.ensures

pub returns : goal.returns
returns c = rw (← c.abs.ensures, c.if-abs-cap.false)
