-- `float::quarter` meets its contract.
use mathlib.Core.Path.{◌≡◌}
use mathlib.Core.Bool.{true, false}
use Rattle.float.specs.Ops.{lt}
use Rattle.float.specs.Standins.{quarter}
use Rattle.float.proofs.quarter.Goals as goal

pub returns-then-x-y : goal.returns-then-x-y
unfolding quarter
returns-then-x-y c = let steep : lt c.args.x c.args.y ≡ true = c.if-x-y.true in rw (← c.min.ensures, ← c.max.ensures, ← c.share.ensures, steep, c.arctangent_of-angle.ensures)

pub returns : goal.returns
unfolding quarter
returns c = let flat : lt c.args.x c.args.y ≡ false = c.if-x-y.false in rw (← c.min.ensures, ← c.max.ensures, ← c.share.ensures, flat) c.arctangent_of-angle.ensures
