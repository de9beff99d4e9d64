-- `float::signum` meets its contract.
use Rattle.laws.specs.Nan.{is_nan_lem, is_num}
use lib.Ieee.{is_nan}
use Rattle.float.proofs.signum.Goals as goal

pub returns-then-v : goal.returns-then-v
unfolding is_nan
returns-then-v c = rw (is_nan_lem c.args.v c.if-v.true)

pub returns : goal.returns
returns c = rw (is_num c.args.v c.if-v.false) c.copysign.ensures
