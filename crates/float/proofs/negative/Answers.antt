-- `float::negative` meets its contract.
use mathlib.Core.Path.{sym, ap}
use Rattle.laws.specs.Cases.{holds}
use Rattle.float.specs.Standins.{negative}
use Rattle.laws.specs.Nan.{is_nan_lem, no_nan}
use Rattle.float.specs.Signs.{sign_bit}
use Rattle.float.proofs.negative.Goals as goal

pub returns-then-v : goal.returns-then-v
returns-then-v c = sym (ap negative (is_nan_lem c.args.v c.if-v.true))

pub float_to_bits-result : goal.float_to_bits-result
float_to_bits-result c = no_nan c.args.v c.if-v.false

pub returns : goal.returns
returns c = sign_bit c.args.v (holds c.well_formed.0.1) c.if-v.false
