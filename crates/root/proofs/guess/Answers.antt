-- `root::guess` meets its contract.
use native.Mathlib.Omega.{arith}
use Rattle.laws.specs.Nan.{no_nan, no_nan_bits}
use Rattle.root.proofs.guess.Goals as goal

pub float_from_bits-x : goal.float_from_bits-x
float_from_bits-x c = no_nan_bits c.args.b (omega arith)

pub float_from_bits-y : goal.float_from_bits-y
float_from_bits-y c = no_nan_bits _ (omega arith)

pub float_to_bits-result : goal.float_to_bits-result
float_to_bits-result c = no_nan c.near_root-g.result c.if-g.false
