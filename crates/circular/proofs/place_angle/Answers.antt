-- `circular::place_angle` meets its contract.
use Prim.Native.Nat.{◌^◌}
use native.Mathlib.Omega.{arith}
use lib.Dec.{le→leb}
use lib.Ieee.{in_float}
use Rattle.circular.proofs.place_angle.Goals as goal

pub int_to_float-result : goal.int_to_float-result
unfolding in_float
int_to_float-result c = le→leb c.args.k (2 ^ 53) (omega arith)

pub int_to_float-result-2 : goal.int_to_float-result-2
unfolding in_float
int_to_float-result-2 c = le→leb c.args.n (2 ^ 53) (omega arith)
