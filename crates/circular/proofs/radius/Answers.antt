-- `circular::radius` meets its contract.
use Prim.Native.Nat.{◌^◌}
use native.Mathlib.Omega.{arith}
use lib.Dec.{le→leb}
use lib.Ieee.{in_float}
use Rattle.circular.proofs.radius.Goals as goal

pub int_to_float-n : goal.int_to_float-n
unfolding in_float
int_to_float-n c = le→leb c.args.n (2 ^ 53) (omega arith)

pub returns : goal.returns
returns c = rw (← c.clamp-chord.ensures, ← c.sin.ensures)
