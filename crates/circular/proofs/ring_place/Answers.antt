-- `circular::ring_place` meets its contract.
use mathlib.Core.Path.{refl}
use Prim.Native.Nat.{◌+◌, ◌-◌}
use native.Mathlib.Nat.{mod-lt}
use native.Mathlib.Omega.{arith}
use Rattle.circular.proofs.ring_place.Goals as goal

pub returns : goal.returns
returns c = (refl, mod-lt (c.args.i + c.args.n - c.args.start) (omega arith))
