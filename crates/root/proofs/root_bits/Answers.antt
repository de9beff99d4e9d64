-- `root::root_bits` meets its contract.
use native.Mathlib.Omega.{arith}
use Rattle.root.proofs.Laws.{root_bits_is}
use Rattle.root.proofs.root_bits.Goals as goal

pub returns : goal.returns
returns c = (root_bits_is c.args.b c.split-c.result c.nearest-p.result c.split-c.ensures.0 c.nearest-p.ensures.0, omega arith)
