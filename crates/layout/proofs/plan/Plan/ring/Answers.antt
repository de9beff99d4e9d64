-- `layout::Plan::ring` meets its contract.
use Rattle.std.proofs.Common.{arith}
use Rattle.sheet.specs.Starts.{start-below}
use Rattle.layout.proofs.plan.Plan.ring.Goals as goal

pub circular-requires : goal.circular-requires
circular-requires c = (omega arith, omega (arith, start-below c.args.self.now.flags.now (omega arith), c.start_index-start.ensures))
