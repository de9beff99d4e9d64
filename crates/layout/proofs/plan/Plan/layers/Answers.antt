-- `layout::Plan::layers` meets its contract.
use Rattle.std.proofs.Common.{arith}
use Rattle.sheet.specs.Starts.{start-below}
use Rattle.layout.proofs.plan.Plan.layers.Goals as goal

pub layered-requires : goal.layered-requires
layered-requires c = (
  omega arith,
  omega (arith, start-below c.args.self.now.flags.now (omega arith), c.start_index-start.ensures),
  omega arith,
)
