-- `layout::Plan::takes_ring` meets its contract.
use Rattle.std.proofs.Common.{arith}
use Rattle.layout.specs.Layout.{ring}
use Rattle.layout.specs.Lent.{plan_in}
use Rattle.layout.specs.Laws.{clutter_most}
use Rattle.layout.proofs.plan.Plan.takes_ring.Goals as goal

pub overflow_add-result : goal.overflow_add-result
overflow_add-result c = let p = plan_in c.args.self.now in
    omega (arith, clutter_most p (ring p) c.args.self.now.many, c.placed_clutter-ring.ensures)
