-- `columns::Net::visit` meets its contract.
use Rattle.std.proofs.Common.{◌≡◌, drop}
use Rattle.laws.specs.Loops.{over}
use Rattle.columns.specs.Columns.{discover, successors}
use Rattle.columns.specs.Found.{Fair, follow}
use Rattle.columns.proofs.Net.visit.Given as goal

abbrev pub invariant-loop-arrow : goal.invariant-loop-arrow
invariant-loop-arrow g l =
    Fair l.self.states l.found
    × (over (follow l.self.states l.v) l.found (drop l.arrow-index l.self.arrows.now)
    ≡ over discover l.initial.found (successors l.self.states l.self.arrows.now l.v))
