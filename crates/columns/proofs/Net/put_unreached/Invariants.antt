-- `columns::Net::put_unreached` meets its contract.
use Rattle.std.proofs.Common.{◌≡◌, ◌++◌}
use Rattle.laws.specs.Loops.{over}
use Rattle.columns.specs.Columns.{discover, unreached}
use Rattle.columns.specs.Found.{Fair}
use Rattle.columns.proofs.Laws.{from}
use Rattle.columns.proofs.Net.put_unreached.Given as goal

abbrev pub invariant-loop-v : goal.invariant-loop-v
invariant-loop-v g l =
    Fair l.self.states l.found × (over discover l.found (from l.self.states l.v)
    ≡ l.initial.found ++ unreached l.self.states l.initial.found)
