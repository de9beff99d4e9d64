-- `columns::Net::explore` meets its contract.
use Rattle.std.proofs.Common.{◌≡◌, ◌≤◌, length, take, drop}
use Rattle.columns.specs.Columns.{explore}
use Rattle.columns.specs.Found.{Fair}
use Rattle.columns.proofs.Net.explore.Given as goal

abbrev pub invariant-loop-i : goal.invariant-loop-i
invariant-loop-i g l =
    (l.i-end ≡ length l.initial.found)
    × (length l.initial.found ≤ length l.found)
    × (take (length l.initial.found) l.found ≡ l.initial.found)
    × Fair l.self.states l.found
    × (explore l.self.states l.self.arrows.now l.found (drop l.i l.initial.found)
    ≡ explore l.self.states l.self.arrows.now l.initial.found (drop l.low l.initial.found))
