-- `columns::Net::reach` meets its contract.
use Rattle.std.proofs.Common.{◌-◌}
use Rattle.columns.proofs.Laws.{Searching}
use Rattle.columns.proofs.Net.reach.Given as goal

abbrev pub invariant-loop : goal.invariant-loop
invariant-loop g l = Searching l.self.states l.self.arrows.now l.start l.found l.sizes l.low (l.self.states - l.counter)
