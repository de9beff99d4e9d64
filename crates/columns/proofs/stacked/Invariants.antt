-- `columns::stacked` meets its contract.
use Rattle.std.proofs.Common.{◌≡◌, take}
use Rattle.columns.proofs.stacked.Given as goal

abbrev pub invariant-loop-value : goal.invariant-loop-value
invariant-loop-value g l = l.stack ≡ take l.value-index l.values
