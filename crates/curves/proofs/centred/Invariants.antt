-- `curves::centred` meets its contract.
use Rattle.std.proofs.Common.{◌≡◌, take}
use Rattle.curves.specs.Counted.{counted}
use Rattle.curves.proofs.centred.Given as goal

abbrev pub invariant-loop-k : goal.invariant-loop-k
invariant-loop-k l = take l.k l.nodes ≡ counted l.centres l.k
