-- `circular::fill` meets its contract.
use Rattle.std.proofs.Common.{◌≡◌, take}
use Rattle.laws.specs.Flat.{table}
use Rattle.circular.proofs.Laws.{on_ring}
use Rattle.circular.proofs.fill.Given as goal

abbrev pub invariant-loop-i : goal.invariant-loop-i
invariant-loop-i l = take l.i l.centres ≡ table (on_ring l.n l.start l.r) 0 l.i
