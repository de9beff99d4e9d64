-- `turns::gather` meets its contract.
use Rattle.std.proofs.Common.{◌≡◌, ◌+◌, length, drop}
use Rattle.laws.specs.Put.{put}
use Rattle.routing_laws.specs.Passes.{gathered}
use Rattle.turns.proofs.gather.Given as goal

abbrev pub invariant-loop-shown : goal.invariant-loop-shown
invariant-loop-shown l =
    (length l.records ≡ length l.initial.records)
    × (l.n + length (gathered (drop l.shown-index l.drawn)) ≡ length (gathered l.drawn))
    × (put l.records l.n (gathered (drop l.shown-index l.drawn)) ≡ put l.initial.records 0 (gathered l.drawn))
