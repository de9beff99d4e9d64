-- `free::Chord::blocked` meets its contract. The intervals stored, and those of the states to come, are all.
use Rattle.std.proofs.Common.{◌≡◌, ◌≤◌, ◌+◌, ◌++◌, length, drop}
use Rattle.free.specs.Chords.{others_from}
use Rattle.free.specs.Blocked.{intervals, blocked}
use Rattle.free.proofs.Chord.blocked.Given as goal

abbrev pub invariant-loop-k : goal.invariant-loop-k
invariant-loop-k g l =
    (length l.spans ≤ length l.initial.spans + l.k)
    × (l.spans ++ intervals l.self (others_from l.self l.k (drop l.k l.nodes)) ≡ l.initial.spans ++ blocked l.self l.nodes)
