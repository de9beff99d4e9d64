-- `bend::clearance` meets its contract. The invariant: the points to come, from the clearance so far, give the whole clearance.
use mathlib.Core.Path.{◌≡◌}
use Rattle.laws.specs.Loops.{up}
use Rattle.free.specs.Chords.{other_states}
use Rattle.bend.specs.Clear.{sampled, clearance}
use Rattle.bend.specs.Farther.{GoodNear}
use Rattle.bend.proofs.clearance.Given as goal

abbrev pub invariant-loop-k : goal.invariant-loop-k
invariant-loop-k l = GoodNear l.r × (up (sampled (other_states l.c l.nodes) l.arc) l.k 16 l.r.room ≡ clearance l.c l.nodes l.h)
