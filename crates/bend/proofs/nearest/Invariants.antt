-- `bend::nearest` meets its contract. The invariant: the fold over the states to come, from here, is the whole fold.
use mathlib.Core.Path.{◌≡◌}
use lib.ListN.{drop}
use Rattle.laws.specs.Loops.{over}
use Rattle.free.specs.Chords.{other_states, others_from}
use Rattle.bend.specs.Clear.{nearer, nearest}
use Rattle.bend.specs.Farther.{GoodNear}
use Rattle.bend.proofs.nearest.Given as goal

abbrev pub invariant-loop-k : goal.invariant-loop-k
invariant-loop-k l = GoodNear l.r × (over (nearer l.p) l.r.room (others_from l.c l.k (drop l.k l.nodes)) ≡ nearest (other_states l.c l.nodes) l.p l.initial.r.room)
