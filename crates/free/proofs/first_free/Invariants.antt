-- `free::first_free` meets its contract. The search from here is the search from the start; the ends ahead fall.
use Rattle.std.proofs.Common.{◌≡◌}
use Rattle.free.specs.Free.{first_free}
use Rattle.free.specs.Moves.{spans_ahead}
use Rattle.free.proofs.first_free.Given as goal

abbrev pub invariant-loop-way : goal.invariant-loop-way
invariant-loop-way l = first_free l.way l.spans l.h ≡ first_free l.way l.spans l.start

abbrev pub decreases-loop-way : goal.decreases-loop-way
decreases-loop-way l = spans_ahead l.way l.spans l.h
