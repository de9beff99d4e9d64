-- `float::precedes` meets its contract.
use Rattle.float.specs.Standins.{precedes}
use Rattle.laws.specs.Nan.{nan_test}
use lib.Ieee.{ne}
use Rattle.float.proofs.precedes.Goals as goal

pub returns-then-a-b : goal.returns-then-a-b
unfolding precedes
returns-then-a-b c = rw c.if-a-b.true

pub returns-then-a-b-2 : goal.returns-then-a-b-2
unfolding precedes
returns-then-a-b-2 c = rw (c.if-a-b.false, c.if-a-b-2.true, ← c.negative.ensures, ← c.negative-then-a-b-2.ensures) c.minus_first.ensures

pub returns-then-a : goal.returns-then-a
unfolding precedes ne
returns-then-a c = rw (c.if-a-b.false, c.if-a-b-2.false, ← (nan_test c.args.a), ← (nan_test c.args.b), c.if-a.true)

pub returns-else-a : goal.returns-else-a
unfolding precedes ne
returns-else-a c = rw (c.if-a-b.false, c.if-a-b-2.false, ← (nan_test c.args.a), c.if-a.false)
