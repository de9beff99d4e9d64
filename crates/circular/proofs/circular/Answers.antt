-- `circular::circular` meets its contract.
use Prim.Native.Nat.{ℕ}
use native.Mathlib.Omega.{arith}
use lib.ListN.{length}
use Rattle.circular.proofs.Laws.{ring_one, ring-more}
use Rattle.circular.proofs.circular.Goals as goal

pub returns-then-n-eq1 : goal.returns-then-n-eq1
returns-then-n-eq1 c = ring_one c.args.start c.args.label c.args.centres.now c.new.result c.new.ensures (omega arith)

pub returns : goal.returns
returns c = let n : ℕ = length c.args.centres.now in
    ring-more c.args.start c.args.label c.fill.new.centres n c.radius.result c.if-n-eq1.false c.fill.ensures c.radius.ensures
