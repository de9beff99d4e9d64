use Rattle.std.proofs.Common.{arith}
use Rattle.text.specs.Writing.{adds_none, adds-next}
use Rattle.text.proofs.Writer.bytes.Goals as goal

pub loop-b-init : goal.loop-b-init
loop-b-init c = adds_none _ (omega arith) (omega arith)

pub loop-b-preserved : goal.loop-b-preserved
loop-b-preserved c = adds-next c.args.s.now c.loop-b.b-index 0 (omega arith) c.loop-b.invariant c.byte.ensures
