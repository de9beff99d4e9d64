use Rattle.std.proofs.Common.{take}
use Rattle.text.specs.Writing.{Adds}
use Rattle.text.proofs.Writer.bytes.Given as goal

abbrev pub invariant-loop-b : goal.invariant-loop-b
invariant-loop-b l = Adds l.fn.self l.self (take l.b-index l.s)
