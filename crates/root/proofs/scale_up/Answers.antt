-- `root::scale_up` meets its contract.
use mathlib.Core.Path.{◌∙◌}
use Prim.Native.Nat.{◌-◌}
use native.Mathlib.Omega.{arith}
use Rattle.root.proofs.Laws.{scale-step, scale_stop, scale-end}
use Rattle.root.proofs.scale_up.Goals as goal

pub returns-then-s-ge-LEADING : goal.returns-then-s-ge-LEADING
returns-then-s-ge-LEADING c = (scale_stop (52 - c.loop.counter) c.loop.s c.loop.e c.if-s-ge-LEADING.true ∙ c.loop.invariant.0, omega arith, omega arith)

pub loop-preserved : goal.loop-preserved
loop-preserved c = (scale-step 52 c.loop.counter c.loop.s c.loop.e c.loop-test.true c.if-s-ge-LEADING.false ∙ c.loop.invariant.0, omega arith, omega arith)

pub returns : goal.returns
returns c = (scale-end (52 - c.loop.counter) c.loop.s c.loop.e (omega arith) ∙ c.loop.invariant.0, omega arith, omega arith)
