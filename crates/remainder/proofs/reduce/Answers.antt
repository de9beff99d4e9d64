-- `remainder::reduce` meets its contract.
use mathlib.Core.Path.{◌∙◌}
use native.Mathlib.Omega.{arith}
use Rattle.remainder.specs.Modulo.{mod-step, mod-last}
use Rattle.remainder.proofs.reduce.Goals as goal

pub loop-left-preserved : goal.loop-left-preserved
loop-left-preserved c = (omega arith, mod-step c.loop-left.r 11 c.loop-left.left 7074237752028440 (omega arith) ∙ c.loop-left.invariant.1)

pub returns : goal.returns
returns c = mod-last c.loop-left.r c.loop-left.left 7074237752028440 c.loop-left.invariant.0 (omega arith) ∙ c.loop-left.invariant.1
