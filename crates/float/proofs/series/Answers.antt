-- `float::series` meets its contract.
use mathlib.Core.Path.{refl, sym, ◌∙◌}
use Prim.Native.Nat.{◌-◌}
use native.Mathlib.Omega.{arith}
use Rattle.laws.specs.Loops.{down_step, down_done}
use Rattle.float.specs.Standins.{series}
use Rattle.float.proofs.series.Goals as goal

pub loop-k-init : goal.loop-k-init
unfolding series
loop-k-init g c d e = refl

pub loop-k-preserved : goal.loop-k-preserved
loop-k-preserved g c d e = rw (e (c.loop-k.k - 1) c.divisor.result c.divisor.ensures) (sym (down_step _ _ _ (omega arith)) ∙ c.loop-k.invariant d e)

pub returns : goal.returns
returns g c d e = sym (down_done _ _ _ (omega arith)) ∙ c.loop-k.invariant d e
