-- `float::arc_series` meets its contract.
use mathlib.Core.Path.{refl, sym, ◌∙◌}
use Rattle.laws.specs.Loops.{down_step, down_done}
use Rattle.float.specs.Standins.{arc_series}
use Rattle.float.proofs.arc_series.Goals as goal

pub loop-k-init : goal.loop-k-init
unfolding arc_series
loop-k-init c = refl

pub loop-k-preserved : goal.loop-k-preserved
loop-k-preserved c = sym (down_step _ _ _ c.loop-k-test.true) ∙ c.loop-k.invariant

pub returns : goal.returns
returns c = sym (down_done _ _ _ c.loop-k-test.false) ∙ c.loop-k.invariant
