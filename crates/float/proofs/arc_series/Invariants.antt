-- `float::arc_series` meets its contract.
use mathlib.Core.Path.{◌≡◌}
use Rattle.laws.specs.Loops.{down}
use Rattle.float.specs.Standins.{arc_series, arc_term}
use Rattle.float.proofs.arc_series.Given as goal

abbrev pub invariant-loop-k : goal.invariant-loop-k
invariant-loop-k l = down (arc_term l.z) l.k l.t ≡ arc_series l.z
