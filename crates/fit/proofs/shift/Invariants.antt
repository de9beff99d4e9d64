-- `fit::shift` meets its contract.
use mathlib.Core.Path.{◌≡◌}
use mathlib.Core.List.{◌++◌, map}
use lib.ListN.{take, drop}
use Rattle.shape.specs.Plane.{add}
use Rattle.fit.proofs.shift.Given as goal

abbrev pub invariant-loop-c : goal.invariant-loop-c
invariant-loop-c l = take l.c-index l.centres ++ map (λ c. add c l.by) (drop l.c-index l.centres) ≡ map (λ c. add c l.by) l.initial.centres
