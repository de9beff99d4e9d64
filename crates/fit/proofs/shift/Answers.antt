-- `fit::shift` meets its contract.
use mathlib.Core.Path.{refl, ◌∙◌}
use native.Mathlib.Omega.{arith}
use lib.Ieee.{nan}
use Rattle.laws.specs.Filled.{map-step, map-end}
use Rattle.shape.specs.declared.«V».{«V»}
use Rattle.shape.specs.Plane.{vec, add}
use Rattle.fit.proofs.shift.Goals as goal

pub loop-c-init : goal.loop-c-init
loop-c-init c = refl

pub loop-c-preserved : goal.loop-c-preserved
loop-c-preserved c = let l = c.loop-c in
    let f : «V» → «V» = λ v. add v c.args.by in
    map-step f (vec nan nan) l.centres l.c-index c.add.result (omega arith) c.add.ensures ∙ l.invariant

pub returns : goal.returns
returns c = let l = c.loop-c in map-end (λ v. add v c.args.by) (vec nan nan) l.centres l.c-index (omega arith) ∙ l.invariant
