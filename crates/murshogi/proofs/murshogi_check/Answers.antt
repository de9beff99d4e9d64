-- `murshogi::murshogi_check` meets its contract.
use mathlib.Core.Path.{ap, sym, ◌∙◌}
use Rattle.refusal.specs.Refused.{outcome}
use Rattle.murshogi.specs.Exports.{returned}
use Rattle.murshogi.proofs.murshogi_check.Goals as goal

pub returns-in-Ok : goal.returns-in-Ok
returns-in-Ok c = let l = rw c.limits_of.ensures at c.check.ensures in
    ap returned (ap outcome (sym c.in-Ok.is) ∙ l)

pub returns-in-Err : goal.returns-in-Err
returns-in-Err c = let l = rw c.limits_of.ensures at c.check.ensures in
    c.into.ensures ∙ ap returned (ap outcome (sym c.in-Err.is) ∙ l)
