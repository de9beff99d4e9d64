-- `murshogi::murshogi_layout` meets its contract.
use mathlib.Core.Path.{ap, sym, ◌∙◌}
use Rattle.refusal.specs.Refused.{outcome}
use Rattle.murshogi.specs.Exports.{layout_size, layout_states}
use Rattle.murshogi.specs.Laws.{told}
use Rattle.murshogi.proofs.murshogi_layout.Goals as goal

pub returns-in-Ok : goal.returns-in-Ok
returns-in-Ok c = let l = rw c.limits_of-m.ensures at c.layout.ensures in
    let e = ap outcome (sym c.in-Ok.is) ∙ l.0 in
    let t = told layout_size c.args.size.now e in
    (t.0, l.1, l.2, t.1, (told layout_states c.args.states.now e).1)

pub returns-in-Err : goal.returns-in-Err
returns-in-Err c = let l = rw c.limits_of-m.ensures at c.layout.ensures in
    let e = ap outcome (sym c.in-Err.is) ∙ l.0 in
    let t = told layout_size c.args.size.now e in
    (c.into.ensures ∙ t.0, l.1, l.2, t.1, (told layout_states c.args.states.now e).1)
