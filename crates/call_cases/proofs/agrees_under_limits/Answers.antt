-- `call_cases::agrees_under_limits` meets its contract. Assumes nothing.
use Rattle.std.proofs.Common.{refl, ◌∙◌}
use borrow.Author.Tests.{le-leb, lt-leb}
use Rattle.cases.specs.Laws.{part-tail}
use Rattle.call_cases.specs.Cases.{called_under, under_limits_agrees}
use Rattle.call_cases.specs.Laws.{call_found, no_call, of_three}
use Rattle.call_cases.proofs.agrees_under_limits.Goals as goal

pub returns-then-p-lt25 : goal.returns-then-p-lt25
unfolding under_limits_agrees
returns-then-p-lt25 c = rw (lt-leb _ _ c.if-p-lt25.true)

pub returns-in-Ok : goal.returns-in-Ok
unfolding under_limits_agrees
returns-in-Ok c =
    rw (le-leb _ _ c.if-p-lt25.false, ← c.byte.ensures, call_found _ c.in-Ok.call c.in-Ok.ensures)
    (c.called_under.ensures ∙ of_three called_under _ _ _ _ _ _ c.limits_at.ensures refl (part-tail 25 c.args.p.now))

pub returns-in-Err : goal.returns-in-Err
unfolding under_limits_agrees
returns-in-Err c = rw (le-leb _ _ c.if-p-lt25.false, ← c.byte.ensures, no_call _ c.in-Err.ensures)
