-- `call_cases::stands` meets its contract. Assumes nothing.
use Rattle.std.proofs.Common.{ap, ◌∙◌}
use borrow.Author.Tests.{le-leb, lt-leb}
use Rattle.cases.specs.Laws.{part-tail}
use Rattle.call_cases.specs.Cases.{holds, stands}
use Rattle.call_cases.proofs.stands.Goals as goal

pub returns-then-out-lt16 : goal.returns-then-out-lt16
unfolding stands
returns-then-out-lt16 g c alike e = rw (lt-leb _ _ c.if-out-lt16.true)

pub returns-then-not-holds : goal.returns-then-not-holds
unfolding stands
returns-then-not-holds g c alike e = rw (le-leb _ _ c.if-out-lt16.false, ← (c.holds.ensures alike e), c.if-not-holds.true)

pub returns : goal.returns
unfolding stands
returns g c alike e =
    rw (le-leb _ _ c.if-out-lt16.false, ← (c.holds.ensures alike e), c.if-not-holds.false)
    (c.holds-2.ensures alike e ∙ ap (λ l. holds alike c.args.unset l c.args.values.now) (part-tail 16 c.args.out.now))
