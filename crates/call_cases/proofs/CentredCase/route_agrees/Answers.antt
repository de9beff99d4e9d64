-- `call_cases::CentredCase::route_agrees` meets its contract. Assumes nothing.
use mathlib.Core.Path.{ap, ◌∙◌}
use mathlib.Core.List.{List}
use Prim.Native.Nat.{ℕ, ◌+◌, ◌*◌}
use lib.ListN.{replicate}
use borrow.Author.Tests.{le-leb, lt-leb}
use Rattle.cases.specs.Laws.{part-tail}
use Rattle.call_cases.specs.Cases.{unset, route_is, route_agrees}
use Rattle.call_cases.specs.Lent.{centred_in}
use Rattle.call_cases.proofs.CentredCase.route_agrees.Goals as goal

pub returns-then-index-gt5200 : goal.returns-then-index-gt5200
unfolding route_agrees
returns-then-index-gt5200 c = rw (← c.index-2.ensures.0, lt-leb _ _ c.if-index-gt5200.true)

pub returns-then-index-gt25700 : goal.returns-then-index-gt25700
unfolding route_agrees
returns-then-index-gt25700 c = rw (← c.index-2.ensures.0, le-leb _ _ c.if-index-gt5200.false, ← c.index-3.ensures.0, lt-leb _ _ c.if-index-gt25700.true)

pub returns-then-rest-end : goal.returns-then-rest-end
unfolding route_agrees
returns-then-rest-end c = rw (← c.index-2.ensures.0, le-leb _ _ c.if-index-gt5200.false, ← c.index-3.ensures.0, le-leb _ _ c.if-index-gt25700.false, ← c.index.ensures.0, lt-leb _ _ c.if-rest-end.true)

pub returns : goal.returns
unfolding route_agrees
returns c =
    rw (← c.index-2.ensures.0, le-leb _ _ c.if-index-gt5200.false, ← c.index-3.ensures.0, le-leb _ _ c.if-index-gt25700.false, ← c.index.ensures.0, le-leb _ _ c.if-rest-end.false)
    (c.route_is.ensures
    ∙ ap (λ (t : List ℕ). route_is (centred_in c.args.self.now) t (replicate 5248 unset) (replicate 25732 170))
    (part-tail (6 + 8 * c.index.result) c.args.self.now.case.rest.now))
