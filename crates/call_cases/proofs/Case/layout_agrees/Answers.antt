-- `call_cases::Case::layout_agrees` meets its contract. Assumes nothing.
use borrow.Author.Tests.{le-leb, lt-leb}
use Rattle.call_cases.specs.Cases.{layout_agrees}
use Rattle.call_cases.proofs.Case.layout_agrees.Goals as goal

pub returns-then-index-gt128 : goal.returns-then-index-gt128
unfolding layout_agrees
returns-then-index-gt128 c = rw (← c.index.ensures.0, lt-leb _ _ c.if-index-gt128.true)

pub returns-then-index-gt128-2 : goal.returns-then-index-gt128-2
unfolding layout_agrees
returns-then-index-gt128-2 c = rw (← c.index.ensures.0, le-leb _ _ c.if-index-gt128.false, ← c.index-2.ensures.0, lt-leb _ _ c.if-index-gt128-2.true)

pub returns : goal.returns
unfolding layout_agrees
returns c = rw (← c.index.ensures.0, le-leb _ _ c.if-index-gt128.false, ← c.index-2.ensures.0, le-leb _ _ c.if-index-gt128-2.false) c.layout_is.ensures
