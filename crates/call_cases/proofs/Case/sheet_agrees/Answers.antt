-- `call_cases::Case::sheet_agrees` meets its contract. Assumes nothing.
use mathlib.Core.Path.{ap, ◌∙◌}
use mathlib.Core.List.{List}
use Prim.Native.Nat.{ℕ}
use lib.ListN.{replicate}
use borrow.Author.Tests.{le-leb, lt-leb}
use Rattle.cases.specs.Laws.{part-tail}
use Rattle.call_cases.specs.Cases.{sheet_is, sheet_agrees}
use Rattle.call_cases.specs.Lent.{case_in}
use Rattle.call_cases.proofs.Case.sheet_agrees.Goals as goal

pub returns-then-room-gt65568 : goal.returns-then-room-gt65568
unfolding sheet_agrees
returns-then-room-gt65568 c = rw (← c.length_at-room.ensures.0, lt-leb _ _ c.if-room-gt65568.true)

pub returns-then-self-lt4 : goal.returns-then-self-lt4
unfolding sheet_agrees
returns-then-self-lt4 c = rw (← c.length_at-room.ensures.0, le-leb _ _ c.if-room-gt65568.false, lt-leb _ _ c.if-self-lt4.true)

pub returns : goal.returns
unfolding sheet_agrees
returns c =
    rw (← c.length_at-room.ensures.0, le-leb _ _ c.if-room-gt65568.false, le-leb _ _ c.if-self-lt4.false)
    (c.sheet_is.ensures ∙ ap (λ (t : List ℕ). sheet_is (case_in c.args.self.now) c.length_at-room.result t (replicate 65600 170)) (part-tail 4 c.args.self.now.rest.now))
