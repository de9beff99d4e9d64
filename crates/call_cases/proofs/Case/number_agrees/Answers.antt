-- `call_cases::Case::number_agrees` meets its contract. Assumes nothing.
use mathlib.Core.Path.{ap₂, ◌∙◌}
use mathlib.Core.List.{List}
use Prim.Native.Nat.{ℕ}
use lib.ListN.{replicate}
use lib.Ieee.{Float}
use borrow.Author.Tests.{le-leb, lt-leb}
use Rattle.cases.specs.Laws.{part-tail}
use Rattle.call_cases.specs.Cases.{number_is, number_agrees}
use Rattle.call_cases.specs.Lent.{case_in}
use Rattle.call_cases.proofs.Case.number_agrees.Goals as goal

pub returns-then-room-gt64 : goal.returns-then-room-gt64
unfolding number_agrees
returns-then-room-gt64 c = rw (← c.index-room.ensures.0, lt-leb _ _ c.if-room-gt64.true)

pub returns-then-self-lt10 : goal.returns-then-self-lt10
unfolding number_agrees
returns-then-self-lt10 c = rw (← c.index-room.ensures.0, le-leb _ _ c.if-room-gt64.false, lt-leb _ _ c.if-self-lt10.true)

pub returns : goal.returns
unfolding number_agrees
returns c = rw (← c.index-room.ensures.0, le-leb _ _ c.if-room-gt64.false, le-leb _ _ c.if-self-lt10.false) (c.number_is.ensures ∙ ap₂ (λ (v : Float) (t : List ℕ). number_is (case_in c.args.self.now) v c.index-room.result t (replicate 96 170)) c.float.ensures (part-tail 10 c.args.self.now.rest.now))
