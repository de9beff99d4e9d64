-- `call_cases::Case::list_agrees` meets its contract. Assumes nothing.
use mathlib.Core.Path.{ap, ◌∙◌}
use mathlib.Core.List.{List}
use Prim.Native.Nat.{ℕ}
use lib.ListN.{replicate}
use borrow.Author.Tests.{le-leb, lt-leb}
use Rattle.cases.specs.Laws.{part-tail}
use Rattle.call_cases.specs.Cases.{list_is, list_agrees}
use Rattle.call_cases.specs.Lent.{case_in}
use Rattle.call_cases.proofs.Case.list_agrees.Goals as goal

pub returns-then-self-lt2 : goal.returns-then-self-lt2
unfolding list_agrees
returns-then-self-lt2 c = rw (lt-leb _ _ c.if-self-lt2.true)

pub returns : goal.returns
unfolding list_agrees
returns c = rw (le-leb _ _ c.if-self-lt2.false, ← c.index-room.ensures.0) (c.list_is.ensures ∙ ap (λ (t : List ℕ). list_is (case_in c.args.self.now) c.index-room.result t (replicate 65600 170)) (part-tail 2 c.args.self.now.rest.now))
