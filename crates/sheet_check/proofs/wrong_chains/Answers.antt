use mathlib.Core.Path.{sym, ◌∙◌, ap}
use mathlib.Core.Bool.{Bool}
use borrow.Author.Tests.{not-true}
use Rattle.sheet_check.specs.Walk.{walked}
use Rattle.sheet_check.specs.Marks.{chains_wrong}
use mathlib.Core.Bool.{not}
use Rattle.sheet_check.proofs.wrong_chains.Goals as goal

pub returns-then-not-walk_all : goal.returns-then-not-walk_all
returns-then-not-walk_all c = chains_wrong c.args.s.now c.walk_all.new.marks c.requires (ap (λ (b : Bool). walked b c.walk_all.new.marks) (sym (not-true _ (ap not c.if-not-walk_all.true))) ∙ c.walk_all.ensures)
