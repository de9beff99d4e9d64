use Rattle.std.proofs.Common.{refl, rules, sym, ◌∙◌, ◌+◌}
use Rattle.std.proofs.lemmas.Iterator.{YieldsList-from_range}
use Rattle.std.proofs.lemmas.Iterator.Search.{any_from_yields_List}
use borrow.Author.Tests.{tests}
use Rattle.laws.specs.Chains.{any_up_list}
use Rattle.sheet_check.specs.Walk.{unmarked}
use Rattle.sheet_check.proofs.some_unmarked.Goals as goal

pub returns : goal.returns
unfolding unmarked
returns c = any_from_yields_List (unmarked c.args.marks.now) _ _ _ c.any.ensures.ran (YieldsList-from_range 1 (c.args.n + 1) _ (cc) refl) (λ x b q k. search (rules, tests)) ∙ sym (any_up_list (unmarked c.args.marks.now) 1 (c.args.n + 1))
