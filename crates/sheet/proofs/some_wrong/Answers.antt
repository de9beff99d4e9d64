use Rattle.std.proofs.Common.{refl, rules, sym, ◌∙◌, ◌+◌}
use Rattle.std.proofs.lemmas.Iterator.{YieldsList-from_range}
use Rattle.std.proofs.lemmas.Iterator.Search.{any_from_yields_List}
use borrow.Author.Tests.{tests}
use Rattle.laws.specs.Chains.{any_up_list}
use Rattle.sheet.specs.Refusals.{wrong_record}
use Rattle.sheet.proofs.some_wrong.Goals as goal

pub returns : goal.returns
returns c = any_from_yields_List (wrong_record c.args.s.now) _ _ _ c.any.ensures.ran (YieldsList-from_range 1 (c.args.n + 1) _ (cc) refl) (λ x b q k. search (rules, tests)) ∙ sym (any_up_list (wrong_record c.args.s.now) 1 (c.args.n + 1))
