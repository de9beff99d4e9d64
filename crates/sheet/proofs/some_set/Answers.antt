use Rattle.std.proofs.Common.{refl, rules, sym, ◌∙◌}
use Rattle.std.proofs.lemmas.Iterator.{YieldsList-from_range}
use Rattle.std.proofs.lemmas.Iterator.Search.{any_from_yields_List}
use borrow.Author.Tests.{tests}
use Rattle.laws.specs.Chains.{any_up_list}
use Rattle.sheet.specs.Refusals.{is_set}
use Rattle.sheet.proofs.some_set.Goals as goal

pub returns : goal.returns
unfolding is_set
returns c = any_from_yields_List (is_set c.args.s.now) _ _ _ c.any.ensures.ran (YieldsList-from_range c.args.a c.args.e _ (cc) refl) (λ x b q k. search (rules, tests)) ∙ sym (any_up_list (is_set c.args.s.now) c.args.a c.args.e)
