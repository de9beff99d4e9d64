use Rattle.std.proofs.Common.{rules, sym, ◌∙◌}
use Rattle.std.proofs.lemmas.Iterator.{YieldsList-from_slice}
use Rattle.std.proofs.lemmas.Iterator.Consumers.{fold_from_yields_List}
use Rattle.laws.specs.Chains.{over_list}
use Rattle.text.specs.Automaton.{feed_of}
use Rattle.text.proofs.feed_part.Goals as goal

pub returns : goal.returns
returns c = fold_from_yields_List _ feed_of c.args.awaiting _ c.fold.ensures.ran (YieldsList-from_slice c.args.s.now (cc)) (λ a x b q k. search rules) ∙ sym (over_list feed_of c.args.awaiting c.args.s.now)
