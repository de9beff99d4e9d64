use Rattle.std.proofs.Common.{rules, sym, ap, ◌∙◌}
use Rattle.std.proofs.lemmas.Iterator.Consumers.{YieldsList-from_first}
use Rattle.std.proofs.lemmas.Iterator.Search.{any_from_yields_List}
use borrow.Author.Tests.{tests}
use Rattle.sheet.specs.Sheet.{arrow_of, chain}
use Rattle.sheet.specs.Refusals.{ill_arrow, ill_formed}
use Rattle.reader.specs.Reading.{chain_rest}
use Rattle.meaning.proofs.Laws.{arrows_any}
use Rattle.meaning.proofs.ill_formed.Goals as goal

pub returns : goal.returns
unfolding ill_formed
returns c = any_from_yields_List (λ k. ill_arrow (arrow_of c.args.s.now k)) _ _ _ c.any.ensures.ran (YieldsList-from_first (λ x. x) chain_rest _ (c.new.ensures.list ∙ ap (chain c.args.s.now) c.word_at.ensures)) (λ x b q k. search (rules, tests)) ∙ sym (arrows_any ill_arrow c.args.s.now)
