use Rattle.std.proofs.Common.{rules, sym, ap, ◌∙◌}
use Rattle.std.proofs.lemmas.Iterator.Consumers.{YieldsList-from_first}
use Rattle.std.proofs.lemmas.Iterator.Search.{any_from_yields_List}
use borrow.Author.Tests.{tests}
use Rattle.sheet.specs.Sheet.{arrow_of, chain}
use Rattle.sheet.specs.Refusals.{large_arrow}
use Rattle.reader.specs.Reading.{chain_rest}
use Rattle.meaning.proofs.Laws.{arrows_any}
use Rattle.meaning.proofs.some_large.Goals as goal

pub returns : goal.returns
returns c = any_from_yields_List (λ k. large_arrow c.args.m (arrow_of c.args.s.now k)) _ _ _ c.any.ensures.ran (YieldsList-from_first (λ x. x) chain_rest _ (c.new.ensures.list ∙ ap (chain c.args.s.now) c.word_at.ensures)) (λ x b q k. search (rules, tests)) ∙ sym (arrows_any (large_arrow c.args.m) c.args.s.now)
