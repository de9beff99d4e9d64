use Rattle.std.proofs.Common.{rules, ap, ◌∙◌}
use Rattle.std.proofs.lemmas.Iterator.Consumers.{fold_from_yields_List, YieldsList-from_first}
use Rattle.text.specs.declared.Awaiting.TheVariants.{First}
use Rattle.text.specs.Automaton.{feed_all}
use Rattle.sheet.specs.Sheet.{piece, chain}
use Rattle.reader.specs.Reading.{chain_rest}
use Rattle.meaning.proofs.Laws.{feed_line}
use Rattle.meaning.proofs.feed_line.Goals as goal

pub returns : goal.returns
returns c = fold_from_yields_List _ (λ t i. feed_all t (piece c.args.s.now i)) First _ c.fold.ensures.ran (YieldsList-from_first (λ x. x) chain_rest _ (c.new.ensures.list ∙ ap (chain c.args.s.now) c.first_text_at.ensures)) (λ a x b q k. search rules) ∙ feed_line c.args.s.now c.args.k
