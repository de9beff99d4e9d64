use Rattle.std.proofs.Common.{rules, sym, ap, ◌∙◌}
use Rattle.std.proofs.lemmas.Iterator.Consumers.{YieldsList-from_first}
use Rattle.std.proofs.lemmas.Iterator.Search.{any_from_yields_List}
use borrow.Author.Tests.{tests}
use Rattle.sheet.specs.Sheet.{line_of, arrow_of, first_line, chain}
use Rattle.sheet.specs.Refusals.{ill_line, ill_arrow}
use Rattle.reader.specs.Reading.{chain_rest}
use Rattle.meaning.proofs.Laws.{lines_any}
use Rattle.meaning.proofs.ill_arrow.Goals as goal

pub returns : goal.returns
unfolding ill_arrow arrow_of
returns c = any_from_yields_List (λ k. ill_line (line_of c.args.s.now k)) _ _ _ c.any.ensures.ran (YieldsList-from_first (λ x. x) chain_rest _ (c.new.ensures.list ∙ ap (chain c.args.s.now) c.first_line_at.ensures)) (λ x b q k. search (rules, tests)) ∙ sym (lines_any ill_line c.args.s.now (first_line c.args.s.now c.args.k))
