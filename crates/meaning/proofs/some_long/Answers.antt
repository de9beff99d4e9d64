use Rattle.std.proofs.Common.{rules, sym, ◌∙◌}
use Rattle.std.proofs.lemmas.Iterator.Consumers.{YieldsList-from_first}
use Rattle.std.proofs.lemmas.Iterator.Search.{any_from_yields_List}
use borrow.Author.Tests.{tests}
use Rattle.sheet.specs.Sheet.{line_of}
use Rattle.sheet.specs.Refusals.{long_line}
use Rattle.reader.specs.Reading.{chain_rest}
use Rattle.meaning.proofs.Laws.{lines_any}
use Rattle.meaning.proofs.some_long.Goals as goal

pub returns : goal.returns
returns c = any_from_yields_List (λ k. long_line (line_of c.args.s.now k)) _ _ _ c.any.ensures.ran (YieldsList-from_first (λ x. x) chain_rest _ c.new.ensures.list) (λ x b q k. search (rules, tests)) ∙ sym (lines_any long_line c.args.s.now c.args.first)
