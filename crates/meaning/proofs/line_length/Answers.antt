use Rattle.std.proofs.Common.{rules, arith, refl, sym, ap, ◌∙◌, length}
use Rattle.std.proofs.lemmas.Iterator.{YieldsList-from_map}
use Rattle.std.proofs.lemmas.Iterator.Consumers.{sum_by_from_yields_List, YieldsList-from_first, YieldsList-at}
use Rattle.std.proofs.lemmas.Iterator.Adapters.{fits_from_length, at_most_from_yields_List}
use borrow.Author.Tests.{tests}
use Rattle.sheet.specs.Sheet.{piece, chain, first_text}
use Rattle.reader.specs.Reading.{chain_rest}
use Rattle.meaning.proofs.Laws.{length_line}
use Rattle.meaning.proofs.line_length.Goals as goal

pub sum-requires-clause-fits : goal.sum-requires-clause-fits
sum-requires-clause-fits c =
    fits_from_length _ _ 65536 _ (at_most_from_yields_List (YieldsList-at c.map.ensures.source (YieldsList-from_first (λ x. x) chain_rest _ refl)) c.new.ensures.short) c.map.ensures.closure (omega arith) (λ x r q k. search (rules, tests))

pub returns : goal.returns
returns c =
    let list = c.new.ensures.list ∙ ap (chain c.args.s.now) c.first_text_at.ensures in
    sum_by_from_yields_List (λ i. length (piece c.args.s.now i)) (chain c.args.s.now (first_text c.args.s.now c.args.k)) c.map.result _ c.sum.ensures.ran (YieldsList-from_map _ (λ i. length (piece c.args.s.now i)) (YieldsList-at c.map.ensures.source (YieldsList-from_first (λ x. x) chain_rest _ list)) c.map.ensures.closure (λ x r q k. search rules)) ∙ sym (length_line c.args.s.now c.args.k)
