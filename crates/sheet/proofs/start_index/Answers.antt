use Rattle.std.proofs.Common.{rules, ◌∙◌, ap}
use Rattle.std.proofs.lemmas.Iterator.{YieldsList-from_slice}
use Rattle.std.proofs.lemmas.Iterator.Search.{position_from_yields_List}
use Rattle.std.proofs.lemmas.Iterator.Adapters.{position_from-zero}
use Rattle.std.specs.Option.{unwrap_or}
use borrow.Author.Tests.{tests}
use Rattle.sheet.specs.Meaning.{is_start}
use Rattle.sheet.proofs.Laws.{start_position}
use Rattle.sheet.proofs.start_index.Goals as goal

pub returns : goal.returns
returns c =
    let found = position_from_yields_List is_start _ _ c.position.result c.position.ensures.ran (YieldsList-from_slice c.args.flags.now cc) (λ x b q k. search (rules, tests)) ∙ position_from-zero is_start c.args.flags.now in
    c.unwrap_or.ensures ∙ ap (λ o. unwrap_or o 0) found ∙ start_position 0 c.args.flags.now
