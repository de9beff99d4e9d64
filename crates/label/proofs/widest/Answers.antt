use Rattle.std.proofs.Common.{rules, ◌∙◌}
use Rattle.std.proofs.lemmas.Iterator.Consumers.{fold_from_yields_List, YieldsList-from_first}
use Rattle.sheet.specs.Sheet.{line_of}
use Rattle.reader.specs.Reading.{chain_rest}
use Rattle.float.specs.Constants.{f0}
use Rattle.label.specs.Label.{wider_line}
use Rattle.label.proofs.Laws.{widest_of_chain, wider-measured}
use Rattle.label.proofs.widest.Goals as goal

pub returns : goal.returns
returns c = let s = c.args.s.now in
    fold_from_yields_List _ (λ w k. wider_line w (line_of s k)) f0 _ c.fold.ensures.ran (YieldsList-from_first (λ x. x) chain_rest _ c.new.ensures.list) (λ a x b q k. search (rules, wider-measured)) ∙ widest_of_chain s c.args.first
