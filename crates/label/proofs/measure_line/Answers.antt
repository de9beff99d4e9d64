use Rattle.std.proofs.Common.{rules, ap, ◌∙◌}
use Rattle.std.proofs.lemmas.Iterator.Consumers.{fold_from_yields_List, YieldsList-from_first}
use Rattle.sheet.specs.Sheet.{piece, chain, first_text}
use Rattle.std.specs.List.{fold}
use Rattle.reader.specs.Reading.{chain_rest}
use Rattle.label.specs.Measuring.{measure_all}
use Rattle.label.proofs.Laws.{measure_of_line}
use Rattle.label.proofs.measure_line.Goals as goal

pub returns : goal.returns
returns c = let s = c.args.s.now in
    fold_from_yields_List _ (λ t i. measure_all t (piece s i)) c.measure_start.result _ c.fold.ensures.ran (YieldsList-from_first (λ x. x) chain_rest _ (c.new.ensures.list ∙ ap (chain s) c.first_text_at.ensures)) (λ a x b q k. search rules)
    ∙ ap (λ m. fold (λ t i. measure_all t (piece s i)) m (chain s (first_text s c.args.k))) c.measure_start.ensures ∙ measure_of_line s c.args.k
