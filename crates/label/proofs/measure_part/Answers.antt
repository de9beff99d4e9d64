use Rattle.std.proofs.Common.{rules, sym, ◌∙◌}
use Rattle.std.proofs.lemmas.Iterator.{YieldsList-from_slice}
use Rattle.std.proofs.lemmas.Iterator.Consumers.{fold_from_yields_List}
use Rattle.laws.specs.Chains.{over_list}
use Rattle.label.specs.Measuring.{measure_of}
use Rattle.label.proofs.measure_part.Goals as goal

pub returns : goal.returns
returns c = fold_from_yields_List _ measure_of c.args.m _ c.fold.ensures.ran (YieldsList-from_slice c.args.piece.now (cc)) (λ a x b q k. search rules) ∙ sym (over_list measure_of c.args.m c.args.piece.now)
