-- `fit::cover_curve` meets its contract.
use Rattle.std.proofs.Common.{rules, ◌∙◌}
use Rattle.std.proofs.lemmas.Iterator.{YieldsList-from_range}
use Rattle.std.proofs.lemmas.Iterator.Consumers.{fold_from_yields_List}
use Rattle.shape.specs.Plane.{extended}
use Rattle.trace.specs.Traces.{sample}
use Rattle.fit.proofs.Laws.{curve_covered}
use Rattle.fit.proofs.cover_curve.Goals as goal

pub returns : goal.returns
returns c =
    let a = c.args in
    fold_from_yields_List _ (λ b k. extended b (sample a.curve k)) a.from _ c.fold.ensures.ran
    (YieldsList-from_range 0 17 17 (cc) (cc)) (λ b x d q k. search rules)
    ∙ curve_covered a.from a.curve
