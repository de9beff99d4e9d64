-- `fit::cover_all` meets its contract.
use Rattle.std.proofs.Common.{rules, ◌∙◌}
use Rattle.std.specs.List.{fold}
use Rattle.std.proofs.lemmas.Iterator.{YieldsList-from_slice}
use Rattle.std.proofs.lemmas.Iterator.Consumers.{fold_from_yields_List}
use Rattle.shape.specs.Plane.{extended}
use Rattle.fit.specs.Fit.{drawn_points}
use Rattle.fit.proofs.Laws.{arrows_covered}
use Rattle.fit.proofs.cover_all.Goals as goal

pub returns : goal.returns
returns c =
    let a = c.args in
    fold_from_yields_List _ (λ b g. fold extended b (drawn_points g)) a.from _ c.fold.ensures.ran
    (YieldsList-from_slice a.drawn.now (cc)) (λ b x d q k. search rules)
    ∙ arrows_covered a.from a.drawn.now
