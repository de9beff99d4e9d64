-- `fit::cover_states` meets its contract.
use Rattle.std.proofs.Common.{rules, ◌∙◌}
use Rattle.std.specs.List.{fold}
use Rattle.std.proofs.lemmas.Iterator.{YieldsList-from_slice, YieldsList-from_zip}
use Rattle.std.proofs.lemmas.Iterator.Consumers.{fold_from_yields_List}
use Rattle.shape.specs.Plane.{extended}
use Rattle.fit.specs.Fit.{state_points}
use Rattle.fit.proofs.Laws.{states_covered}
use Rattle.fit.proofs.cover_states.Goals as goal

pub returns : goal.returns
returns c =
    let a = c.args in
    fold_from_yields_List _ (λ b p. fold extended b (state_points p.0 p.1)) a.from _ c.fold.ensures.ran
    (YieldsList-from_zip (YieldsList-from_slice a.flags.now (cc)) (YieldsList-from_slice a.nodes.now (cc))) (λ b x d q k. search rules)
    ∙ states_covered a.from a.flags.now a.nodes.now
