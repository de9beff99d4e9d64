use Rattle.std.proofs.Common.{rules, tests, sym, ◌∙◌, ◌||◌}
use Rattle.std.proofs.lemmas.Iterator.{YieldsList-from_slice, YieldsList-from_take}
use Rattle.std.proofs.lemmas.Iterator.Search.{any_from_yields_List}
use Rattle.draw.specs.Drawn.{far}
use Rattle.draw.proofs.Laws.{far_either}
use Rattle.draw.proofs.far_centre.Goals as goal

pub returns : goal.returns
returns c =
    let a = c.args in
    any_from_yields_List (λ v. far v.x || far v.y) _ _ _ c.any.ensures.ran
    (YieldsList-from_take a.n (YieldsList-from_slice a.centres.now (cc)) (cc)) (λ x b q k. search (rules, tests))
    ∙ sym (far_either a.n a.centres.now)
