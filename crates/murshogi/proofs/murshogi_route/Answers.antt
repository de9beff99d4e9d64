-- `murshogi::murshogi_route` meets its contract.
use Rattle.std.proofs.Common.{rules, ◌∙◌}
use Rattle.murshogi.specs.Exports.{both}
use Rattle.murshogi.specs.Laws.{told}
use Rattle.murshogi.proofs.murshogi_route.Goals as goal

pub returns : goal.returns
returns c =
    let l = rw c.limits_of-m.ensures at c.route.ensures in
    let t = told both c.args.lengths.now l.0 in
    let p = c.filled.ensures both (λ v b q. search rules) in
    (p.0 ∙ t.0, l.1, l.2, p.1 ∙ t.1)
