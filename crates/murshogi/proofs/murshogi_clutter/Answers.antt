-- `murshogi::murshogi_clutter` meets its contract.
use Rattle.std.proofs.Common.{rules, ◌∙◌}
use Rattle.murshogi.specs.Exports.{itself}
use Rattle.murshogi.specs.Laws.{told}
use Rattle.murshogi.proofs.murshogi_clutter.Goals as goal

pub returns : goal.returns
returns c =
    let l = rw c.limits_of-m.ensures at c.clutter.ensures in
    let t = told itself c.args.count.now l in
    let p = c.filled.ensures itself (λ v b q. search rules) in
    (p.0 ∙ t.0, p.1 ∙ t.1)
