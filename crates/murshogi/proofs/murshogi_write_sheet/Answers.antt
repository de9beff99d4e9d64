-- `murshogi::murshogi_write_sheet` meets its contract.
use Rattle.std.proofs.Common.{rules, ◌∙◌}
use Rattle.murshogi.specs.Exports.{itself}
use Rattle.murshogi.specs.Laws.{told}
use Rattle.murshogi.proofs.murshogi_write_sheet.Goals as goal

pub returns : goal.returns
returns c =
    let l = rw c.limits_of-m.ensures at c.write_sheet.ensures in
    let t = told itself c.args.length.now l.0 in
    let p = c.filled.ensures itself (λ v b q. search rules) in
    (p.0 ∙ t.0, l.1, p.1 ∙ t.1)
