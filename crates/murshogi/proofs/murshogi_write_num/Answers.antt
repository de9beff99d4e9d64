-- `murshogi::murshogi_write_num` meets its contract.
use Rattle.std.proofs.Common.{rules, ◌∙◌}
use Rattle.murshogi.specs.Exports.{itself}
use Rattle.murshogi.specs.Laws.{told}
use Rattle.murshogi.proofs.murshogi_write_num.Goals as goal

pub returns : goal.returns
returns c =
    let l = c.write_num.ensures in
    let t = told itself c.args.length.now l.0 in
    let p = c.filled.ensures itself (λ v b q. search rules) in
    (p.0 ∙ t.0, l.1, p.1 ∙ t.1)
