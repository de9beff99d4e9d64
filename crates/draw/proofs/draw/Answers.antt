-- `draw::draw` meets its contract.
use Rattle.std.proofs.Common.{◌∙◌}
use Rattle.draw.specs.Given.{draw_given, after_given}
use Rattle.draw.proofs.draw.Goals as goal

pub returns : goal.returns
returns c = let a = c.args in
    let few = c.requires.small.0 in
    let d = rw c.given-centres.ensures at c.draw_at.ensures in
    (d.0 ∙ draw_given a.m a.s.now a.xs.now a.ys.now few, d.1 ∙ after_given a.m a.s.now a.xs.now a.ys.now few a.out.now)
