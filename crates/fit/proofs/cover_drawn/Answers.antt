-- `fit::cover_drawn` meets its contract.
use Rattle.fit.proofs.Laws.{drawn-covered}
use Rattle.fit.proofs.cover_drawn.Goals as goal

pub returns : goal.returns
returns c = let a = c.args in
    drawn-covered a.b c.cover_curve-along.result c.extended-first.result c.extended.result a.g.now c.new.result c.new-2.result c.cover_curve-along.ensures c.new.ensures c.extended-first.ensures c.new-2.ensures c.extended.ensures
