-- `self_loop::Loop::drawn` meets its contract.
use Rattle.self_loop.proofs.Laws.{drawn_is}
use Rattle.self_loop.proofs.Loop.drawn.Goals as goal

pub returns : goal.returns
returns c = let a = c.args in
    drawn_is a.self.now.edge a.c a.self.now.width a.self.now.height a.phi c.loop_routed-arrow.result c.at.result c.polar.result c.labelled.result c.loop_routed-arrow.ensures c.at.ensures c.polar.ensures c.labelled.ensures
