-- `bend::pair_bow` meets its contract.
use Rattle.bend.proofs.Laws.{pair_is}
use Rattle.bend.proofs.pair_bow.Goals as goal

pub returns : goal.returns
returns c = let a = c.args in
    pair_is a.c a.nodes.now a.spans.now c.pair_up-up.result c.verified.result c.pair_up-up.ensures c.verified.ensures
