-- `bend::single_bow` meets its contract.
use Rattle.bend.proofs.Laws.{down-first, up_first}
use Rattle.bend.proofs.single_bow.Goals as goal

pub returns-then-abs : goal.returns-then-abs
returns-then-abs c = let a = c.args in
    down-first a.c a.nodes.now a.spans.now c.max-cap.result c.first_free-up.result c.first_free-down.result c.capped-high.result c.capped-low.result c.abs-2.result c.abs.result
    c.max-cap.ensures c.first_free-up.ensures c.first_free-down.ensures c.capped-high.ensures c.capped-low.ensures c.abs-2.ensures c.abs.ensures c.verified.result c.if-abs.true c.verified.ensures

pub returns : goal.returns
returns c = let a = c.args in
    up_first a.c a.nodes.now a.spans.now c.max-cap.result c.first_free-up.result c.first_free-down.result c.capped-high.result c.capped-low.result c.abs-2.result c.abs.result
    c.max-cap.ensures c.first_free-up.ensures c.first_free-down.ensures c.capped-high.ensures c.capped-low.ensures c.abs-2.ensures c.abs.ensures c.verified-2.result c.if-abs.false c.verified-2.ensures
