-- `svg::arrowhead` meets its contract.
use Rattle.svg.proofs.Laws.{head_is}
use Rattle.svg.proofs.arrowhead.Goals as goal

pub returns : goal.returns
returns c = head_is c.args.tip c.polar-ahead.result c.mul.result c.sub-base.result c.new.result c.mul-side.result c.add-left.result c.sub-right.result c.args.angle c.polar-ahead.ensures c.mul.ensures c.sub-base.ensures c.new.ensures c.mul-side.ensures c.add-left.ensures c.sub-right.ensures
