-- `svg::put_point` meets its contract.
use Rattle.text.specs.Writing.{adds_as, adds-more}
use Rattle.svg.proofs.Laws.{point_is}
use Rattle.svg.proofs.put_point.Goals as goal

pub returns : goal.returns
returns c = adds_as (point_is c.args.p) (adds-more (adds-more (adds-more c.byte.ensures c.put_num.ensures) c.byte-2.ensures) c.put_num-2.ensures)
