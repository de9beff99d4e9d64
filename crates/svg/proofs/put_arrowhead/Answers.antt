-- `svg::put_arrowhead` meets its contract.
use Rattle.text.specs.Writing.{adds_as, adds-more}
use Rattle.svg.proofs.Laws.{triangle_is}
use Rattle.svg.proofs.put_arrowhead.Goals as goal

pub returns : goal.returns
returns c = adds_as (triangle_is c.args.tip c.args.angle c.arrowhead-h.result c.arrowhead-h.ensures) (adds-more (adds-more (adds-more c.put_from.ensures c.put_letter.ensures) c.put_point.ensures) c.put_letter-2.ensures)
