-- `svg::put_from` meets its contract.
use Rattle.text.specs.Writing.{adds_as, adds-more}
use Rattle.svg.proofs.Laws.{from_is}
use Rattle.svg.proofs.put_from.Goals as goal

pub returns : goal.returns
returns c = adds_as (from_is c.args.a c.args.b c.args.letter) (adds-more (adds-more (adds-more c.byte.ensures c.put_point.ensures) c.put_letter.ensures) c.put_point-2.ensures)
