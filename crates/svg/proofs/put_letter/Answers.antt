-- `svg::put_letter` meets its contract.
use Rattle.text.specs.Writing.{adds-more}
use Rattle.svg.proofs.put_letter.Goals as goal

pub returns : goal.returns
returns c = adds-more c.byte.ensures c.byte-2.ensures
