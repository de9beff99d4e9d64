-- `number::put_num` meets its contract.
use Rattle.text.specs.Writing.{adds_as, adds-more}
use Rattle.number.proofs.Laws.{num_text_is}
use Rattle.number.proofs.put_num.Goals as goal

pub returns : goal.returns
returns c = adds_as (num_text_is c.args.v c.size_of-n.result c.has_minus.result c.size_of-n.ensures c.has_minus.ensures) (adds-more (adds-more (adds_as c.sign.ensures c.bytes.ensures) c.number.ensures) c.put_fraction.ensures)
