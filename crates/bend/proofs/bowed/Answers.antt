-- `bend::bowed` meets its contract.
use Rattle.bend.specs.Between.{bowed}
use Rattle.bend.proofs.bowed.Goals as goal

pub returns : goal.returns
unfolding bowed
returns c = simp (c.signum.ensures, c.angle.ensures, c.sub-3.ensures, c.add-q.ensures, c.mul-2.ensures, c.unit_or-2.ensures, c.neg.ensures, c.sub-2.ensures, c.add-p.ensures, c.mul.ensures, c.unit_or.ensures, c.sub.ensures, c.control-m.ensures)
