-- `bend::straight` meets its contract.
use Rattle.bend.specs.Between.{straight}
use Rattle.bend.proofs.straight.Goals as goal

pub returns : goal.returns
unfolding straight
returns c = simp (c.angle.ensures, c.sub-q.ensures, c.mul-2.ensures, c.add-p.ensures, c.mul.ensures)
