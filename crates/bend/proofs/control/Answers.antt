-- `bend::control` meets its contract.
use Rattle.bend.proofs.control.Goals as goal

pub returns : goal.returns
returns c = simp (c.add-2.ensures, c.mul.ensures, c.left.ensures, c.div-mid.ensures, c.add.ensures)
