-- `label_spots::normal` meets its contract.
use Rattle.label_spots.specs.Spots.{normal}
use Rattle.label_spots.proofs.normal.Goals as goal

pub returns : goal.returns
unfolding normal
returns c = rw (c.left.ensures, c.unit_or.ensures, c.new.ensures, c.tangent.ensures)
