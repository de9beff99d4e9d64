-- `label_spots::side_of` meets its contract.
use Rattle.label_spots.specs.Labels.{side_of}
use Rattle.label_spots.proofs.side_of.Goals as goal

pub returns-then-dir : goal.returns-then-dir
unfolding side_of
returns-then-dir c = rw c.if-dir.true

pub returns-else-dir : goal.returns-else-dir
unfolding side_of
returns-else-dir c = rw c.if-dir.false
