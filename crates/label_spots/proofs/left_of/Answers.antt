-- `label_spots::left_of` meets its contract.
use Rattle.label_spots.proofs.left_of.Goals as goal

pub returns-in-Middle : goal.returns-in-Middle
returns-in-Middle c = rw c.in-Middle.is

pub returns-in-End : goal.returns-in-End
returns-in-End c = rw c.in-End.is
