-- `label_spots::labelled` meets its contract.
use Rattle.label_spots.specs.Labels.{labelled}
use Rattle.label_spots.proofs.labelled.Goals as goal

pub returns : goal.returns
unfolding labelled
returns c = rw (c.end.ensures, c.left_of-x0.ensures, ← c.place_label-anchor.ensures)
