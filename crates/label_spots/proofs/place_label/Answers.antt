-- `label_spots::place_label` meets its contract.
use Rattle.label_spots.specs.Labels.{place_label}
use Rattle.label_spots.proofs.place_label.Goals as goal

pub returns-then-across : goal.returns-then-across
unfolding place_label
returns-then-across c = rw (← c.abs-across.ensures, ← c.abs-along.ensures, c.if-across.true, c.new.ensures, c.add-centre.ensures, c.mul.ensures)

pub returns-then-along : goal.returns-then-along
unfolding place_label
returns-then-along c = rw (← c.abs-across.ensures, ← c.abs-along.ensures, c.if-across.false, ← c.side_of-anchor.ensures, c.if-along.true, c.new-then-along.ensures)

pub returns-then-dir : goal.returns-then-dir
unfolding place_label
returns-then-dir c = rw (← c.abs-across.ensures, ← c.abs-along.ensures, c.if-across.false, ← c.side_of-anchor.ensures, c.if-along.false, c.if-dir.true, c.new-then-dir.ensures, c.add-corner.ensures, c.mul-2.ensures)

pub returns : goal.returns
unfolding place_label
returns c = rw (← c.abs-across.ensures, ← c.abs-along.ensures, c.if-across.false, ← c.side_of-anchor.ensures, c.if-along.false, c.if-dir.false, c.new-2.ensures, c.add-corner.ensures, c.mul-2.ensures)
