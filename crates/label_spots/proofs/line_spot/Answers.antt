-- `label_spots::line_spot` meets its contract.
use mathlib.Core.Path.{refl}
use mathlib.Core.Bool.{true, false}
use Rattle.label_spots.proofs.Laws.{line_spot_is}
use Rattle.label_spots.proofs.line_spot.Goals as goal

pub returns-then-j : goal.returns-then-j
returns-then-j c = line_spot_is c.args.curve c.args.up c.args.j c.at-at.result c.args.up true c.at-at.ensures c.if-j.true refl

pub returns : goal.returns
returns c = line_spot_is c.args.curve c.args.up c.args.j c.at-at.result c.neg.result false c.at-at.ensures c.if-j.false c.neg.ensures
