-- `label_spots::arc_spot` meets its contract.
use mathlib.Core.Path.{refl}
use mathlib.Core.Bool.{true, false}
use Rattle.float.specs.Ops.{neg}
use Rattle.label_spots.proofs.Laws.{arc_is}
use Rattle.label_spots.proofs.arc_spot.Goals as goal

pub returns-then-j : goal.returns-then-j
returns-then-j c = arc_is c.args.curve c.args.outer c.args.j c.at-at.result c.normal-left.result c.mul.result c.args.outer true c.at-at.ensures c.normal-left.ensures c.if-j.true refl c.mul.ensures

pub returns : goal.returns
returns c = arc_is c.args.curve c.args.outer c.args.j c.at-at.result c.normal-left.result c.mul-2.result (neg c.args.outer) false c.at-at.ensures c.normal-left.ensures c.if-j.false refl c.mul-2.ensures
