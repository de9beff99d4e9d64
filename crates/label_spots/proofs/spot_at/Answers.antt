-- `label_spots::spot_at` meets its contract.
use Rattle.label_spots.proofs.Laws.{below-line, below-arc, at-line, at-arc, at_loop}
use Rattle.label_spots.proofs.spot_at.Goals as goal

pub line_spot-requires : goal.line_spot-requires
line_spot-requires c = below-line c.args.curve c.args.shape c.args.j c.requires.1 c.in-Line.is

pub arc_spot-requires : goal.arc_spot-requires
arc_spot-requires c = below-arc c.args.curve c.args.shape c.args.j c.requires.1 c.in-Arc.outer c.in-Arc.is

pub returns-in-Line : goal.returns-in-Line
returns-in-Line c = at-line c.args.curve c.args.shape c.args.j c.requires.1 c.args.up c.line_spot.result c.in-Line.is c.requires.0 c.line_spot.ensures

pub returns-in-Arc : goal.returns-in-Arc
returns-in-Arc c = at-arc c.args.curve c.args.shape c.args.j c.requires.1 c.in-Arc.outer c.arc_spot.result c.in-Arc.is c.arc_spot.ensures

pub returns-in-Loop : goal.returns-in-Loop
returns-in-Loop c = at_loop c.args.curve c.args.shape c.args.j c.requires.1 c.in-Loop.out c.at.result c.in-Loop.is c.at.ensures
