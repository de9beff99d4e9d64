use Rattle.text.specs.Writing.{adds-more}
use Rattle.svg.specs.Paths.{curve_text}
use Rattle.drawing_text.specs.Lines.{path_line}
use Rattle.drawing_text.proofs.put_path_line.Goals as goal

pub returns : goal.returns
unfolding path_line curve_text
returns c = adds-more c.put_path.ensures c.byte.ensures
