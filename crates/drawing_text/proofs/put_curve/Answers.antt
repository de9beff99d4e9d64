use Rattle.svg.specs.Paths.{curve_text}
use Rattle.drawing_text.specs.Lines.{field_text}
use Rattle.drawing_text.proofs.Laws.{adds_field}
use Rattle.drawing_text.proofs.put_curve.Goals as goal

pub returns : goal.returns
unfolding field_text curve_text
returns c = adds_field _ c.byte.ensures c.put_path.ensures
