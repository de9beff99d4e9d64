use Rattle.svg.specs.Paths.{head_text}
use Rattle.drawing_text.specs.Lines.{field_text}
use Rattle.drawing_text.proofs.Laws.{adds_field}
use Rattle.drawing_text.proofs.put_head.Goals as goal

pub returns : goal.returns
unfolding field_text head_text
returns c = adds_field _ c.byte.ensures c.put_arrowhead.ensures
