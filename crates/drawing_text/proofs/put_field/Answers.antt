use Rattle.drawing_text.specs.Lines.{field_text}
use Rattle.drawing_text.proofs.Laws.{adds_field}
use Rattle.drawing_text.proofs.put_field.Goals as goal

pub returns : goal.returns
unfolding field_text
returns c = adds_field _ c.byte.ensures c.put_num.ensures
