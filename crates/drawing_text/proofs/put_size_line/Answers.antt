use Rattle.drawing_text.proofs.Laws.{adds-line, adds-name, adds-fields}
use Rattle.drawing_text.proofs.put_size_line.Goals as goal

pub returns : goal.returns
returns c = adds-line _ (adds-name _ _ c.bytes.ensures (adds-fields _ _ c.put_field.ensures c.put_field-2.ensures)) c.byte.ensures
