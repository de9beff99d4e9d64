use Rattle.drawing_text.proofs.Laws.{adds-line, adds_body, adds_point}
use Rattle.drawing_text.proofs.put_state_line.Goals as goal

pub returns : goal.returns
returns c = adds-line _ (adds_body _ _ c.put_titled.ensures (adds_point _ c.put_point.ensures)) c.byte.ensures
