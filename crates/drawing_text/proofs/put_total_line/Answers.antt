use Rattle.drawing_text.proofs.Laws.{adds-line, adds_body}
use Rattle.drawing_text.proofs.put_total_line.Goals as goal

pub returns : goal.returns
returns c = adds-line _ (adds_body _ _ (adds_body _ _ (adds_body _ _ (adds_body _ _ c.put_titled.ensures c.put_whole.ensures) c.put_whole-2.ensures) c.put_whole-3.ensures) c.put_whole-4.ensures) c.byte.ensures
