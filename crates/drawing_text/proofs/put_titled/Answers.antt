use Rattle.drawing_text.proofs.Laws.{adds-name}
use Rattle.drawing_text.proofs.put_titled.Goals as goal

pub returns : goal.returns
returns c = adds-name _ _ c.bytes.ensures c.put_whole.ensures
