use Rattle.drawing_text.proofs.Laws.{adds_lines, adds-last}
use Rattle.drawing_text.proofs.put_record_lines.Goals as goal

pub returns : goal.returns
returns c = adds_lines _ _ c.put_edge_line.ensures
    (adds_lines _ _ c.put_tip_line.ensures
    (adds_lines _ _ c.put_head_line.ensures
    (adds-last _ c.put_label_line.ensures)))
