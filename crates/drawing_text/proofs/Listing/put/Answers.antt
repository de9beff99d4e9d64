-- `drawing_text::Listing::put` meets its contract.
use Rattle.drawing_text.specs.Lines.{list_text, list_lines}
use Rattle.drawing_text.proofs.Laws.{adds_lines, adds-both, adds-last}
use Rattle.drawing_text.proofs.Listing.put.Goals as goal

pub returns : goal.returns
unfolding list_text list_lines
returns c = adds_lines _ _ c.put_size_line.ensures
    (adds-both _ _ c.put_states.ensures
    (adds-both _ _ c.put_records.ensures
    (adds-both _ _ c.put_starts.ensures (adds-last _ c.put_total_line.ensures))))
