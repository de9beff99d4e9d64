-- `drawing_text::put_start_line` meets its contract.
use mathlib.Core.Path.{ap}
use mathlib.Core.List.{[], ◌∷◌}
use Rattle.float.specs.Constants.{f0}
use Rattle.shape.specs.declared.«V».{«V»}
use Rattle.text.specs.Writing.{adds_as}
use Rattle.drawing_text.specs.Lines.{fields_text, head_field}
use Rattle.drawing_text.proofs.Laws.{adds_body, adds-line}
use Rattle.drawing_text.proofs.put_start_line.Goals as goal

pub returns : goal.returns
returns c = adds-line _ (adds_body _ _ c.put_titled.ensures (adds_as (ap (λ (p : «V»). fields_text (head_field p f0 ∷ [])) c.start_tip.ensures) c.put_head.ensures)) c.byte.ensures
