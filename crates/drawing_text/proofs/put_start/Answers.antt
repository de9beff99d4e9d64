-- `drawing_text::put_start` meets its contract.
use mathlib.Core.Path.{sym, ap, ◌∙◌}
use mathlib.Core.Bool.{Bool, cond}
use mathlib.Core.List.{[]}
use native.Mathlib.Omega.{arith}
use Rattle.text.specs.Writing.{adds_as, adds_none}
use Rattle.drawing_text.specs.Lines.{start_line, listed_state, line_text}
use Rattle.drawing_text.proofs.put_start.Goals as goal

pub returns-else-is_start : goal.returns-else-is_start
returns-else-is_start c = adds_as (sym (ap (λ (b : Bool). cond b (line_text (start_line (listed_state c.args.k c.args.c))) []) (sym c.is_start.ensures ∙ c.if-is_start.false))) (adds_none _ (omega arith) (omega arith))
