-- `drawing_text::start_ok` meets its contract.
use mathlib.Core.Path.{sym, ap, ◌∙◌}
use mathlib.Core.Bool.{Bool, true, cond}
use Rattle.laws.specs.Every.{every}
use Rattle.float.specs.Constants.{f0}
use Rattle.shape.specs.declared.«V».{«V»}
use Rattle.svg.specs.Paths.{head_of, head_path, path_writable}
use Rattle.drawing_text.specs.Lines.{listed_state, start_line, field_writable, fields_writable, line_writable}
use Rattle.drawing_text.proofs.Laws.{last}
use Rattle.drawing_text.proofs.start_ok.Goals as goal

pub returns-then-is_start : goal.returns-then-is_start
unfolding line_writable fields_writable field_writable every
returns-then-is_start c = last (c.head_writable.ensures ∙ ap (λ (p : «V»). path_writable (head_path (head_of p f0))) c.start_tip.ensures)
    ∙ sym (ap (λ (b : Bool). cond b (line_writable (start_line (listed_state c.args.k c.args.c))) true)
    (sym c.is_start.ensures ∙ c.if-is_start.true))
