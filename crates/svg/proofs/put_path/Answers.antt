-- `svg::put_path` meets its contract.
use mathlib.Core.Path.{sym, ap, ◌∙◌}
use Rattle.text.specs.Writing.{adds_as, adds-more}
use Rattle.svg.specs.Paths.{curve_text}
use Rattle.svg.proofs.Laws.{line_text_is, quad_is, cubic_is}
use Rattle.svg.proofs.put_path.Goals as goal

pub returns-in-Line : goal.returns-in-Line
returns-in-Line c = adds_as (line_text_is _ _ ∙ sym (ap curve_text c.in-Line.is)) c.put_from.ensures

pub returns-in-Quad : goal.returns-in-Quad
returns-in-Quad c = adds_as (quad_is _ _ _ ∙ sym (ap curve_text c.in-Quad.is)) (adds-more c.put_from-in-Quad.ensures c.put_point.ensures)

pub returns-in-Cubic : goal.returns-in-Cubic
returns-in-Cubic c = adds_as (cubic_is _ _ _ _ ∙ sym (ap curve_text c.in-Cubic.is)) (adds-more (adds-more c.put_from-in-Cubic.ensures c.put_point-in-Cubic.ensures) c.put_point-in-Cubic-2.ensures)
