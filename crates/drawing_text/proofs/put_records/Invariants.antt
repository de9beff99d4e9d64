-- `drawing_text::put_records` meets its contract.
use Rattle.std.proofs.Common.{drop}
use mathlib.Core.List.{flat_map}
use Rattle.text.specs.Continues.{Continues}
use Rattle.label_spots.specs.declared.Geometry.{Geometry}
use Rattle.drawing_text.specs.Lines.{lines_text, record_lines}
use Rattle.drawing_text.proofs.put_records.Given as goal

abbrev pub invariant-loop-g : goal.invariant-loop-g
invariant-loop-g l = Continues l.initial.w l.w (flat_map (λ (g : Geometry). lines_text (record_lines g)) (drop l.g-index l.drawn)) (lines_text (flat_map record_lines l.drawn))
