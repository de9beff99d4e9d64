-- `drawing_text::put_paths` meets its contract.
use Rattle.std.proofs.Common.{drop}
use mathlib.Core.List.{flat_map}
use Rattle.text.specs.Continues.{Continues}
use Rattle.svg.specs.Paths.{curve_path}
use Rattle.label_spots.specs.declared.Geometry.{Geometry}
use Rattle.drawing_text.specs.Lines.{path_line, paths_text}
use Rattle.drawing_text.proofs.put_paths.Given as goal

abbrev pub invariant-loop-g : goal.invariant-loop-g
invariant-loop-g l = Continues l.initial.w l.w (flat_map (λ (g : Geometry). path_line (curve_path g.curve)) (drop l.g-index l.drawn)) (paths_text l.drawn)
