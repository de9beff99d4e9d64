-- Document 02, T-01: the numbers of the listing's last line, over the meaning of a sheet and the records drawn of it.
use Rattle.std.specs.Prelude.{Bool, not, ℕ, eqb, length}
use mathlib.Core.List.{List, flat_map}
use Rattle.laws.specs.Counting.{how_many}
use Rattle.laws.specs.Filter.{filter_by}
use Rattle.shape.specs.declared.Curve.{Curve}
use Rattle.shape.specs.declared.Curve.TheVariants.{Line, Quad, Cubic}
use Rattle.label_spots.specs.declared.Geometry.{Geometry}
use Rattle.sheet.specs.Sheet.{Arrow, Graph}
use Rattle.sheet.specs.Meaning.{is_kept}
use Rattle.totals.specs.declared.Totals.{Totals}

-- document 01: "2, 3 or 4 points"
abbrev pub point_count : Curve → ℕ
point_count (Line p q) = 2
point_count (Quad p c q) = 3
point_count (Cubic p c d q) = 4

-- a record whose curve has n points
abbrev pub has_points : ℕ → Geometry → Bool
has_points n g = eqb (point_count g.curve) n

-- document 01: "An arrow with an end not below the number of states is accepted and left out of the records"
abbrev pub is_left_out : Graph → Arrow → Bool
is_left_out g a = not (is_kept g a)

-- "Label lines of left-out arrows are not counted."
abbrev pub counted_lines : Graph → List (List ℕ)
counted_lines g = flat_map (λ a. a.lines) (filter_by (is_kept g) g.arrows)

-- "the numbers of straight arrows, arcs, loops, left-out arrows and label lines": straight arrows have two points, arcs three, loops four
unfoldable pub totals_of : Graph → List Geometry → Totals
totals_of g gs = record {
  straight = how_many (has_points 2) gs;
  arcs = how_many (has_points 3) gs;
  loops = how_many (has_points 4) gs;
  left_out = how_many (is_left_out g) g.arrows;
  lines = length (counted_lines g);
}
