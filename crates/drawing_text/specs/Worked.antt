-- The text of the worked listing, from its numbers. Assumes nothing.
use Rattle.std.specs.Prelude.{◌≡◌, refl, ℕ}
use mathlib.Core.List.{List, [], ◌∷◌, ◌++◌, flat_map}
use Rattle.std.specs.Float.Ieee.{of_bits, of_fields, of_int, to_unsigned, round, size, span, climb, units, odd, sum, add, sub, mul, div, rem, neg, lt, eq}
use Rattle.std.specs.Int.Count.{count_trailing_zeros}
use Rattle.laws.specs.Filter.{filter_by}
use Rattle.laws.specs.Loops.{down}
use Rattle.float.specs.Constants.{f0, whole}
use Rattle.float.specs.Standins.{sin, cos, reduced, series}
use Rattle.float.specs.Standins as S
use Rattle.text.specs.Digits.{digits, digits_by}
use Rattle.text.specs.Ascii.{ascii}
use Rattle.number.specs.Number.{num_text, decimal, rounded_size, minus_text, fraction}
use Rattle.shape.specs.declared.Curve.TheVariants.{Line}
use Rattle.shape.specs.Plane.{vec, rect}
use Rattle.svg.specs.Paths.{head_of, point_text, points_text, more_text, path_text}
use Rattle.label_spots.specs.declared.Anchor.TheVariants.{Middle}
use Rattle.label_spots.specs.declared.Geometry.{Geometry}
use Rattle.totals.specs.declared.Totals.{Totals}
use Rattle.drawing_text.specs.Lines.{states_from, starts, field_text, fields_text, body_text, line_text, lines_text, list_lines, list_text}

-- the arrow from state 0 to state 1, with its label; no text shows the label's box
abbrev pub worked_arrow : Geometry
worked_arrow = record {
  edge = 0;
  curve = Line (vec (whole 88) (whole 38)) (vec (whole 184) (whole 38));
  tip = vec (whole 184) (whole 38);
  tip_angle = f0;
  label = vec (whole 136) (whole 19);
  anchor = Middle;
  label_box = rect f0 f0 f0 f0;
}

abbrev pub worked_listing : List ℕ
worked_listing =
    ascii "size 244 76\n"
    ++ ascii "state 0 66 38\n"
    ++ ascii "state 1 206 38\n"
    ++ ascii "edge 0 M 88 38 L 184 38\n"
    ++ ascii "tip 0 184 38 0\n"
    ++ ascii "head 0 M 184 38 L 175 41.5 L 175 34.5 Z\n"
    ++ ascii "label 0 136 19 middle\n"
    ++ ascii "start 0 M 44 38 L 35 41.5 L 35 34.5 Z\n"
    ++ ascii "total 1 0 0 0 1\n"

-- one straight arrow, and its one line
abbrev worked_totals : Totals
worked_totals = record { straight = 1; arcs = 0; loops = 0; left_out = 0; lines = 1 }

pub worked_listing_lem : list_text (whole 244) (whole 76) (vec (whole 66) (whole 38) ∷ vec (whole 206) (whole 38) ∷ []) (1 ∷ 0 ∷ []) (worked_arrow ∷ []) worked_totals ≡ worked_listing
unfolding list_text lines_text line_text body_text fields_text field_text list_lines starts states_from filter_by flat_map head_of path_text more_text points_text point_text num_text decimal rounded_size minus_text fraction digits digits_by S.round sin cos reduced series down to_unsigned of_int round size span climb units odd sum add sub mul div rem neg lt eq of_bits of_fields count_trailing_zeros
worked_listing_lem = refl
