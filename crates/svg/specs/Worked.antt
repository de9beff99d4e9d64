-- Path text and arrowhead of the worked listing. Assumes nothing.
use Rattle.std.specs.Prelude.{◌≡◌, refl}
use Rattle.std.specs.Float.Ieee.{of_bits, of_fields, of_int, to_unsigned, round, size, span, climb, units, odd, sum, add, sub, mul, div, rem, neg, lt, eq}
use Rattle.std.specs.Int.Count.{count_trailing_zeros}
use Rattle.laws.specs.Loops.{down}
use Rattle.float.specs.Constants.{f0, whole}
use Rattle.float.specs.Standins.{sin, cos, reduced, series}
use Rattle.float.specs.Standins as S
use Rattle.text.specs.Digits.{digits, digits_by}
use Rattle.text.specs.Ascii.{ascii}
use Rattle.number.specs.Number.{num_text, decimal, rounded_size, minus_text, fraction}
use Rattle.shape.specs.declared.Curve.TheVariants.{Line}
use Rattle.shape.specs.Plane.{vec}
use Rattle.svg.specs.Paths.{head_of, point_text, points_text, more_text, path_text, curve_text, head_text}

pub edge_text_lem : curve_text (Line (vec (whole 88) (whole 38)) (vec (whole 184) (whole 38))) ≡ ascii "M 88 38 L 184 38"
unfolding curve_text path_text more_text points_text point_text num_text decimal rounded_size minus_text fraction digits digits_by S.round to_unsigned round size span climb units odd mul neg lt eq of_bits of_fields count_trailing_zeros
edge_text_lem = refl

pub head : head_text (vec (whole 184) (whole 38)) f0 ≡ ascii "M 184 38 L 175 41.5 L 175 34.5 Z"
unfolding head_text head_of path_text more_text points_text point_text num_text decimal rounded_size minus_text fraction digits digits_by S.round sin cos reduced series down to_unsigned of_int round size span climb units odd sum add sub mul div rem neg lt eq of_bits of_fields count_trailing_zeros
head = refl
