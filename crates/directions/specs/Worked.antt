-- Rims worked out by computation. Assumes nothing.
use Rattle.std.specs.Prelude.{◌≡◌, refl, [], ◌∷◌}
use Rattle.std.specs.Int.Count.{count_trailing_zeros}
use Rattle.std.specs.Float.Ieee.{add, sub, div, rem, neg, lt, le, eq, ne, round, size, span, climb, units, odd, sum, of_bits, of_fields, is_nan}
use Rattle.laws.specs.Filter.{filter_by}
use Rattle.laws.specs.Loops.{over}
use Rattle.laws.specs.Sort.{insert, sorted}
use Rattle.laws.specs.Zip.{zip_by}
use Rattle.float.specs.Constants.{f0, f2, π, τ}
use Rattle.float.specs.Ops.{◌⊕◌, ◌⊘◌}
use Rattle.float.specs.Standins.{midpoint, precedes}
use Rattle.directions.specs.Directions.{upwards, firsts, angle_between, room, first_directions, rim_in_order, nexts, gaps, by_width, middles, found, directions}

-- nothing meets the rim: the four first directions
pub free-rim : directions [] ≡ firsts
unfolding directions found first_directions filter_by room over middles by_width rim_in_order sorted gaps zip_by of_bits of_fields le lt eq
free-rim = refl

-- taken to the right and to the left: up and down, then the two gaps, equally wide, in the order of their angles
pub equal_halves : directions (f0 ∷ π ∷ []) ≡ upwards ∷ (π ⊘ f2) ∷ midpoint f0 π ∷ midpoint π (f0 ⊕ τ) ∷ []
unfolding directions found first_directions filter_by room angle_between over middles by_width rim_in_order sorted insert gaps nexts zip_by precedes add sub div rem neg lt le eq ne round size span climb units odd sum of_bits of_fields count_trailing_zeros is_nan
equal_halves = refl
