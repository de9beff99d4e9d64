-- Of every ring of at most 64 states, by computation: at each place the angle is gentle (Bound) or its cosine is not below -1, and the sine under the radius is not negative. Assumes nothing.
use Rattle.std.specs.Prelude.{Bool, true, not, ◌&&◌, ◌||◌, ℕ, zero, suc, ◌+◌, ◌*◌, T, Float}
use Rattle.std.specs.Float.Ieee.{of_bits, to_bits, of_int, round, sum, size, span, climb, units, odd}
use Rattle.std.specs.Float.Ieee as Ieee
use Rattle.std.specs.Int.Count.{count_trailing_zeros}
use Rattle.laws.specs.Loops as Loops
use Rattle.float.specs.Constants.{f1, f2, π}
use Rattle.float.specs.Ops.{◌⊗◌, ◌⊘◌, neg, lt, of_nat, same_bits}
use Rattle.float.specs.Standins.{sin, reduced, cosine_divisor, series, negative}
use Rattle.circular.specs.Ring.{place_angle}
use Rattle.circular_leftmost.specs.Bound.{gentle}

-- p holds of every number below n
abbrev pub all_below : (ℕ → Bool) → ℕ → Bool
all_below p zero = true
all_below p (suc n) = p n && all_below p n

-- p holds of a, a + 1 .., m of them: the tables below are in parts, since one part's computation is limited
abbrev pub all_from : (ℕ → Bool) → ℕ → ℕ → Bool
all_from p a m = all_below (λ j. p (a + j)) m

-- the cosine of the angle is not below -1: by the square of the angle alone, or by the series
abbrev pub keeps_right : Float → Bool
keeps_right a =
    let r = reduced a in
    let z = r ⊗ r in
    gentle z || not (lt (series cosine_divisor z) (neg f1))

-- the cosine of place k of n is not below that of place 0
abbrev pub not_left : ℕ → ℕ → Bool
not_left n k = keeps_right (place_angle n k)

-- every place of the ring of 2h + 1 states
abbrev pub odd_ring : ℕ → Bool
odd_ring h = all_below (not_left (2 * h + 1)) (2 * h + 1)

-- every odd place of the ring of 2h states
abbrev pub odd_places : ℕ → Bool
odd_places h = all_below (λ j. not_left (2 * h) (2 * j + 1)) h

abbrev pub even_places : ℕ → Bool
even_places h = all_below (λ j. same_bits (place_angle (2 * h) (2 * j)) (place_angle h j)) h

-- the sine under the radius
abbrev pub radius_upward : ℕ → Bool
radius_upward n = not (negative (f2 ⊗ sin (π ⊘ of_nat n)))

pub odd_ring_0 : T (all_from odd_ring 0 20)
unfolding reduced series Loops.down Ieee.add Ieee.sub Ieee.mul Ieee.div Ieee.rem Ieee.neg Ieee.lt of_int round size span climb units odd sum of_bits count_trailing_zeros
odd_ring_0 = tt

pub odd_ring_20 : T (all_from odd_ring 20 7)
unfolding reduced series Loops.down Ieee.add Ieee.sub Ieee.mul Ieee.div Ieee.rem Ieee.neg Ieee.lt of_int round size span climb units odd sum of_bits count_trailing_zeros
odd_ring_20 = tt

pub odd_ring_27 : T (all_from odd_ring 27 5)
unfolding reduced series Loops.down Ieee.add Ieee.sub Ieee.mul Ieee.div Ieee.rem Ieee.neg Ieee.lt of_int round size span climb units odd sum of_bits count_trailing_zeros
odd_ring_27 = tt

pub odd_places_0 : T (all_from odd_places 0 27)
unfolding reduced series Loops.down Ieee.add Ieee.sub Ieee.mul Ieee.div Ieee.rem Ieee.neg Ieee.lt of_int round size span climb units odd sum of_bits count_trailing_zeros
odd_places_0 = tt

pub odd_places_27 : T (all_from odd_places 27 6)
unfolding reduced series Loops.down Ieee.add Ieee.sub Ieee.mul Ieee.div Ieee.rem Ieee.neg Ieee.lt of_int round size span climb units odd sum of_bits count_trailing_zeros
odd_places_27 = tt

pub even_places_0 : T (all_from even_places 0 25)
unfolding Ieee.add Ieee.mul Ieee.div of_int round size span climb units odd sum of_bits count_trailing_zeros to_bits
even_places_0 = tt

pub even_places_25 : T (all_from even_places 25 8)
unfolding Ieee.add Ieee.mul Ieee.div of_int round size span climb units odd sum of_bits count_trailing_zeros to_bits
even_places_25 = tt

pub sines : T (all_below radius_upward 65)
unfolding sin reduced series Loops.down Ieee.add Ieee.sub Ieee.mul Ieee.div Ieee.rem Ieee.neg Ieee.lt of_int round size span climb units odd sum of_bits count_trailing_zeros
sines = tt
