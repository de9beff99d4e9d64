-- How many gaps, middles and directions there are. Assumes nothing.
use Rattle.std.specs.Prelude.{◌≡◌, List, [], ◌∷◌, map, ℕ, ◌+◌, ◌<◌, length, Float}
use Rattle.std.proofs.Math.Path.{refl}
use Rattle.std.proofs.Common.{ap, ◌∙◌, not-suc-le-zero, add-one, arith, length-append}
use Rattle.std.proofs.lemmas.List.{length-map}
use Rattle.std.specs.Float.{nan}
use Rattle.laws.specs.Sorting.{length-sorted}
use Rattle.laws.specs.Zip.{zip_by, zip_length}
use Rattle.float.specs.Constants.{τ}
use Rattle.float.specs.Ops.{◌⊕◌}
use Rattle.float.specs.Standins.{rem_euclid, precedes}
use Rattle.directions.specs.Directions.{rim_in_order, nexts, gap, gaps, wider, by_width, middle, middles, first_directions, found, or_upwards, directions}

pub nexts-length : (l : List Float) → 0 < length l → length (nexts l) ≡ length l
unfolding nexts
nexts-length [] h = absurd (not-suc-le-zero h)
nexts-length (a ∷ l) h = length-append l ((a ⊕ τ) ∷ []) ∙ add-one (length l)

pub gaps-length : (l : List Float) → length (gaps l) ≡ length l
unfolding gaps
gaps-length [] = unfold zip_by in refl
gaps-length (a ∷ l) = zip_length gap (a ∷ l) (nexts (a ∷ l)) (nexts-length (a ∷ l) (omega arith))

-- a middle for each angle of the rim
pub middles-length : (taken : List Float) → length (middles taken) ≡ length taken
unfolding middles by_width rim_in_order
middles-length taken =
    length-map (by_width taken) middle ∙ length-sorted (gap nan nan) wider (gaps (rim_in_order taken)) ∙ gaps-length (rim_in_order taken)
    ∙ length-sorted nan precedes (map rem_euclid taken) ∙ length-map taken rem_euclid

pub found-length : (taken : List Float) → length (found taken) ≡ length (first_directions taken) + length taken
unfolding found
found-length taken =
    length-append (first_directions taken) (middles taken) ∙ ap (λ (n : ℕ). length (first_directions taken) + n) (middles-length taken)

some_left : (l : List Float) → 0 < length (or_upwards l)
some_left [] = omega arith
some_left (d ∷ l) = omega arith

-- there is always a direction
pub directions_some : (taken : List Float) → 0 < length (directions taken)
unfolding directions
directions_some taken = some_left (found taken)
