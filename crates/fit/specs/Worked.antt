-- The drawings of one state, worked out by computation. Assumes nothing.
use Rattle.std.specs.Prelude.{◌≡◌, refl, ℕ, Float}
use mathlib.Core.List.{[], ◌∷◌, flat_map}
use Rattle.std.specs.Float.Ieee.{of_bits, round, sum}
use Rattle.std.specs.Float.Ieee as Ieee
use Rattle.laws.specs.Zip.{zip_by}
use Rattle.float.specs.Constants.{whole}
use Rattle.shape.specs.Plane.{extended}
use Rattle.trace.specs.Traces.{bounds_of}
use Rattle.shape.specs.Centres.{centres}
use Rattle.circular.specs.Ring.{ringed, circular_xs, circular_ys}
use Rattle.fit.specs.declared.Size.{Size}
use Rattle.fit.specs.Fit.{state_points, states_points, covered, drawing_bounds, shifted, fit_xs, fit_ys, fit_size}

abbrev pub worked_size : ℕ → ℕ → Size
worked_size w h = record { width = whole w; height = whole h }

-- a state with this flag on the ring, alone: its centre and the size of the drawing
abbrev pub Alone : ℕ → ℕ → ℕ → Size → Type 0
Alone flag x y s =
    (label : Float)
    → (fit_xs (flag ∷ []) (centres (circular_xs 1 0 label) (circular_ys 1 0 label)) [] (circular_xs 1 0 label) ≡ whole x ∷ [])
    × (fit_ys (flag ∷ []) (centres (circular_xs 1 0 label) (circular_ys 1 0 label)) [] (circular_ys 1 0 label) ≡ whole y ∷ [])
    × (fit_size (flag ∷ []) (centres (circular_xs 1 0 label) (circular_ys 1 0 label)) [] ≡ s)

-- "One state, no start: 38, 38, size 76, 76."
pub one_state : Alone 0 38 38 (worked_size 76 76)
unfolding ringed zip_by shifted drawing_bounds covered states_points state_points flat_map bounds_of extended Ieee.add Ieee.sub Ieee.mul Ieee.neg Ieee.lt Ieee.ne Ieee.eq sum round of_bits
one_state label = (refl, refl, refl)

-- "One start: 66, 38, size 104, 76."
pub one_start : Alone 1 66 38 (worked_size 104 76)
unfolding ringed zip_by shifted drawing_bounds covered states_points state_points flat_map bounds_of extended Ieee.add Ieee.sub Ieee.mul Ieee.neg Ieee.lt Ieee.ne Ieee.eq sum round of_bits
one_start label = (refl, refl, refl)
