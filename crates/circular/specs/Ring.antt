-- The ring: "Circular: one state at 0, 0", else the states evenly on a circle in their order, the start state at the left. y points down.
use Rattle.std.specs.Prelude.{cond, List, [], ◌∷◌, ℕ, ◌+◌, ◌-◌, ◌%◌, eqb, Float}
use Rattle.laws.specs.Loops.{over}
use Rattle.laws.specs.Flat.{table}
use Rattle.float.specs.Constants.{f0, f2, f20, node_radius, f24, circle_gap, π, τ}
use Rattle.float.specs.Ops.{◌⊕◌, ◌⊗◌, ◌⊘◌, of_nat}
use Rattle.float.specs.Standins.{max, clamp, sin, cos}

-- ---- the widest, or the tallest, label block of the graph

unfoldable pub largest : List Float → Float
largest sizes = over max f0 sizes

-- ---- places on the circle

-- the distance between neighbours: room for a label and both radii, 22 each, and 24; from 150 to 2·150 + 20
abbrev pub ring_chord : Float → Float
ring_chord label = clamp (label ⊕ f2 ⊗ node_radius ⊕ f24) circle_gap (f2 ⊗ circle_gap ⊕ f20)

-- the radius of the circle that n such chords go round in
abbrev pub radius : ℕ → Float → Float
radius n label = ring_chord label ⊘ (f2 ⊗ sin (π ⊘ of_nat n))

-- the place of state i among n: places are counted from the start state
abbrev pub ring_place : ℕ → ℕ → ℕ → ℕ
ring_place n start i = (i + n - start) % n

-- the direction of place k; place 0 is at the left
abbrev pub place_angle : ℕ → ℕ → Float
place_angle n k = π ⊕ τ ⊗ of_nat k ⊘ of_nat n

abbrev pub cos_at : ℕ → ℕ → Float
cos_at n k = cos (place_angle n k)

abbrev pub sin_at : ℕ → ℕ → Float
sin_at n k = sin (place_angle n k)

-- ---- centres

-- the radius r times what `part` gives for each state's place, in the order of the states
unfoldable pub around_ring : (ℕ → ℕ → Float) → ℕ → ℕ → Float → List Float
around_ring part n start r = table (λ i. r ⊗ part n (ring_place n start i)) 0 n

-- one state at 0; else around the circle
unfoldable pub ringed : (ℕ → ℕ → Float) → ℕ → ℕ → Float → List Float
ringed part n start label = cond (eqb n 1) (f0 ∷ []) (around_ring part n start (radius n label))

abbrev pub circular_xs : ℕ → ℕ → Float → List Float
circular_xs n start label = ringed cos_at n start label

abbrev pub circular_ys : ℕ → ℕ → Float → List Float
circular_ys n start label = ringed sin_at n start label
