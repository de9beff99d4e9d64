-- What a drawing covers, and its shift: "`fit` then shifts to the margin 16."
use Rattle.std.specs.Prelude.{cond, ℕ, Float}
use mathlib.Core.List.{List, [], ◌∷◌, ◌++◌, map, flat_map}
use Rattle.laws.specs.Flat.{table}
use Rattle.float.specs.Constants.{f2, margin, node_radius, start_arrow_length}
use Rattle.float.specs.Ops.{◌⊕◌, ◌⊖◌, ◌⊗◌}
use Rattle.shape.specs.declared.«V».{«V»}
use Rattle.shape.specs.declared.Rect.{Rect}
use Rattle.shape.specs.Plane.{vec}
use Rattle.trace.specs.Traces.{sample, bounds_of}
use Rattle.label_spots.specs.declared.Geometry.{Geometry}
use Rattle.sheet.specs.Meaning.{is_start}
use Rattle.fit.specs.declared.Size.{Size}

-- ---- what is covered, in the order of `fit`

-- the far end of a start state's arrow, which comes to the rim from the left
abbrev pub start_points : ℕ → «V» → List «V»
start_points flag c = cond (is_start flag) (vec (c.x ⊖ node_radius ⊖ start_arrow_length) c.y ∷ []) []

-- two corners of the box around a state, then its start arrow
unfoldable pub state_points : ℕ → «V» → List «V»
state_points flag c = vec (c.x ⊖ node_radius) (c.y ⊖ node_radius) ∷ vec (c.x ⊕ node_radius) (c.y ⊕ node_radius) ∷ start_points flag c

unfoldable pub states_points : List ℕ → List «V» → List «V»
states_points [] cs = []
states_points (flag ∷ flags) [] = []
states_points (flag ∷ flags) (c ∷ cs) = state_points flag c ++ states_points flags cs

-- the points of the curve at k / 16, for k = 0 to 16, of a line's too; then two corners of the label box
unfoldable pub drawn_points : Geometry → List «V»
drawn_points g = table (sample g.curve) 0 17 ++ (vec g.label_box.x0 g.label_box.y0 ∷ vec g.label_box.x1 g.label_box.y1 ∷ [])

-- the states, from their flags and centres, then the drawn arrows
unfoldable pub covered : List ℕ → List «V» → List Geometry → List «V»
covered flags cs gs = states_points flags cs ++ flat_map drawn_points gs

-- the smallest box that contains all of it
unfoldable pub drawing_bounds : List ℕ → List «V» → List Geometry → Rect
drawing_bounds flags cs gs = bounds_of (covered flags cs gs)

-- ---- the shift and the size, by the bounds

-- moved so that what is at `low` comes to the margin 16
unfoldable pub shifted : Float → List Float → List Float
shifted low vs = map (λ v. v ⊕ (margin ⊖ low)) vs

-- from one end to the other, with a margin on both sides
abbrev pub extent : Float → Float → Float
extent low high = high ⊖ low ⊕ f2 ⊗ margin

abbrev pub rect_size : Rect → Size
rect_size b = record { width = extent b.x0 b.x1; height = extent b.y0 b.y1 }

-- ---- what `fit` leaves

abbrev pub fit_xs : List ℕ → List «V» → List Geometry → List Float → List Float
fit_xs flags cs gs xs = shifted (drawing_bounds flags cs gs).x0 xs

abbrev pub fit_ys : List ℕ → List «V» → List Geometry → List Float → List Float
fit_ys flags cs gs ys = shifted (drawing_bounds flags cs gs).y0 ys

abbrev pub fit_size : List ℕ → List «V» → List Geometry → Size
fit_size flags cs gs = rect_size (drawing_bounds flags cs gs)
