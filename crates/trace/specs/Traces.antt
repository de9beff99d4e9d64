-- A trace: a curve sampled as lines from point to point, with its bounds and its owner, and what it collides with.
use Rattle.std.specs.Prelude.{ℕ, Bool, false, not, ◌&&◌, List, [], ◌∷◌, drop, ◌==◌, Option, None, Some}
use Rattle.std.specs.List.{list_any, zip, fold}
use Rattle.laws.specs.Flat.{table}
use Rattle.float.specs.Ops.{◌⊕◌, ◌⊘◌, lt, of_nat}
use Rattle.float.specs.Constants.{f3, node_radius, samples_per_curve}
use Rattle.shape.specs.declared.«V».{«V»}
use Rattle.shape.specs.declared.Rect.{Rect}
use Rattle.shape.specs.declared.Curve.{Curve}
use Rattle.shape.specs.declared.Curve.TheVariants.{Line, Quad, Cubic}
use Rattle.shape.specs.Plane.{touches, spanning, dist, no_bounds, extended}
use Rattle.shape.specs.Curves.{at}
use Rattle.shape.specs.Clipping.{segment_hits_rect, segments_cross}

-- "A start arrow is a trace owned by no arrow."
abbrev pub Owner : Type 0
Owner = Option ℕ

abbrev pub nobody : Owner
nobody = None

abbrev pub arrow : ℕ → Owner
arrow n = Some n

pub record Trace : Type 0 where
  pub owner : Owner
  pub points : List «V»
  pub bounds : Rect

-- ---- the trace of a curve

-- the point after k of the curve's segments
unfoldable pub sample : Curve → ℕ → «V»
sample c k = at c (of_nat k ⊘ samples_per_curve)

-- a line's ends; of any other curve the points at k / 16, for k = 0 to 16
unfoldable pub samples : Curve → List «V»
samples (Line p q) = p ∷ q ∷ []
samples (Quad p c q) = table (sample (Quad p c q)) 0 17
samples (Cubic p c d q) = table (sample (Cubic p c d q)) 0 17

-- the smallest box that contains the points
unfoldable pub bounds_of : List «V» → Rect
bounds_of l = fold extended no_bounds l

unfoldable pub trace_of : Owner → Curve → Trace
trace_of o c = record { owner = o; points = samples c; bounds = bounds_of (samples c) }

-- ---- owners

abbrev pub is_arrow : ℕ → Owner → Bool
is_arrow n None = false
is_arrow n (Some m) = m == n

-- "A foreign trace is one that the turn's arrow does not own."
unfoldable pub foreign : ℕ → Trace → Bool
foreign n t = not (is_arrow n t.owner)

-- ---- collisions; each is tested on the bounds first

-- whether p holds of some point and the next
abbrev pub any_segment : («V» → «V» → Bool) → List «V» → Bool
any_segment p l = list_any (λ (s : «V» × «V»). p s.0 s.1) (zip l (drop 1 l))

abbrev pub segment_hits : Rect → «V» → «V» → Bool
segment_hits r a b = segment_hits_rect a b r

-- some segment meets the box
unfoldable pub hits_rect : Trace → Rect → Bool
hits_rect t r = touches t.bounds r && any_segment (segment_hits r) t.points

-- the segment from a to b, in the box ab, and the one from c to d cross
unfoldable pub pair_cross : Rect → «V» → «V» → «V» → «V» → Bool
pair_cross ab a b c d = touches ab (spanning c d) && segments_cross a b c d

-- the segment from a to b crosses one of the trace
unfoldable pub segment_crosses : Trace → «V» → «V» → Bool
segment_crosses t a b = touches (spanning a b) t.bounds && any_segment (pair_cross (spanning a b) a b) t.points

-- some segment of one crosses one of the other
unfoldable pub crosses : Trace → Trace → Bool
crosses s t = touches s.bounds t.bounds && any_segment (segment_crosses t) s.points

-- a foreign trace that meets the box
unfoldable pub struck : ℕ → Rect → Trace → Bool
struck own b t = foreign own t && hits_rect t b

-- a foreign trace that the loop crosses
unfoldable pub crossed : ℕ → Trace → Trace → Bool
crossed own looped t = foreign own t && crosses t looped

-- a point is nearer to the centre o than a state's radius and 3
unfoldable pub point_near : «V» → «V» → Bool
point_near o p = lt (dist p o) (node_radius ⊕ f3)

-- some point is
unfoldable pub near25 : Trace → «V» → Bool
near25 t o = list_any (point_near o) t.points
