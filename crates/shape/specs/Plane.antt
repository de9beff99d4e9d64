-- Points and boxes: "Points and boxes are passed by value, each as named f64 fields." Each operation rounds once, in the order written.
use Rattle.std.specs.Prelude.{Bool, cond, ◌&&◌, Float}
use Rattle.float.specs.Ops.{◌⊕◌, ◌⊖◌, ◌⊗◌, ◌⊘◌, lt, le, ne, neg as minus}
use Rattle.float.specs.Constants.{f0, eps, infinity}
use Rattle.float.specs.Standins.{min, max, hypot, sin, cos, atan2}
use Rattle.shape.specs.declared.«V».{«V»}
use Rattle.shape.specs.declared.Rect.{Rect}

-- ---- points and directions

abbrev pub vec : Float → Float → «V»
vec x y = record { x = x; y = y }

abbrev pub add : «V» → «V» → «V»
add a b = vec (a.x ⊕ b.x) (a.y ⊕ b.y)

abbrev pub sub : «V» → «V» → «V»
sub a b = vec (a.x ⊖ b.x) (a.y ⊖ b.y)

abbrev pub neg_v : «V» → «V»
neg_v a = vec (minus a.x) (minus a.y)

abbrev pub mul : «V» → Float → «V»
mul a k = vec (a.x ⊗ k) (a.y ⊗ k)

abbrev pub div : «V» → Float → «V»
div a k = vec (a.x ⊘ k) (a.y ⊘ k)

-- the unit vector at an angle
abbrev pub polar : Float → «V»
polar angle = vec (cos angle) (sin angle)

abbrev pub dot : «V» → «V» → Float
dot a b = a.x ⊗ b.x ⊕ a.y ⊗ b.y

abbrev pub len : «V» → Float
len a = hypot a.x a.y

abbrev pub angle : «V» → Float
angle a = atan2 a.y a.x

-- the unit vector in this direction; where its length is not above eps a vector has none, and the fallback is taken
unfoldable pub unit_or : «V» → «V» → «V»
unit_or a fallback = cond (lt eps (len a)) (div a (len a)) fallback

-- 90 degrees to the left on screen, where y points down
abbrev pub left : «V» → «V»
left a = vec a.y (minus a.x)

abbrev pub dist : «V» → «V» → Float
dist a b = len (sub a b)

-- the sum of the squares, whose root is the length
abbrev pub squares : «V» → Float
squares a = a.x ⊗ a.x ⊕ a.y ⊗ a.y

-- the same of a distance; 0 where it is NaN, since the root of NaN is 0 (`dist-root` of Squares)
abbrev pub dist_squared : «V» → «V» → Float
dist_squared a b = let q = squares (sub a b) in cond (ne q q) f0 q

-- ---- boxes

abbrev pub rect : Float → Float → Float → Float → Rect
rect x0 y0 x1 y1 = record { x0 = x0; y0 = y0; x1 = x1; y1 = y1 }

-- boxes that only touch do not overlap
unfoldable pub overlaps : Rect → Rect → Bool
overlaps a b = lt a.x0 b.x1 && lt b.x0 a.x1 && lt a.y0 b.y1 && lt b.y0 a.y1

-- the boxes overlap or touch
unfoldable pub touches : Rect → Rect → Bool
touches a b = le a.x0 b.x1 && le b.x0 a.x1 && le a.y0 b.y1 && le b.y0 a.y1

-- the smallest box that contains both points
unfoldable pub spanning : «V» → «V» → Rect
spanning a b = rect (min a.x b.x) (min a.y b.y) (max a.x b.x) (max a.y b.y)

-- the box with d added on every side
abbrev pub grown : Rect → Float → Rect
grown r d = rect (r.x0 ⊖ d) (r.y0 ⊖ d) (r.x1 ⊕ d) (r.y1 ⊕ d)

-- how far v lies outside low .. high, 0 inside
unfoldable pub outside : Float → Float → Float → Float
outside low high v = max (max (low ⊖ v) (v ⊖ high)) f0

-- the distance from a point to a box, 0 inside, and the sum whose root it is
abbrev pub box_dist : Rect → «V» → Float
box_dist r p = hypot (outside r.x0 r.x1 p.x) (outside r.y0 r.y1 p.y)

abbrev pub box_dist_squared : Rect → «V» → Float
box_dist_squared r p = squares (vec (outside r.x0 r.x1 p.x) (outside r.y0 r.y1 p.y))

-- the box of no points, and a box with one point more
abbrev pub no_bounds : Rect
no_bounds = rect infinity infinity (minus infinity) (minus infinity)

unfoldable pub extended : Rect → «V» → Rect
extended r p = rect (min r.x0 p.x) (min r.y0 p.y) (max r.x1 p.x) (max r.y1 p.y)
