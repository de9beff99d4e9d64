-- "A record's twenty f64: arrow number; 2, 3 or 4 points; eight coordinates (unused 0); tip x, y; tip angle; label x, y;
-- anchor 0 start, 1 middle, 2 end; box x0, y0, x1, y1."
use Rattle.std.specs.Prelude.{ℕ, ◌+◌, cond, List, [], ◌∷◌, slice_index_or, Float}
use Rattle.std.specs.Float.{nan}
use Rattle.laws.specs.Flat.{decode_flat}
use Rattle.float.specs.Ops.{of_nat, eq}
use Rattle.float.specs.Constants.{f0, f1, f2, f3, f4}
use Rattle.shape.specs.declared.«V».{«V»}
use Rattle.shape.specs.declared.Curve.{Curve}
use Rattle.shape.specs.declared.Curve.TheVariants.{Line, Quad, Cubic}
use Rattle.shape.specs.Plane.{vec, rect}
use Rattle.records.specs.Whole.{whole_of}
use Rattle.label_spots.specs.declared.Anchor.{Anchor}
use Rattle.label_spots.specs.declared.Anchor.TheVariants.{Start, Middle, End}
use Rattle.label_spots.specs.declared.Geometry.{Geometry}
use Rattle.label_spots.specs.Labels.{anchor_number}
use Rattle.records.specs.declared.Corners.{Corners}

-- ---- writing

abbrev pub corners : Float → «V» → «V» → «V» → «V» → Corners
corners n a b c d = record { n = n; a = a; b = b; c = c; d = d }

-- the coordinates of a point that the curve has not
abbrev pub unused : «V»
unused = vec f0 f0

-- the number of points, and four points
abbrev pub corners_of : Curve → Corners
corners_of (Line p q) = corners f2 p q unused unused
corners_of (Quad p c q) = corners f3 p c q unused
corners_of (Cubic p c d q) = corners f4 p c d q

abbrev pub fields : Geometry → List Float
fields g =
    let p = corners_of g.curve in
    of_nat g.edge
    ∷ p.n ∷ p.a.x ∷ p.a.y ∷ p.b.x ∷ p.b.y ∷ p.c.x ∷ p.c.y ∷ p.d.x ∷ p.d.y
    ∷ g.tip.x ∷ g.tip.y ∷ g.tip_angle
    ∷ g.label.x ∷ g.label.y ∷ anchor_number g.anchor
    ∷ g.label_box.x0 ∷ g.label_box.y0 ∷ g.label_box.x1 ∷ g.label_box.y1 ∷ []

-- ---- reading

-- the point whose x is number k
abbrev pub point_in : List Float → ℕ → «V»
point_in l k = vec (slice_index_or l k nan) (slice_index_or l (k + 1) nan)

abbrev pub corners_in : List Float → Corners
corners_in l = corners (slice_index_or l 1 nan) (point_in l 2) (point_in l 4) (point_in l 6) (point_in l 8)

-- two points are a line, three a quadratic, else a cubic
unfoldable pub curve_of : Corners → Curve
curve_of p = cond (eq p.n f2) (Line p.a p.b) (cond (eq p.n f3) (Quad p.a p.b p.c) (Cubic p.a p.b p.c p.d))

unfoldable pub anchor_of : Float → Anchor
anchor_of k = cond (eq k f0) Start (cond (eq k f1) Middle End)

unfoldable pub decode_geometry : List Float → Geometry
decode_geometry l = record {
  edge = whole_of (slice_index_or l 0 nan);
  curve = curve_of (corners_in l);
  tip = point_in l 10;
  tip_angle = slice_index_or l 12 nan;
  label = point_in l 13;
  anchor = anchor_of (slice_index_or l 15 nan);
  label_box = rect (slice_index_or l 16 nan) (slice_index_or l 17 nan) (slice_index_or l 18 nan) (slice_index_or l 19 nan);
}

-- the first n records of a slice
abbrev pub decode_records : ℕ → List Float → List Geometry
decode_records n l = decode_flat decode_geometry 20 n l
