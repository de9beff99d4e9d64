-- Where the label block of an arrow stands beside a spot, and the drawing of the arrow with it.
use Rattle.std.specs.Prelude.{cond, Float}
use Rattle.float.specs.Ops.{◌⊕◌, ◌⊖◌, ◌⊗◌, ◌⊘◌, lt, le}
use Rattle.float.specs.Constants.{f0, f1, f2, label_gap, nearly}
use Rattle.float.specs.Standins.{abs}
use Rattle.shape.specs.declared.«V».{«V»}
use Rattle.shape.specs.declared.Rect.{Rect}
use Rattle.shape.specs.Plane.{vec, add, mul, rect}
use Rattle.shape.specs.Curves.{end}
use Rattle.label_spots.specs.declared.Spot.{Spot}
use Rattle.label_spots.specs.declared.Anchor.{Anchor}
use Rattle.label_spots.specs.declared.Anchor.TheVariants.{Start, Middle, End}
use Rattle.label_spots.specs.declared.Placed.{Placed}
use Rattle.label_spots.specs.declared.Turn.{Turn}
use Rattle.label_spots.specs.declared.Geometry.{Geometry}

-- "anchor 0 start, 1 middle, 2 end"
abbrev pub anchor_number : Anchor → Float
anchor_number Start = f0
anchor_number Middle = f1
anchor_number End = f2

abbrev pub placed_by : Float → Float → Anchor → Placed
placed_by x y a = record { label = vec x y; anchor = a }

-- a block to the right starts at its anchor, one to the left ends there
unfoldable pub side_of : «V» → Anchor
side_of dir = cond (lt f0 dir.x) Start End

-- A block of this size beyond the apex in direction dir, at least label_gap away from the line through the apex normal to dir: centred above or below a
-- nearly horizontal arrow, beside a nearly vertical one, and from its nearest corner on diagonal ones.
unfoldable pub place_label : «V» → «V» → Float → Float → Placed
place_label apex dir width height =
    let reach = label_gap ⊕ width ⊘ f2 ⊗ abs dir.x ⊕ height ⊘ f2 ⊗ abs dir.y in
    let centre = add apex (mul dir reach) in
    let corner = add apex (mul dir label_gap) in
    cond (le (abs dir.x) nearly)
    (placed_by centre.x (centre.y ⊖ height ⊘ f2) Middle)
    (cond (le (abs dir.y) nearly)
    (placed_by
    (apex.x ⊕ (label_gap ⊗ dir.x ⊗ dir.x ⊕ abs dir.y ⊗ height ⊘ f2) ⊘ dir.x)
    (apex.y ⊕ dir.y ⊗ label_gap ⊖ height ⊘ f2)
    (side_of dir))
    (cond (lt dir.y f0)
    (placed_by corner.x (corner.y ⊖ height) (side_of dir))
    (placed_by corner.x corner.y (side_of dir))))

-- the left edge of a block of width w anchored at x
abbrev pub left_of : Anchor → Float → Float → Float
left_of Start x w = x
left_of Middle x w = x ⊖ w ⊘ f2
left_of End x w = x ⊖ w

-- the box of a block with this left edge and top
abbrev pub box_of : Float → Float → Float → Float → Rect
box_of x0 y0 w h = rect x0 y0 (x0 ⊕ w) (y0 ⊕ h)

abbrev pub geometry_with : Turn → Placed → Geometry
geometry_with t p =
    record {
      edge = t.edge;
      curve = t.arrow.curve;
      tip = end t.arrow.curve;
      tip_angle = t.arrow.tip_angle;
      label = p.label;
      anchor = p.anchor;
      label_box = box_of (left_of p.anchor p.label.x t.width) p.label.y t.width t.height;
    }

-- the drawing of an arrow with its label beside a spot
unfoldable pub labelled : Turn → Spot → Geometry
labelled t s = geometry_with t (place_label s.at s.side t.width t.height)
