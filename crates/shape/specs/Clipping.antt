-- Whether a segment meets a box, by Liang and Barsky's clipping (A New Concept and Method for Line Clipping, ACM TOG 3(1), 1984),
-- and whether two segments cross.
use Rattle.std.specs.Prelude.{Bool, cond, ◌&&◌, Float, is_some, Option, None, Some}
use Rattle.float.specs.Ops.{◌⊖◌, ◌⊗◌, ◌⊘◌, lt, eq, neg}
use Rattle.float.specs.Constants.{f0, f1}
use Rattle.shape.specs.declared.«V».{«V»}
use Rattle.shape.specs.declared.Rect.{Rect}
use Rattle.shape.specs.declared.Clip.{Clip}
use Rattle.shape.specs.Plane.{sub, spanning, touches}

-- what is left of the segment: its parameters from low to high, or nothing
abbrev pub kept_part : Float → Float → Option Clip
kept_part low high = Some (record { enter = low; leave = high })

abbrev pub nothing : Option Clip
nothing = None

-- The published test of one side: p is the rate towards the outside of it, q the room before it.
-- p < 0: the segment enters at r = q / p; nothing is left where r exceeds high, else low is raised to r where r is above it.
-- p > 0: it leaves at r; nothing is left where r is below low, else high is lowered to r where r is below it.
-- p = 0: nothing is left where q < 0.
-- A NaN rate is none of the three: that side cuts nothing, as in the Rust. That no routed drawing has one is not proved.
unfoldable pub test : Float → Float → Float → Float → Option Clip
test p q low high =
    let r = q ⊘ p in
    cond (lt p f0)
    (cond (lt high r) nothing (cond (lt low r) (kept_part r high) (kept_part low high)))
    (cond (lt f0 p)
    (cond (lt r low) nothing (cond (lt r high) (kept_part low r) (kept_part low high)))
    (cond (eq p f0 && lt q f0) nothing (kept_part low high)))

-- once nothing is left, no more sides are tested
unfoldable pub side : Float → Float → Option Clip → Option Clip
side p q None = None
side p q (Some c) = test p q c.enter c.leave

-- the four sides in turn, left, right, top and bottom, where y points down; d leads from the start of the segment to its end
unfoldable pub meets : «V» → «V» → Rect → Bool
meets from d r =
    let left = side (neg d.x) (from.x ⊖ r.x0) (kept_part f0 f1) in
    let right = side d.x (r.x1 ⊖ from.x) left in
    let top = side (neg d.y) (from.y ⊖ r.y0) right in
    let bottom = side d.y (r.y1 ⊖ from.y) top in
    is_some bottom

-- The box around the segment is tested first. A segment that touches the box hits it.
unfoldable pub segment_hits_rect : «V» → «V» → Rect → Bool
segment_hits_rect from to r = touches (spanning from to) r && meets from (sub to from) r

-- on which side of the line from p to q the point r lies, by its sign
abbrev pub orient : «V» → «V» → «V» → Float
orient p q r = (sub q p).x ⊗ (sub r p).y ⊖ (sub q p).y ⊗ (sub r p).x

-- two segments properly cross: the ends of each lie on different sides of the other
unfoldable pub segments_cross : «V» → «V» → «V» → «V» → Bool
segments_cross a b c d =
    lt (orient c d a ⊗ orient c d b) f0 && lt (orient a b c ⊗ orient a b d) f0
