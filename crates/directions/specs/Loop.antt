-- The curve of a self-loop.
use Rattle.std.specs.Prelude.{Float}
use Rattle.float.specs.Constants.{node_radius, loop_reach, loop_spread, loop_fan}
use Rattle.float.specs.Ops.{◌⊕◌, ◌⊖◌}
use Rattle.shape.specs.declared.«V».{«V»}
use Rattle.shape.specs.declared.Curve.{Curve}
use Rattle.shape.specs.declared.Curve.TheVariants.{Cubic}
use Rattle.shape.specs.Plane.{add, mul, polar}

-- the point at an angle and a distance from c
unfoldable pub on_circle : «V» → Float → Float → «V»
on_circle c angle far = add c (mul (polar angle) far)

-- It leaves and enters the rim loop_spread either side of phi; its control points lie loop_reach beyond the rim, loop_fan either side.
unfoldable pub loop_curve : «V» → Float → Curve
loop_curve c phi =
    Cubic (on_circle c (phi ⊖ loop_spread) node_radius) (on_circle c (phi ⊖ loop_fan) (node_radius ⊕ loop_reach)) (on_circle c (phi ⊕ loop_fan) (node_radius ⊕ loop_reach)) (on_circle c (phi ⊕ loop_spread) node_radius)
