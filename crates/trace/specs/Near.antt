-- A point is near by the square of its distance. Assumes nothing.
use Rattle.std.specs.Prelude.{◌≡◌, refl, Float}
use Rattle.std.proofs.Common.{sym, ap, ◌∙◌}
use Rattle.std.specs.Float.{binary64}
use Rattle.std.specs.Float.Ieee.{of_bits, round, size, span, climb, units, odd, sum}
use Rattle.std.specs.Float.Ieee as Ieee
use Rattle.root.specs.Worked.{first_25}
use Rattle.float.specs.Ops.{◌⊕◌, lt}
use Rattle.float.specs.Constants.{f3, node_radius}
use Rattle.shape.specs.declared.«V».{«V»}
use Rattle.shape.specs.Plane.{dist, dist_squared}
use Rattle.shape.specs.Squares.{near_squared}
use Rattle.trace.specs.Traces.{point_near}

-- 25 and 625
bound : node_radius ⊕ f3 ≡ of_bits binary64 0x4039000000000000
unfolding of_bits Ieee.add round size span climb units odd sum
bound = refl

pub point_near_squared : (o p : «V») (q : Float) → q ≡ dist_squared p o → lt q (of_bits binary64 0x4083880000000000) ≡ point_near o p
unfolding point_near
point_near_squared o p q e =
    ap (λ (v : Float). lt v (of_bits binary64 0x4083880000000000)) e
    ∙ sym (ap (lt (dist p o)) bound ∙ near_squared 0x4083880000000000 0x4039000000000000 first_25 p o)
