-- A state is near to a box by the square of its distance. Assumes nothing.
use Rattle.std.specs.Prelude.{◌≡◌, refl, Float}
use Rattle.std.proofs.Common.{sym, ap, ◌∙◌}
use Rattle.std.specs.Float.{binary64}
use Rattle.std.specs.Float.Ieee.{of_bits, round, size, span, climb, units, odd, sum}
use Rattle.std.specs.Float.Ieee as Ieee
use Rattle.root.specs.Worked.{first_24}
use Rattle.float.specs.Ops.{◌⊕◌, lt}
use Rattle.float.specs.Constants.{f2, node_radius}
use Rattle.shape.specs.declared.«V».{«V»}
use Rattle.shape.specs.declared.Rect.{Rect}
use Rattle.shape.specs.Plane.{box_dist, box_dist_squared}
use Rattle.shape.specs.Squares.{box_near_squared}
use Rattle.clutter.specs.Clutter.{near24}

-- 24 and 576
bound : node_radius ⊕ f2 ≡ of_bits binary64 0x4038000000000000
unfolding of_bits Ieee.add round size span climb units odd sum
bound = refl

pub near_by_squares : (b : Rect) (c : «V») (q : Float) → q ≡ box_dist_squared b c → lt q (of_bits binary64 0x4082000000000000) ≡ near24 b c
unfolding near24
near_by_squares b c q e =
    ap (λ (v : Float). lt v (of_bits binary64 0x4082000000000000)) e
    ∙ sym (ap (lt (box_dist b c)) bound ∙ box_near_squared 0x4082000000000000 0x4038000000000000 first_24 b c)
