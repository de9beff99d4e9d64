-- What the code is lent, and what it answers and leaves. Assumes nothing.
use Rattle.std.specs.Prelude.{◌≡◌, List, map}
use Rattle.shape.specs.declared.«V».{«V»}
use Rattle.shape.specs.Centres as P
use Rattle.fit.specs.declared.Size.{Size}
use Rattle.layout.specs.declared.plan.Plan.{Plan as Lent}
use Rattle.layout.specs.Layout.{Plan, Placing, placing, Layout}

-- the plan that is lent
abbrev pub plan_in : Lent → Plan
plan_in p = record { flags = p.flags.now; arrows = p.arrows.now; sizes = p.sizes.now }

-- the x and the y of points
abbrev pub placing_of : List «V» → Placing
placing_of cs = placing (map (λ c. c.x) cs) (map (λ c. c.y) cs)

-- a layout: width and height are answered, the centres left
pub record Left (l : Layout) (r : Size) (cs : List «V») : Type 0 where
  pub width : r.width ≡ l.width
  pub height : r.height ≡ l.height
  pub centres : cs ≡ P.centres l.xs l.ys
