-- Where an arrow meets the rims of its states, and which arrows do.
use Rattle.std.specs.Prelude.{Bool, not, ◌&&◌, ℕ, eqb, Float}
use Rattle.shape.specs.declared.«V».{«V»}
use Rattle.shape.specs.declared.Curve.{Curve}
use Rattle.shape.specs.Curves.{start, end}
use Rattle.shape.specs.Plane.{sub, angle}
use Rattle.sheet.specs.Meaning.{ends_below}

-- the angle at which a curve leaves the state with centre c, or reaches it
abbrev pub leave_angle : Curve → «V» → Float
leave_angle curve c = angle (sub (start curve) c)

abbrev pub reach_angle : Curve → «V» → Float
reach_angle curve c = angle (sub (end curve) c)

-- an arrow between two different states of n; others meet no rim: a loop is drawn later, an arrow with an end not below n is left out
abbrev pub is_between : ℕ → ℕ → ℕ → Bool
is_between n a b = ends_below n a b && not (eqb a b)
