-- The clearance of an arc from the states that are not its ends, and which of some bows is taken by it. The search for a free bow looks at each
-- state only straight across the chord, so arcs are checked again at 15 points.
use Rattle.std.specs.Prelude.{Bool, false, cond, not, ◌||◌, List, [], ◌∷◌, ℕ, Float}
use Rattle.std.specs.Float.{nan}
use Rattle.laws.specs.Loops.{up, over}
use Rattle.float.specs.Ops.{◌⊖◌, ◌⊗◌, ◌⊘◌, lt, le, of_nat}
use Rattle.float.specs.Constants.{f2, full_clearance, f16, node_radius, f0_5, infinity}
use Rattle.float.specs.Standins.{min}
use Rattle.shape.specs.declared.«V».{«V»}
use Rattle.shape.specs.declared.Curve.{Curve}
use Rattle.shape.specs.declared.Curve.TheVariants.{Quad}
use Rattle.shape.specs.Plane.{add, div, mul, left, dist}
use Rattle.shape.specs.Curves.{at}
use Rattle.free.specs.declared.Chord.{Chord}
use Rattle.free.specs.Chords.{is_end, other_states}

-- the control point of the arc with bow h: h to the left of the chord's middle
abbrev pub control : Chord → Float → «V»
control c h = add (div (add c.a c.b) f2) (mul (left c.along) h)

-- from centre to centre
abbrev pub arc : Chord → Float → Curve
arc c h = Quad c.a (control c h) c.b

-- the room between a point and the rim of a state, of radius 22, or m where that is less
abbrev pub nearer : «V» → Float → «V» → Float
nearer p m o = min m (dist p o ⊖ node_radius)

-- the same over these states, in order
unfoldable pub nearest : List «V» → «V» → Float → Float
nearest os p m = over (nearer p) m os

-- the least room at the points 1/16 .. 15/16 along a curve
abbrev pub sampled : List «V» → Curve → ℕ → Float → Float
sampled os r k m = nearest os (at r (of_nat k ⊘ f16)) m

unfoldable pub clearance : Chord → List «V» → Float → Float
clearance c ps h = up (sampled (other_states c ps) (arc c h)) 1 16 infinity

-- one state's step in the code
abbrev pub beside : Chord → ℕ → «V» → «V» → Float → Float
beside c k o p m = cond (is_end c k) m (nearer p m o)

-- ---- the choice

-- the arc keeps half the clearance 10
abbrev pub keeps_half : (Float → Float) → Float → Bool
keeps_half keeps h = le (full_clearance ⊗ f0_5) (keeps h)

-- one of these bows keeps more than h does
unfoldable pub outdone : (Float → Float) → List Float → Float → Bool
outdone keeps [] h = false
outdone keeps (g ∷ gs) h = lt (keeps h) (keeps g) || outdone keeps gs h

-- the first of these bows that passes the test, or else this one
unfoldable pub first_that : (Float → Bool) → List Float → Float → Float
first_that test [] other = other
first_that test (h ∷ hs) other = let rest = first_that test hs other in cond (test h) h rest

-- the first of those that keep most: none of the bows keeps more
abbrev pub keeps_most : (Float → Float) → List Float → Float
keeps_most keeps hs = first_that (λ h. not (outdone keeps hs h)) hs nan

-- the first bow that keeps half the clearance, else the first of those that keep most
unfoldable pub verified : (Float → Float) → List Float → Float
verified keeps hs = let most = keeps_most keeps hs in first_that (keeps_half keeps) hs most
