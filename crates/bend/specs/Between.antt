-- The curve of an arrow between two different states, its tip's angle and its shape. It leaves and ends on the rims, of radius 22.
use Rattle.std.specs.Prelude.{Bool, cond, List, ℕ, Float}
use Rattle.float.specs.Ops.{eq}
use Rattle.float.specs.Constants.{f0, node_radius}
use Rattle.float.specs.Standins.{signum}
use Rattle.shape.specs.declared.«V».{«V»}
use Rattle.shape.specs.declared.Curve.{Curve}
use Rattle.shape.specs.declared.Curve.TheVariants.{Line, Quad}
use Rattle.shape.specs.Plane.{add, sub, mul, neg_v, angle, unit_or}
use Rattle.free.specs.declared.Chord.{Chord}
use Rattle.free.specs.Chords.{chord}
use Rattle.bend.specs.declared.Shape.{Shape}
use Rattle.bend.specs.declared.Shape.TheVariants.{Line as LineShape, Arc}
use Rattle.bend.specs.declared.Routed.{Routed}
use Rattle.bend.specs.Clear.{control}
use Rattle.bend.specs.Bend.{bend}

abbrev pub routed_by : Curve → Float → Shape → Routed
routed_by curve tip shape = record { curve = curve; tip_angle = tip; shape = shape }

unfoldable pub straight : Chord → Routed
straight c = routed_by (Line (add c.a (mul c.along node_radius)) (sub c.b (mul c.along node_radius))) (angle c.along) LineShape

-- an arc leaves a and reaches b in the direction of its control point m
abbrev pub arc_by : Chord → «V» → Float → Routed
arc_by c m h =
    routed_by (Quad (add c.a (mul (unit_or (sub m c.a) c.along) node_radius)) m (add c.b (mul (unit_or (sub m c.b) (neg_v c.along)) node_radius)))
    (angle (sub c.b m)) (Arc (signum h))

unfoldable pub bowed : Chord → Float → Routed
bowed c h = arc_by c (control c h) h

unfoldable pub with_bow : Chord → Float → Routed
with_bow c h = cond (eq h f0) (straight c) (bowed c h)

unfoldable pub between : List «V» → ℕ → ℕ → Bool → Routed
between ps from to bothWays = let c = chord ps from to in with_bow c (bend c ps bothWays)
