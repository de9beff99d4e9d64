-- How arrows meet the rim of a state; proofs/Rim shows that the rim is what the angles of all arrows give.
use Rattle.std.specs.Prelude.{cond, ℕ, Float}
use mathlib.Core.List.{List, ◌++◌}
use Rattle.float.specs.Constants.{f0}
use Rattle.shape.specs.Centres.{centre}
use Rattle.directions.specs.Rims.{leave_angle, reach_angle}
use Rattle.routing.specs.Routing.{Frame, Numbered, Route, joined, leaving, reaching}
use Rattle.routing_laws.specs.Passes.{is_crossing}
use Rattle.routing_laws.specs.RimAngles.{EndAngles, end_angles}

-- the angles at which an arrow between different states leaves its first and reaches its second; 0 for others
unfoldable pub leave_of : Frame → Numbered → Float
leave_of f a = cond (is_crossing f a) (leave_angle (joined f a).curve (centre f.centres a.ends.source)) f0

unfoldable pub reach_of : Frame → Numbered → Float
reach_of f a = cond (is_crossing f a) (reach_angle (joined f a).curve (centre f.centres a.ends.target)) f0

-- an arrow with the angles at which it meets rims
abbrev pub met_by : Frame → Numbered → EndAngles
met_by f a = end_angles a.ends.source a.ends.target (leave_of f a) (reach_of f a)

-- the angles of a route at state k
abbrev pub route_meets : Frame → ℕ → Route → List Float
route_meets f k r = leaving f k r ++ reaching f k r
