-- The routes of the arrows between different states; proofs/Order shows that the order of the turns is the three passes over all arrows.
use Rattle.std.specs.Prelude.{cond}
use mathlib.Core.List.{List, [], ◌∷◌}
use Rattle.routing.specs.Routing.{Frame, Numbered, Route, route_of}
use Rattle.routing_laws.specs.Passes.{is_crossing}

-- ---- the routes, arrow by arrow

-- the route of an arrow between different states
abbrev pub routes_of : Frame → Numbered → List Route
routes_of f a = cond (is_crossing f a) (route_of f a ∷ []) []
