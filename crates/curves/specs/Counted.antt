-- Centres that count: "Centres missing or not finite count as 0."
use Rattle.std.specs.Prelude.{List, map, ℕ, length}
use Rattle.shape.specs.declared.«V».{«V»}
use Rattle.routing.specs.Routing.{Ends, Frame}
use Rattle.routing.specs.Sheets.{centre_at, centres_at, frame_with}

-- state k's, and those of n states, from points
abbrev pub counted_at : List «V» → ℕ → «V»
counted_at cs k = centre_at (map (λ c. c.x) cs) (map (λ c. c.y) cs) k

abbrev pub counted : List «V» → ℕ → List «V»
counted cs n = centres_at (map (λ c. c.x) cs) (map (λ c. c.y) cs) n

-- what is routed, at centres as they count
abbrev pub frame_from : List ℕ → List «V» → List Ends → Frame
frame_from flags cs arrows = frame_with flags (counted cs (length flags)) arrows
