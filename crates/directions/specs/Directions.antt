-- The directions of a self-loop, in the order of `self_loop`, from the angles at which arrows and the start mark meet the rim of its state.
use Rattle.std.specs.Prelude.{Bool, List, [], ◌∷◌, ◌++◌, map, drop, get_or, Float}
use Rattle.std.specs.Float.{nan}
use Rattle.laws.specs.Filter.{filter_by}
use Rattle.directions.specs.declared.Gap.{Gap}
use Rattle.laws.specs.Loops.{over}
use Rattle.laws.specs.Sort.{sorted}
use Rattle.laws.specs.Zip.{zip_by}
use Rattle.float.specs.Constants.{f0, f2, enough_room, π, τ}
use Rattle.float.specs.Ops.{◌⊕◌, ◌⊖◌, ◌⊘◌, le, neg}
use Rattle.float.specs.Standins.{min, rem_euclid, midpoint, precedes}

-- ---- the first directions

-- the angle between two directions, 0 to PI
unfoldable pub angle_between : Float → Float → Float
angle_between a b = let d = rem_euclid (a ⊖ b) in min d (τ ⊖ d)

-- the least angle from phi to an angle of the rim; PI where there is none
unfoldable pub room : Float → List Float → Float
room phi taken = over (λ (least a : Float). min least (angle_between phi a)) π taken

-- up, down, right and left; y points down
abbrev pub upwards : Float
upwards = neg π ⊘ f2

abbrev pub firsts : List Float
firsts = upwards ∷ (π ⊘ f2) ∷ f0 ∷ π ∷ []

-- nothing meets the rim within 1.25, about 72 degrees, of the direction
abbrev pub enough : List Float → Float → Bool
enough taken phi = le enough_room (room phi taken)

unfoldable pub first_directions : List Float → List Float
first_directions taken = filter_by (enough taken) firsts

-- ---- the gaps between the angles

-- the angles of the rim brought to 0 .. TAU, in order
unfoldable pub rim_in_order : List Float → List Float
rim_in_order taken = sorted precedes (map rem_euclid taken)

-- the angle after each: the one that follows it, after the last the first and TAU
unfoldable pub nexts : List Float → List Float
nexts angles = drop 1 angles ++ ((get_or angles 0 nan ⊕ τ) ∷ [])

-- from an angle to the next: how wide, and the middle
abbrev pub gap : Float → Float → Gap
gap a next = record { width = next ⊖ a; middle = midpoint a next }

abbrev pub width : Gap → Float
width g = g.width

abbrev pub middle : Gap → Float
middle g = g.middle

unfoldable pub gaps : List Float → List Gap
gaps angles = zip_by gap angles (nexts angles)

-- of two gaps, whether the first is wider
abbrev pub wider : Gap → Gap → Bool
wider g h = precedes (width h) (width g)

-- largest first; "every sort is stable, so equal gaps keep the order of their angles"
unfoldable pub by_width : List Float → List Gap
by_width taken = sorted wider (gaps (rim_in_order taken))

unfoldable pub middles : List Float → List Float
middles taken = map middle (by_width taken)

-- ---- all

unfoldable pub found : List Float → List Float
found taken = first_directions taken ++ middles taken

-- where there is none, straight up
abbrev pub or_upwards : List Float → List Float
or_upwards [] = upwards ∷ []
or_upwards (d ∷ l) = d ∷ l

unfoldable pub directions : List Float → List Float
directions taken = or_upwards (found taken)
