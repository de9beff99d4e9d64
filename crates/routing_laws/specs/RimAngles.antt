-- The angles at which the rim of a state is taken, before any self-loop is drawn: by the arrows between different states, in their order, and by the start mark.
use Rattle.std.specs.Prelude.{Bool, cond, ℕ, eqb, length, get_or, Float}
use mathlib.Core.List.{List, [], ◌∷◌, ◌++◌, flat_map}
use Rattle.std.specs.Float.{nan}
use Rattle.laws.specs.Filter.{filter_by}
use Rattle.laws.specs.Flat.{table}
use Rattle.laws.specs.Zip.{zip_by}
use Rattle.float.specs.Constants.{π}
use Rattle.shape.specs.declared.«V».{«V»}
use Rattle.directions.specs.Rims.{is_between}
use Rattle.routing.specs.Routing.{Ends, Frame}
use Rattle.routing.specs.Sheets.{ends_by, frame_with}

-- an arrow's ends, and the angles at which it leaves the first and reaches the second
pub record EndAngles : Type 0 where
  pub source : ℕ
  pub target : ℕ
  pub leaves : Float
  pub reaches : Float

abbrev pub ends_between : ℕ → EndAngles → Bool
ends_between n e = is_between n e.source e.target

-- the angle, where it is at state k
abbrev pub angle_at : ℕ → ℕ → Float → List Float
angle_at k state a = cond (eqb state k) (a ∷ []) []

-- where an arrow meets the rim of state k
abbrev pub meets_rim : ℕ → EndAngles → List Float
meets_rim k e = angle_at k e.source e.leaves ++ angle_at k e.target e.reaches

unfoldable pub arrow_angles : ℕ → ℕ → List EndAngles → List Float
arrow_angles n k arrows = flat_map (meets_rim k) (filter_by (ends_between n) arrows)

-- the start mark stands to the left, at PI
abbrev pub start_mark : Bool → List Float
start_mark start = cond start (π ∷ []) []

unfoldable pub rim_angles : ℕ → ℕ → Bool → List EndAngles → List Float
rim_angles n k start arrows = arrow_angles n k arrows ++ start_mark start

-- ---- from a list for each part

abbrev pub end_angles : ℕ → ℕ → Float → Float → EndAngles
end_angles a b l r = record { source = a; target = b; leaves = l; reaches = r }

abbrev pub ends_at : List ℕ → List ℕ → List Float → List Float → ℕ → EndAngles
ends_at sources targets leaves reaches i = end_angles (get_or sources i 0) (get_or targets i 0) (get_or leaves i nan) (get_or reaches i nan)

abbrev pub all_ends : List ℕ → List ℕ → List Float → List Float → List EndAngles
all_ends sources targets leaves reaches = table (ends_at sources targets leaves reaches) 0 (length sources)

-- arrow k leads from the k-th source to the k-th target
abbrev pub arrows_by : List ℕ → List ℕ → List Ends
arrows_by sources targets = zip_by ends_by sources targets

abbrev pub frame_by : List ℕ → List «V» → List ℕ → List ℕ → Frame
frame_by flags cs sources targets = frame_with flags cs (arrows_by sources targets)
