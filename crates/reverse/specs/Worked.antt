-- A small sheet, and what an answered call of `route` with a pair and a straight arrow says: proofs/Worked shows by them that the claim is not empty.
use Rattle.std.specs.Prelude.{◌≡◌, [], ◌∷◌, ℕ}
use Rattle.float.specs.Constants.{f2, f3}
use Rattle.sheet.specs.Sheet.{Arrow, Graph}
use Rattle.routing.specs.Sheets.{no_state}
use Rattle.demand3.specs.Demand.{graph}
use Rattle.worked_demand.specs.Calls.{first}
use Rattle.reverse.specs.Reverse.{SomeArrow, points_at, StraightAt}

abbrev from_to : ℕ → ℕ → Arrow
from_to a b = record { source = a; target = b; lines = [] }

-- three states; arrows from 0 to 1 twice, from 1 to 2, from 2 to 7 and from 7 to 2, which are left out, from 1 to 1 and, last, from 2 to 1
abbrev pub pair_sheet : Graph
pair_sheet = record {
  states = no_state ∷ no_state ∷ no_state ∷ [];
  arrows = from_to 0 1 ∷ from_to 0 1 ∷ from_to 1 2 ∷ from_to 2 7 ∷ from_to 7 2 ∷ from_to 1 1 ∷ from_to 2 1 ∷ [];
}

-- ---- the first call of `worked_demand`: arrows 0 and 1 are a pair, arrow 2 is straight

pub record WorkedCurves : Type 0 where
  -- arrow 1 leads back: arrow 0 has three points and is not straight
  pub back : SomeArrow (graph first) 1 0
  pub arc : points_at first 0 ≡ f3
  pub bent : StraightAt first 0 → ⊥
  -- arrow 2 has two points: none leads back, and no blocked interval has lo < 0 < hi
  pub line : points_at first 2 ≡ f2
  pub straight : StraightAt first 2
