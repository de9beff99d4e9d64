-- The walk over the records that the chains meet, with a mark for each record met: where it stands after a list of them.
use Rattle.std.specs.Prelude.{Bool, true, false, cond, ◌&&◌, not, List, [], ◌∷◌, ℕ, leb, eqb, get_or, set}
use Rattle.std.proofs.Common.{◌≡◌, MutBor}
use Rattle.sheet.specs.Sheet.{count, kind_of, Met}

-- whether no record was wrong so far, and the marks: one for each number, set where that record was met
pub record Walked : Type 0 where
  pub ok : Bool
  pub marks : List Bool

abbrev pub walked : Bool → List Bool → Walked
walked b m = record { ok = b; marks = m }

-- A record may be met now: it is not above the count, it is of the chain's kind, and it was not met before.
unfoldable pub fresh : List ℕ → Met → List Bool → Bool
fresh s x m = leb x.index (count s) && (eqb (kind_of s x.index) x.kind && not (get_or m x.index true))

-- the walk ends at the first record that may not be met
unfoldable pub walk : List ℕ → List Met → List Bool → Walked
walk s [] m = walked true m
walk s (x ∷ xs) m = let rest = walk s xs (set m x.index true) in cond (fresh s x m) rest (walked false m)

-- what the calls of a visit do with the marks behind their `&mut`: those of the records that met gives of the number
abbrev pub Visits : (ℕ → MutBor (List Bool) → Bool → MutBor (List Bool) → Type 0) → List ℕ → (ℕ → List Met) → Type 0
Visits post s met = (i : ℕ) (before : MutBor (List Bool)) (ok : Bool) (after : MutBor (List Bool)) → post i before ok after → walked ok after.now ≡ walk s (met i) before.now

-- record k has no mark
unfoldable pub unmarked : List Bool → ℕ → Bool
unmarked m k = not (get_or m k false)
