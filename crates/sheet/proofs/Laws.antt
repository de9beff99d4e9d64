-- The search for the start state in the words of the library. Assumes nothing.
use Rattle.std.proofs.Common.{◌≡◌, refl, List, [], ◌∷◌, ℕ, suc, ◌+◌, Bool, true, false, cond, Some, add-one}
use Rattle.std.specs.List.{position_from}
use Rattle.std.specs.Option.{unwrap_or}
use Rattle.sheet.specs.Meaning.{is_start, start_from}

pub start_position : (k : ℕ) (l : List ℕ) → unwrap_or (position_from is_start k l) 0 ≡ start_from k l
unfolding start_from
start_position k [] = refl
start_position k (f ∷ l) = go (is_start f) (rw add-one (start_position (suc k) l))
  where
    go : (b : Bool) → unwrap_or (position_from is_start (k + 1) l) 0 ≡ start_from (suc k) l → unwrap_or (cond b (Some k) (position_from is_start (k + 1) l)) 0 ≡ cond b k (start_from (suc k) l)
    go true e = refl
    go false e = e
