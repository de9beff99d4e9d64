-- The chord of an arrow, and the states other than its ends.
use Rattle.std.specs.Prelude.{Bool, cond, ◌||◌, List, [], ◌∷◌, ℕ, suc, eqb}
use Rattle.float.specs.Constants.{f0, f1}
use Rattle.shape.specs.declared.«V».{«V»}
use Rattle.shape.specs.Plane.{vec, sub, dist, unit_or}
use Rattle.shape.specs.Centres.{centre}
use Rattle.free.specs.declared.Chord.{Chord}

-- the straight way from a to b; centres not further apart than 1e-9 have the direction (1, 0)
abbrev pub chord_of : ℕ → ℕ → «V» → «V» → Chord
chord_of from to a b = record { from = from; to = to; a = a; b = b; along = unit_or (sub b a) (vec f1 f0); len = dist a b }

unfoldable pub chord : List «V» → ℕ → ℕ → Chord
chord ps from to = chord_of from to (centre ps from) (centre ps to)

-- state k is one of the two ends
abbrev pub is_end : Chord → ℕ → Bool
is_end c k = eqb k c.from || eqb k c.to

-- the centres of all states but the two ends, in order; the first of the list is state k's
unfoldable pub others_from : Chord → ℕ → List «V» → List «V»
others_from c k [] = []
others_from c k (p ∷ ps) = let rest = others_from c (suc k) ps in cond (is_end c k) rest (p ∷ rest)

abbrev pub other_states : Chord → List «V» → List «V»
other_states c ps = others_from c 0 ps
