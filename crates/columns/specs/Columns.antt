-- The columns of the layered layout. Document 01: "Layered: breadth-first from the first start state or 0, unreached states in one last column".
use Rattle.std.specs.Prelude.{Bool, false, cond, not, ◌&&◌, ◌||◌, ℕ, zero, suc, eqb, length, drop}
use mathlib.Core.List.{List, [], ◌∷◌, ◌++◌, map, flat_map}
use Rattle.laws.specs.Filter.{filter_by}
use Rattle.laws.specs.Flat.{table}
use Rattle.laws.specs.Loops.{over}
use Rattle.sheet.specs.declared.Ends.{Ends}
use Rattle.directions.specs.Rims.{is_between}

-- ---- arrows

-- an arrow counts where it is between two different states of n
abbrev pub counts : ℕ → Ends → Bool
counts n a = is_between n a.source a.target

abbrev pub leaves : ℕ → ℕ → Ends → Bool
leaves n v a = counts n a && eqb a.source v

-- the states to which arrows lead from v, in the order of the arrows
unfoldable pub successors : ℕ → List Ends → ℕ → List ℕ
successors n arrows v = map (λ (a : Ends). a.target) (filter_by (leaves n v) arrows)

-- ---- the search

unfoldable pub elem : ℕ → List ℕ → Bool
elem w [] = false
elem w (x ∷ l) = eqb x w || elem w l

-- in order of discovery: w goes behind those found, where it is none of them
unfoldable pub discover : List ℕ → ℕ → List ℕ
discover found w = let more = found ++ (w ∷ []) in cond (elem w found) found more

-- what is found when the arrows that leave the states of a column are followed
unfoldable pub explore : ℕ → List Ends → List ℕ → List ℕ → List ℕ
explore n arrows found column = over discover found (flat_map (successors n arrows) column)

-- The columns after a column: the first has what is newly found from it, and so on until nothing is new; at most `most`.
unfoldable pub columns_after : ℕ → List Ends → ℕ → List ℕ → List ℕ → List (List ℕ)
columns_after n arrows zero found column = []
columns_after n arrows (suc most) found column =
    let all = explore n arrows found column in
    let new = drop (length found) all in
    let rest = columns_after n arrows most all new in
    cond (eqb (length new) 0) [] (new ∷ rest)

-- "breadth-first from the first start state or 0"; n states have no more than n columns
unfoldable pub reached : ℕ → List Ends → ℕ → List (List ℕ)
reached n arrows start = (start ∷ []) ∷ columns_after n arrows n (start ∷ []) (start ∷ [])

-- ---- the rest

abbrev pub state_numbers : ℕ → List ℕ
state_numbers n = table (λ (v : ℕ). v) 0 n

abbrev pub is_new : List ℕ → ℕ → Bool
is_new found v = not (elem v found)

-- the states that are not found, in their order
unfoldable pub unreached : ℕ → List ℕ → List ℕ
unreached n found = filter_by (is_new found) (state_numbers n)

-- a column, where it has states
abbrev pub last_column : List ℕ → List (List ℕ)
last_column [] = []
last_column (v ∷ l) = (v ∷ l) ∷ []

unfoldable pub concat : List (List ℕ) → List ℕ
concat columns = flat_map (λ (c : List ℕ). c) columns

-- "unreached states in one last column"
unfoldable pub columns : ℕ → List Ends → ℕ → List (List ℕ)
columns n arrows start = let found = reached n arrows start in found ++ last_column (unreached n (concat found))
