-- Start states, which arrows a sheet's records keep, and its arrows by number: facts of its meaning that several calls use.
use Rattle.std.specs.Prelude.{Bool, cond, ◌&&◌, List, [], ◌∷◌, ℕ, suc, ◌%◌, ltb, eqb, length, get_or}
use Rattle.sheet.specs.Sheet.{Arrow, Graph, flags_of}

-- ---- 'bit 0 start', of a state's flag byte

abbrev pub is_start : ℕ → Bool
is_start flags = eqb (flags % 2) 1

-- 'the first start state or 0', by the flag bytes; the first of the list is state k
unfoldable pub start_from : ℕ → List ℕ → ℕ
start_from k [] = 0
start_from k (flag ∷ flags) = let later = start_from (suc k) flags in cond (is_start flag) k later

abbrev pub start_index : List ℕ → ℕ
start_index flags = start_from 0 flags

abbrev pub start_of : Graph → ℕ
start_of g = start_index (flags_of g)

-- ---- 'An arrow with an end not below the number of states is accepted and left out of the records'

-- both ends of an arrow are below the number of states, n
abbrev pub ends_below : ℕ → ℕ → ℕ → Bool
ends_below n source target = ltb source n && ltb target n

abbrev pub is_kept : Graph → Arrow → Bool
is_kept g a = ends_below (length g.states) a.source a.target

-- ---- an arrow by its number; past the last an empty one
abbrev pub no_arrow : Arrow
no_arrow = record { source = 0; target = 0; lines = [] }

abbrev pub arrow_at : Graph → ℕ → Arrow
arrow_at g k = get_or g.arrows k no_arrow
