-- Document 02, T-04: 'From an accepted sheet it writes a fresh one: all states in order, then all arrows, each followed by its lines and each line by its pieces, full
-- pieces of 12 bytes first. Next indices point forward.' The sheet of a graph, from the graph alone; `meaning` undoes it.
use Rattle.std.specs.Prelude.{List, [], ◌∷◌, ◌++◌, ℕ, zero, suc, ◌+◌, length, take, drop}
use Rattle.sheet.specs.Sheet.{State, Arrow, Graph}
use Rattle.sheet.specs.Records.{header, state_bytes, arrow_bytes, line_bytes, text_bytes}

-- ---- things written one after another

-- the index of the first element of a list that is written from record k on; where there is none, 0: 'zero ends the chain'
abbrev pub first_index : {A : Type 0} → ℕ → List A → ℕ
first_index k [] = 0
first_index k (x ∷ l) = k

-- how many records the elements of a list take; `size x` is how many x takes
unfoldable pub space_of : {A : Type 0} → (A → ℕ) → List A → ℕ
space_of size [] = 0
space_of size (x ∷ l) = size x + space_of size l

-- the elements of a list in order, from record k on, each with the index of the one behind it; `write k next x` is x from record k on, with that next index
unfoldable pub all_records : {A : Type 0} → (A → ℕ) → (ℕ → ℕ → A → List ℕ) → ℕ → List A → List ℕ
all_records size write k [] = []
all_records size write k (x ∷ l) = let behind = k + size x in write k (first_index behind l) x ++ all_records size write behind l

-- ---- states, the pieces of a line, lines and arrows

-- a state takes one record, with its flags
abbrev pub state_size : State → ℕ
state_size a = 1

abbrev pub state_records : ℕ → ℕ → State → List ℕ
state_records k next a = state_bytes a.flags next

-- 'full pieces of 12 bytes first': 12 while there are so many, then what is left; no bytes, no piece. n pieces at most.
unfoldable pub pieces_by : ℕ → List ℕ → List (List ℕ)
pieces_by zero l = []
pieces_by (suc n) [] = []
pieces_by (suc n) (b ∷ l) = take 12 (b ∷ l) ∷ pieces_by n (drop 12 (b ∷ l))

-- no line has more pieces than bytes
abbrev pub pieces : List ℕ → List (List ℕ)
pieces l = pieces_by (length l) l

abbrev pub piece_size : List ℕ → ℕ
piece_size p = 1

abbrev pub piece_records : ℕ → ℕ → List ℕ → List ℕ
piece_records k next p = text_bytes next p

-- 'each line [followed] by its pieces'
abbrev pub line_size : List ℕ → ℕ
line_size l = 1 + space_of piece_size (pieces l)

unfoldable pub line_records : ℕ → ℕ → List ℕ → List ℕ
line_records k next l = line_bytes next (first_index (k + 1) (pieces l)) ++ all_records piece_size piece_records (k + 1) (pieces l)

-- 'all arrows, each followed by its lines': the ends are kept, also those that are no states
abbrev pub arrow_size : Arrow → ℕ
arrow_size a = 1 + space_of line_size a.lines

unfoldable pub arrow_records : ℕ → ℕ → Arrow → List ℕ
arrow_records k next a = arrow_bytes next a.source a.target (first_index (k + 1) a.lines) ++ all_records line_size line_records (k + 1) a.lines

-- ---- the sheet

-- where the arrows begin: after the header and the states
abbrev pub arrows_from : Graph → ℕ
arrows_from g = 1 + space_of state_size g.states

-- how many records a graph takes
abbrev pub records_for : Graph → ℕ
records_for g = space_of state_size g.states + space_of arrow_size g.arrows

-- 'all states in order, then all arrows'
unfoldable pub encode : Graph → List ℕ
encode g =
    header (records_for g) (first_index 1 g.states) (first_index (arrows_from g) g.arrows)
    ++ (all_records state_size state_records 1 g.states
    ++ all_records arrow_size arrow_records (arrows_from g) g.arrows)
