-- Document 02, T-06: 'Stored ones can be read by a repair call that keeps the mark with the lowest state number and writes the sheet as the editor does; nothing else about
-- it changes.' What is written: the graph of a stored sheet with its first start mark alone.
use Rattle.std.specs.Prelude.{cond, List, [], ◌∷◌, map, ℕ, ◌-◌, ◌%◌}
use Rattle.sheet.specs.Sheet.{State, Graph}
use Rattle.sheet.specs.Meaning.{is_start}

-- flags without the start bit, which is bit 0
abbrev pub without_start : ℕ → ℕ
without_start flags = flags - flags % 2

abbrev pub unmarked : State → State
unmarked a = record { flags = without_start a.flags }

-- 'keeps the mark with the lowest state number': the first state that has the mark stays as it is, and those behind it lose theirs
unfoldable pub one_mark : List State → List State
one_mark [] = []
one_mark (a ∷ l) = let rest = one_mark l in cond (is_start a.flags) (a ∷ map unmarked l) (a ∷ rest)

-- 'nothing else about it changes'
abbrev pub repaired : Graph → Graph
repaired g = record { states = one_mark g.states; arrows = g.arrows }
