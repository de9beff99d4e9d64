-- The order of the states within their columns. Document 01: "four barycentre sweeps".
use Rattle.std.specs.Prelude.{Bool, true, false, cond, not, ℕ, ◌-◌, ◌%◌, eqb, length, get_or, set, replicate, Float}
use mathlib.Core.List.{List, [], ◌∷◌, map, flat_map}
use Rattle.laws.specs.Filter.{filter_by}
use Rattle.laws.specs.Loops.{up, down, over}
use Rattle.laws.specs.Sort.{sorted}
use Rattle.float.specs.Constants.{f0, f1, f2}
use Rattle.float.specs.Ops.{◌⊕◌, ◌⊖◌, ◌⊘◌, of_nat}
use Rattle.float.specs.Standins.{precedes}
use Rattle.sweep.specs.declared.Weighted.{Weighted}
use Rattle.sheet.specs.declared.Ends.{Ends}
use Rattle.columns.specs.Columns.{counts, elem}

-- ---- slots: one a state, its position relative to the centre of its column

abbrev pub slot : List Float → ℕ → Float
slot slots v = get_or slots v f0

-- the middle of the places 0 to k - 1
abbrev pub middle_place : ℕ → Float
middle_place k = (of_nat k ⊖ f1) ⊘ f2

-- the states of a column get slots one apart, in their order, around its middle
unfoldable pub centre_column : List Float → List ℕ → List Float
centre_column slots column = up (λ (i : ℕ) (s : List Float). set s (get_or column i 0) (of_nat i ⊖ middle_place (length column))) 0 (length column) slots

-- ---- barycentres

-- the state at the other end of an arrow, where the arrow is one of v's
unfoldable pub other_end : ℕ → ℕ → Ends → List ℕ
other_end n v a =
    let to = cond (eqb a.target v) (a.source ∷ []) [] in
    let ends = cond (eqb a.source v) (a.target ∷ []) to in
    cond (counts n a) ends []

-- the neighbours of v by arrows of either direction, in the order of the arrows, each as often as there are arrows
unfoldable pub neighbours : ℕ → List Ends → ℕ → List ℕ
neighbours n arrows v = flat_map (other_end n v) arrows

unfoldable pub slot_total : List Float → List ℕ → Float
slot_total slots ws = over (λ (s : Float) (w : ℕ). s ⊕ slot slots w) f0 ws

-- the mean of the slots of some states; of none, something else
abbrev pub mean_or : List Float → List ℕ → Float → Float
mean_or slots [] other = other
mean_or slots (w ∷ ws) other = slot_total slots (w ∷ ws) ⊘ of_nat (length (w ∷ ws))

-- whether a state is in a column, or is not
abbrev pub in_column : Bool → List ℕ → ℕ → Bool
in_column inside column w = cond inside (elem w column) (not (elem w column))

-- the mean over the neighbouring column, else over other columns, else the slot itself
unfoldable pub barycentre : ℕ → List Ends → List Float → List ℕ → List ℕ → ℕ → Float
barycentre n arrows slots reference column v =
    mean_or slots (filter_by (in_column true reference) (neighbours n arrows v))
    (mean_or slots (filter_by (in_column false column) (neighbours n arrows v))
    (slot slots v))

-- ---- one column

-- by barycentre, then by slot, in the total order
abbrev pub by_barycentre : List Float → Weighted → Weighted → Bool
by_barycentre slots v w = cond (precedes v.barycentre w.barycentre) true (cond (precedes w.barycentre v.barycentre) false (precedes (slot slots v.state) (slot slots w.state)))

abbrev pub with_barycentre : ℕ → List Ends → List Float → List ℕ → List ℕ → ℕ → Weighted
with_barycentre n arrows slots reference column v = record { state = v; barycentre = barycentre n arrows slots reference column v }

abbrev pub state_of : Weighted → ℕ
state_of v = v.state

-- the states of a column in order, stable sorts by total order
unfoldable pub ordered_column : ℕ → List Ends → List Float → List ℕ → List ℕ → List ℕ
ordered_column n arrows slots reference column =
    map state_of (sorted (by_barycentre slots) (map (with_barycentre n arrows slots reference column) column))

-- ---- sweeps

pub record Arranged : Type 0 where
  pub columns : List (List ℕ)
  pub slots : List Float

abbrev pub arranged : List (List ℕ) → List Float → Arranged
arranged columns slots = record { columns = columns; slots = slots }

-- column l is put in order by a neighbouring column, and centred
unfoldable pub arrange : ℕ → List Ends → ℕ → ℕ → Arranged → Arranged
arrange n arrows reference l s =
    let c = ordered_column n arrows s.slots (get_or s.columns reference []) (get_or s.columns l []) in
    arranged (set s.columns l c) (centre_column s.slots c)

-- from the second column to the last, each by the column before it
unfoldable pub sweep_down : ℕ → List Ends → Arranged → Arranged
sweep_down n arrows s = up (λ (l : ℕ). arrange n arrows (l - 1) l) 1 (length s.columns) s

-- from the last column but one to the first, each by the column after it
unfoldable pub sweep_up : ℕ → List Ends → Arranged → Arranged
sweep_up n arrows s = down (λ (l : ℕ). arrange n arrows l (l - 1)) (length s.columns - 1) s

-- sweep k, counted from 0: down where k is even, else up
abbrev pub sweep_at : ℕ → List Ends → ℕ → Arranged → Arranged
sweep_at n arrows k = cond (eqb (k % 2) 0) (sweep_down n arrows) (sweep_up n arrows)

-- "four barycentre sweeps"
abbrev pub sweeps : ℕ
sweeps = 4

-- down, up, down, up
unfoldable pub four_sweeps : ℕ → List Ends → Arranged → Arranged
four_sweeps n arrows s = up (sweep_at n arrows) 0 sweeps s

-- from columns that are centred
unfoldable pub swept : ℕ → List Ends → List (List ℕ) → Arranged
swept n arrows columns = four_sweeps n arrows (arranged columns (over centre_column (replicate n f0) columns))
