-- The layered layout. Document 01: "Layered: breadth-first from the first start state or 0, unreached states in one last column, four barycentre sweeps".
use Rattle.std.specs.Prelude.{cond, List, [], ◌∷◌, map, ℕ, suc, Float}
use Rattle.float.specs.Constants.{f2, f16, f20, node_radius, f24, f40, row_gap, layer_gap}
use Rattle.float.specs.Ops.{◌⊕◌, ◌⊗◌, of_nat}
use Rattle.float.specs.Standins.{clamp}
use Rattle.sheet.specs.declared.Ends.{Ends}
use Rattle.columns.specs.Columns.{elem, state_numbers, columns}
use Rattle.sweep.specs.Sweeps.{swept}

-- ---- gaps from the size of the largest label, clamped; a state's radius is 22

-- between columns: at least 140
unfoldable pub column_gap : Float → Float
column_gap labelWidth = clamp (labelWidth ⊕ f2 ⊗ node_radius ⊕ f24) layer_gap (f2 ⊗ layer_gap ⊕ f40)

-- between the rows of a column: at least 90
unfoldable pub row : Float → Float
row labelHeight = clamp (labelHeight ⊕ f2 ⊗ node_radius ⊕ f16) row_gap (f2 ⊗ row_gap ⊕ f20)

-- ---- centres

-- the number of the column that holds a state
unfoldable pub column_of : List (List ℕ) → ℕ → ℕ
column_of [] v = 0
column_of (c ∷ columns) v = let next = suc (column_of columns v) in cond (elem v c) 0 next

-- x: a gap for each column before the state's
unfoldable pub layered_xs : ℕ → ℕ → List Ends → Float → List Float
layered_xs n start arrows labelWidth = map (λ (v : ℕ). of_nat (column_of (columns n arrows start) v) ⊗ column_gap labelWidth) (state_numbers n)

-- y: the slot that the state has after the sweeps, in rows
unfoldable pub layered_ys : ℕ → ℕ → List Ends → Float → List Float
layered_ys n start arrows labelHeight = map (λ (s : Float). s ⊗ row labelHeight) (swept n arrows (columns n arrows start)).slots
