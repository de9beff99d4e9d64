-- The y of a state, by its place in its column after the sweeps. How many centres there are. Assumes nothing.
use Rattle.std.specs.Prelude.{◌≡◌, List, [], length, Float}
use Rattle.std.proofs.Math.Path.{sym, ap}
use Rattle.std.proofs.Common.{◌∙◌, arith}
use Prim.Native.Nat.{ℕ, ◌<◌}
use Rattle.std.proofs.Math.ListN.{get_or, length-map}
use Rattle.laws.specs.Counting.{table-length}
use Rattle.laws.specs.Lists.{map_at}
use Rattle.float.specs.Constants.{f0}
use Rattle.float.specs.Ops.{◌⊖◌, ◌⊗◌, of_nat}
use Rattle.sheet.specs.declared.Ends.{Ends}
use Rattle.columns.specs.Columns.{columns, state_numbers}
use Rattle.layered.specs.Single.{column_single, one_column, column_in}
use Rattle.sweep.specs.Sweeps.{middle_place, swept}
use Rattle.sweep.specs.Centred.{swept-centred, placed_in}
use Rattle.sweep.specs.Lengths.{swept-length}
use Rattle.layered.specs.Layered.{row, column_gap, column_of, layered_xs, layered_ys}

module _ (n start : ℕ) (arrows : List Ends) where
  pub xs_length : (w : Float) → length (layered_xs n start arrows w) ≡ n
  unfolding layered_xs
  xs_length w = length-map (state_numbers n) (λ (v : ℕ). of_nat (column_of (columns n arrows start) v) ⊗ column_gap w) ∙ table-length (λ (v : ℕ). v) 0 n

  pub ys_length : (h : Float) → length (layered_ys n start arrows h) ≡ n
  unfolding layered_ys
  ys_length h = length-map (swept n arrows (columns n arrows start)).slots (λ (y : Float). y ⊗ row h) ∙ swept-length n arrows (columns n arrows start)

  -- the columns after the sweeps
  abbrev pub finally : List (List ℕ)
  finally = (swept n arrows (columns n arrows start)).columns

  module _ (s : start < n) where
    -- the state at place i of a column of k states stands i rows below its top, the column's middle at 0
    pub y_at : (h : Float) (l i : ℕ) → i < length (get_or finally l []) → get_or (layered_ys n start arrows h) (get_or (get_or finally l []) i 0) f0 ≡ (of_nat i ⊖ middle_place (length (get_or finally l []))) ⊗ row h
    unfolding layered_ys
    y_at h l i p =
        let v : ℕ = get_or (get_or finally l []) i 0 in
        let q : v < n = placed_in n arrows (columns n arrows start) (column_single n arrows start s) (one_column n arrows start s) (column_in n arrows start s) l i p in
        sym (map_at (λ (y : Float). y ⊗ row h) (swept n arrows (columns n arrows start)).slots v f0 f0 (omega (arith, q, swept-length n arrows (columns n arrows start))))
        ∙ ap (λ (y : Float). y ⊗ row h) (swept-centred n arrows (columns n arrows start) (column_single n arrows start s) (one_column n arrows start s) (column_in n arrows start s) l i p)
