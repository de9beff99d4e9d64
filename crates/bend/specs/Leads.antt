-- Arrows by their ends, and the search for the reverse arrow: "the arrows are searched directly" (document 02, T-03).
use Rattle.std.specs.Prelude.{Bool, ◌&&◌, List, ℕ, eqb}
use Rattle.std.specs.List.{list_any}
pub use Rattle.sheet.specs.declared.Ends.{Ends}

-- it leads from a to b
abbrev pub leads_from : ℕ → ℕ → Ends → Bool
leads_from a b e = eqb e.source a && eqb e.target b

-- "some arrow leads from" a to b
unfoldable pub leads : List Ends → ℕ → ℕ → Bool
leads arrows a b = list_any (leads_from a b) arrows

-- ---- from two lists of numbers

abbrev pub ends_by : ℕ → ℕ → Ends
ends_by a b = record { source = a; target = b }
