-- Whether a drawing is arrow k's; proofs/Slots shows that the slots hold the records.
use Rattle.std.specs.Prelude.{Bool, ℕ, eqb}
use Rattle.label_spots.specs.declared.Geometry.{Geometry}

-- ---- the slots hold the records

abbrev pub is_edge : ℕ → Geometry → Bool
is_edge k g = eqb g.edge k
