-- Counts are added modulo 2^64.
use Rattle.std.specs.Prelude.{◌≡◌, ◌+◌, ◌%◌, ◌^◌}
use Rattle.vectors.specs.declared.Count.{Count}

abbrev pub AddsCounts : Count → Count → Count → Type 0
AddsCounts a b r = (r.cases ≡ (a.cases + b.cases) % 2 ^ 64) × (r.differ ≡ (a.differ + b.differ) % 2 ^ 64)
