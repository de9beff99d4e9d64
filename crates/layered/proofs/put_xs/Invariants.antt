-- `layered::put_xs` meets its contract.
use Rattle.std.proofs.Common.{◌≡◌, ℕ, length, take, map}
use Rattle.float.specs.Constants.{f0}
use Rattle.float.specs.Ops.{◌⊗◌, of_nat}
use Rattle.shape.specs.Plane.{vec}
use Rattle.columns.specs.Columns.{state_numbers}
use Rattle.layered.specs.Layered.{column_of}
use Rattle.layered.proofs.put_xs.Given as goal

abbrev pub invariant-loop-v : goal.invariant-loop-v
invariant-loop-v l = take l.v l.centres
    ≡ take l.v (map (λ (w : ℕ). vec (of_nat (column_of l.columns w) ⊗ l.gap) f0) (state_numbers (length l.initial.centres)))
