-- `layered::put_ys` meets its contract.
use Rattle.std.proofs.Common.{◌≡◌, take, drop}
use Rattle.laws.specs.Zip.{zip_by}
use Rattle.float.specs.Ops.{◌⊗◌}
use Rattle.shape.specs.Plane.{vec}
use Rattle.layered.proofs.put_ys.Given as goal

abbrev pub invariant-loop-v : goal.invariant-loop-v
invariant-loop-v l = (take l.v l.centres ≡ take l.v (zip_by (λ c s. vec c.x (s ⊗ l.row)) l.initial.centres l.slots))
    × (drop l.v l.centres ≡ drop l.v l.initial.centres)
