-- `outputs::write_centres` meets its contract.
use Rattle.std.proofs.Common.{◌≡◌, drop, map}
use Rattle.laws.specs.Put.{put}
use Rattle.outputs.proofs.write_centres.Given as goal

abbrev pub invariant-loop-k : goal.invariant-loop-k
invariant-loop-k l =
    let across = map (λ c. c.x) l.centres in
    let down = map (λ c. c.y) l.centres in
    (put l.xs l.k (drop l.k across) ≡ put l.initial.xs 0 across)
    × (put l.ys l.k (drop l.k down) ≡ put l.initial.ys 0 down)
