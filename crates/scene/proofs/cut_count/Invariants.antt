-- `scene::cut_count` meets its contract.
use Rattle.std.proofs.Common.{◌≡◌, Bool, map, ◌+◌, ◌*◌, ◌≤◌, drop}
use Rattle.laws.specs.Best.{cut_total}
use Rattle.laws.specs.Counting.{worth}
use Rattle.std.specs.Fn.{FnReturnsAt}
use Rattle.scene.proofs.cut_count.Given as goal

abbrev pub invariant-loop-x : goal.invariant-loop-x
invariant-loop-x g l =
    ((p : _ → Bool) → ((x : _) (r : Bool) → FnReturnsAt g.F.Fn l.test x r → r ≡ p x)
    → cut_total l.limit l.sum (map (worth p l.points) (drop l.x-index l.items)) ≡ cut_total l.limit l.start (map (worth p l.points) l.items))
    × (l.sum ≤ l.start + l.points * l.x-index)
