use Rattle.std.proofs.Common.{◌≡◌, ◌-◌, ◌+◌, false}
use Rattle.repair.specs.Marks.{mark_kept}
use Rattle.repair.proofs.keep_first_mark.Given as goal

abbrev pub invariant-loop-k : goal.invariant-loop-k
invariant-loop-k l = mark_kept l.marked l.k (l.n + 1 - l.k) l.out ≡ mark_kept false 1 l.n l.initial.out
