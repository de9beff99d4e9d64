-- `curves::Frame::meet` meets its contract.
use Rattle.std.proofs.Common.{◌≡◌, ◌++◌, ◌+◌, ◌≤◌, length, drop}
use Rattle.curves.specs.Lay.{all_met}
use Rattle.curves.proofs.frame.Frame.meet.Given as goal

abbrev pub invariant-loop-i : goal.invariant-loop-i
invariant-loop-i l =
    (length l.angles ≤ length l.initial.angles + l.i)
    × (l.angles ++ all_met l.k (drop l.i l.self.arrows.now) (drop l.i l.laid) ≡ l.initial.angles ++ all_met l.k l.self.arrows.now l.laid)
