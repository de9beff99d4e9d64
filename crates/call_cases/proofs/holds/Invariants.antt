-- `call_cases::holds` meets its contract. Assumes nothing.
use Rattle.std.proofs.Common.{◌≡◌, Bool, length}
use Rattle.laws.specs.Loops.{any_up}
use Rattle.call_cases.specs.Cases.{differs}
use Rattle.call_cases.proofs.holds.Given as goal

abbrev pub invariant-loop-i : goal.invariant-loop-i
invariant-loop-i g l = (alike : _ → _ → Bool) → ((x y : _) (r : Bool) → goal.F-post g l.same x y r → r ≡ alike x y)
    → any_up (differs alike l.unset l.out l.values) l.i (length l.out) ≡ any_up (differs alike l.unset l.out l.values) 0 (length l.out)
