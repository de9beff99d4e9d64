-- `remainder::reduce` meets its contract.
use mathlib.Core.Path.{◌≡◌}
use Prim.Native.Nat.{◌*◌, ◌%◌, ◌^◌, ◌<◌}
use Rattle.remainder.proofs.reduce.Given as goal

abbrev pub invariant-loop-left : goal.invariant-loop-left
invariant-loop-left l = (l.r < 2 ^ 53) × (l.r * 2 ^ l.left % 7074237752028440 ≡ l.m * 2 ^ l.k % 7074237752028440)

abbrev pub decreases-loop-left : goal.decreases-loop-left
decreases-loop-left l = l.left
