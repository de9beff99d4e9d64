-- `curves::push_arrows` meets its contract.
use Rattle.std.proofs.Common.{◌≡◌, ◌++◌, ◌+◌, ◌≤◌, length, map, take, drop}
use Rattle.trace.specs.Form.{trace_in}
use Rattle.curves.specs.Lay.{laid_traces, crossings}
use Rattle.curves.proofs.push_arrows.Given as goal

abbrev pub invariant-loop-i : goal.invariant-loop-i
invariant-loop-i g l =
    (length l.traces ≤ length l.initial.traces + crossings (take l.i l.laid))
    × (map trace_in l.traces ++ laid_traces l.i (drop l.i l.laid) ≡ map trace_in l.initial.traces ++ laid_traces 0 l.laid)
