-- `clutter::crossings` meets its contract.
use Rattle.std.proofs.Common.{◌≡◌, ◌+◌, ◌*◌, ◌≤◌, map, drop}
use Rattle.trace.specs.Form.{trace_in}
use Rattle.clutter.specs.Clutter.{crossings}
use Rattle.clutter.proofs.crossings.Given as goal

abbrev pub invariant-loop-i : goal.invariant-loop-i
invariant-loop-i l = (l.sum + crossings (map trace_in (drop l.i l.traces)) ≡ crossings (map trace_in l.traces)) × (l.sum ≤ 256 * l.i)
