-- `clutter::collisions` meets its contract.
use Rattle.std.proofs.Common.{◌≡◌, ◌+◌, ◌≤◌, [], map, take, drop}
use Rattle.trace.specs.Form.{trace_in}
use Rattle.clutter.specs.Clutter.{collisions}
use Rattle.clutter.proofs.collisions.Given as goal

abbrev pub invariant-loop-i : goal.invariant-loop-i
invariant-loop-i l = (l.sum + collisions l.nodes (map trace_in l.traces) (take l.i l.drawn) (drop l.i l.drawn) ≡ collisions l.nodes (map trace_in l.traces) [] l.drawn) × (l.sum ≤ l.i)
