-- `clutter::push_traces` meets its contract.
use Rattle.std.proofs.Common.{◌≡◌, ◌≤◌, length, map, take}
use Rattle.trace.specs.Form.{trace_in}
use Rattle.clutter.specs.Clutter.{record_trace}
use Rattle.clutter.proofs.push_traces.Given as goal

abbrev pub invariant-loop-g : goal.invariant-loop-g
invariant-loop-g g l = (length l.traces ≤ l.g-index) × (map trace_in l.traces ≡ map record_trace (take l.g-index l.drawn))
