-- `curves::push_starts` meets its contract.
use Rattle.std.proofs.Common.{◌≡◌, ◌++◌, ◌+◌, ◌≤◌, length, map, drop}
use Rattle.trace.specs.Form.{trace_in}
use Rattle.routing.specs.Routing.{start_traces}
use Rattle.curves.proofs.push_starts.Given as goal

abbrev pub invariant-loop-k : goal.invariant-loop-k
invariant-loop-k g l =
    (length l.traces ≤ length l.initial.traces + l.k)
    × (map trace_in l.traces ++ start_traces (drop l.k l.flags) (drop l.k l.centres) ≡ map trace_in l.initial.traces ++ start_traces l.flags l.centres)
