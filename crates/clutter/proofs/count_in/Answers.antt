-- `clutter::count_in` meets its contract.
use Rattle.std.proofs.Common.{◌∙◌, ap, map, List, []}
use Rattle.trace.specs.Form.{trace_in}
use Rattle.clutter.specs.Clutter.{crossings, collisions}
use Rattle.clutter.proofs.Laws.{clutter_is}
use Rattle.clutter.proofs.count_in.Goals as goal

pub returns : goal.returns
returns g c = let a = c.args in
    clutter_is a.nodes.now a.drawn.now (map trace_in c.push_traces.new.traces) c.crossings-pairs.result c.collisions-labels.result c.push_traces.ensures
    (c.crossings-pairs.ensures.0 ∙ ap (λ (l : List _). crossings (map trace_in l)) c.as_slice.ensures.all)
    (c.collisions-labels.ensures.0 ∙ ap (λ (l : List _). collisions a.nodes.now (map trace_in l) [] a.drawn.now) c.as_slice-2.ensures.all)
