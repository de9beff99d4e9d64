-- `clutter::collides` meets its contract.
use Rattle.std.proofs.Common.{◌∙◌, sym, map}
use Rattle.trace.specs.Form.{trace_in}
use Rattle.clutter.proofs.Laws.{by_state, by_others, any_struck}
use Rattle.clutter.proofs.collides.Goals as goal

pub returns-then-any_state : goal.returns-then-any_state
returns-then-any_state c = let a = c.args in
    c.if-any_state.true ∙ sym (by_state a.nodes.now (map trace_in a.traces.now) a.before.now a.behind.now a.g.now (sym c.any_state.ensures ∙ c.if-any_state.true))

pub returns-then-any_label : goal.returns-then-any_label
returns-then-any_label c = let a = c.args in
    let others = by_others a.nodes.now (map trace_in a.traces.now) a.before.now a.behind.now a.g.now (sym c.any_state.ensures ∙ c.if-any_state.false) in
    c.if-any_label.true ∙ sym (others ∙ rw (← c.any_label.ensures, c.if-any_label.true))

pub returns-then-any_label-2 : goal.returns-then-any_label-2
returns-then-any_label-2 c = let a = c.args in
    let others = by_others a.nodes.now (map trace_in a.traces.now) a.before.now a.behind.now a.g.now (sym c.any_state.ensures ∙ c.if-any_state.false) in
    c.if-any_label-2.true ∙ sym (others ∙ rw (← c.any_label.ensures, c.if-any_label.false, ← c.any_label-else-any_label.ensures, c.if-any_label-2.true))

pub returns-else-any_label-2 : goal.returns-else-any_label-2
returns-else-any_label-2 c = let a = c.args in
    let others = by_others a.nodes.now (map trace_in a.traces.now) a.before.now a.behind.now a.g.now (sym c.any_state.ensures ∙ c.if-any_state.false) in
    sym (others ∙ rw (← c.any_label.ensures, c.if-any_label.false, ← c.any_label-else-any_label.ensures, c.if-any_label-2.false) (sym (c.any_trace.ensures ∙ any_struck a.g.now.edge a.g.now.label_box a.traces.now)))
