-- `plan::plan_read` meets its contract.
use Rattle.std.proofs.Common.{sym, ap, ◌∙◌, arith, length, length-take-le}
use Rattle.sheet.specs.Sheet.{meaning}
use Rattle.layout.specs.Layout.{kind_number}
use Rattle.plan.specs.Laws.{plan-read, plan-beyond, plan-size}
use Rattle.plan.proofs.plan_read.Goals as goal

pub returns-then-layout_beyond : goal.returns-then-layout_beyond
returns-then-layout_beyond c = let a = c.args in
    let g = meaning a.s.now in
    let r = c.read_graph.ensures in
    plan-beyond (kind_number a.kind) g (plan-read g r.0 r.1 r.2) a.centres.now (sym c.layout_beyond.ensures ∙ c.if-layout_beyond.true)

pub returns : goal.returns
returns c = let a = c.args in
    let g = meaning a.s.now in
    let r = c.read_graph.ensures in
    plan-size (kind_number a.kind) g (plan-read g r.0 r.1 r.2)
    (length c.read_graph.new.flags) c.layout-size.result a.centres.now c.layout-size.new.centres
    (sym c.layout_beyond.ensures ∙ c.if-layout_beyond.false) (ap length r.0)
    (c.layout-size.auto.centres ∙ length-take-le _ _ (omega arith)) (omega arith) c.layout-size.ensures
