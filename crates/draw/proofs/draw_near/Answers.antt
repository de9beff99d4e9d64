use Rattle.std.proofs.Common.{sym, ◌∙◌}
use Rattle.sheet.specs.Sheet.{Graph, meaning}
use Rattle.draw.specs.Drawn.{xs_of, ys_of}
use Rattle.draw.proofs.Laws.{frame_read, sizes_read, draw_refused, draw_drawn}
use Rattle.draw.proofs.draw_near.Goals as goal

pub returns-then-beyond : goal.returns-then-beyond
returns-then-beyond c =
    let a = c.args in
    let g : Graph = meaning a.s.now in
    let r = c.read_graph.ensures in
    let q = c.requires in
    draw_refused g (xs_of a.centres.now) (ys_of a.centres.now)
    (frame_read g a.centres.now _ _ r.0 r.1 q.states.0 q.arrows.0)
    a.out.now (sym c.beyond.ensures ∙ c.if-beyond.true)

pub returns : goal.returns
returns c =
    let a = c.args in
    let g : Graph = meaning a.s.now in
    let r = c.read_graph.ensures in
    let q = c.requires in
    draw_drawn g (xs_of a.centres.now) (ys_of a.centres.now)
    (frame_read g a.centres.now _ _ r.0 r.1 q.states.0 q.arrows.0)
    (sizes_read g _ r.2 q.arrows.0)
    c.geometry.result a.out.now _ (sym c.beyond.ensures ∙ c.if-beyond.false) c.geometry.ensures.0 c.geometry.ensures.1
