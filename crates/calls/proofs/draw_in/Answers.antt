-- `calls::draw_in` meets its contract.
use Rattle.std.proofs.Common.{sym, arith, length-take-le}
use Rattle.std.proofs.lemmas.Result.{err_from_is_err_and}
use Rattle.draw.specs.Drawn.{xs_of, ys_of}
use Rattle.calls.proofs.Held.{drawing_refused, drawing_left}
use Rattle.calls.proofs.draw_in.Goals as goal

pub returns-in_err-count : goal.returns-in_err-count
returns-in_err-count c = let a = c.args in
    let p = err_from_is_err_and c.from_residual.result c.from_residual.ensures.1 in
    rw (p.1, p.2) (drawing_refused a.sheet.now a.m (xs_of a.centres.now) (ys_of a.centres.now) _ c.in_err-count.ensures.0)

pub slice_bounds-result-end : goal.slice_bounds-result-end
slice_bounds-result-end c = let a = c.args in
    let q = c.requires in
    let d = c.in_ok-count.ensures in
    let h = drawing_left a.sheet.now a.m (xs_of a.centres.now) (ys_of a.centres.now) q.limits.0 q.limits.1 _ _ _ q.room d.0 d.1 in
    sym (length-take-le _ _ (omega (arith, h.0, q.room, c.draw_at.auto.out)))

pub returns : goal.returns
returns c = let a = c.args in
    let q = c.requires in
    let d = c.in_ok-count.ensures in
    (drawing_left a.sheet.now a.m (xs_of a.centres.now) (ys_of a.centres.now) q.limits.0 q.limits.1 _ _ _ q.room d.0 d.1).1
