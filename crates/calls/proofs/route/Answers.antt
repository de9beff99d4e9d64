-- `calls::route` meets its contract.
use Rattle.std.proofs.lemmas.Result.{err_from_is_err_and}
use Rattle.calls.proofs.Held.{drawing_held}
use Rattle.calls.proofs.Routes.{call_refused, call_drawn}
use Rattle.calls.proofs.route.Goals as goal

pub returns-in_err-drawn : goal.returns-in_err-drawn
returns-in_err-drawn c = let a = c.args in
    let p = err_from_is_err_and c.from_residual.result c.from_residual.ensures.1 in
    rw (p.1, p.2) (call_refused a.sheet.now a.limits a.xs.now a.ys.now c.capped_limits-m.ensures.0 a.records.now a.text.now _ c.in_err-drawn.ensures)

pub returns : goal.returns
returns c = let a = c.args in
    let b = c.capped_limits-m in
    let h = drawing_held a.sheet.now b.result a.xs.now a.ys.now b.ensures.1 b.ensures.2 _ c.in_ok-drawn.ensures in
    call_drawn a.sheet.now a.limits a.xs.now a.ys.now b.ensures.0 a.records.now a.text.now _ h _ _ _ c.write_route.ensures
