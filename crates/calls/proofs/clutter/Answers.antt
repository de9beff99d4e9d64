-- `calls::clutter` meets its contract.
use Rattle.std.proofs.Common.{◌∙◌, arith}
use Rattle.std.proofs.lemmas.Result.{err_from_is_err_and}
use Rattle.calls.proofs.Held.{drawing_held}
use Rattle.calls.proofs.Routes.{nodes_given, clutter-refused, clutter-drawn}
use Rattle.calls.proofs.clutter.Goals as goal

pub returns-in_err-drawn : goal.returns-in_err-drawn
returns-in_err-drawn c = let a = c.args in
    let p = err_from_is_err_and c.from_residual.result c.from_residual.ensures.1 in
    rw (p.1, p.2) (clutter-refused a.sheet.now a.limits a.xs.now a.ys.now c.capped_limits-m.ensures.0 _ c.in_err-drawn.ensures)

pub counted-nodes-requires : goal.counted-nodes-requires
counted-nodes-requires c = let a = c.args in
    let b = c.capped_limits-m in
    let h = drawing_held a.sheet.now b.result a.xs.now a.ys.now b.ensures.1 b.ensures.2 _ c.in_ok-drawn.ensures in
    omega (arith, h.states, c.state_count-n.ensures)

pub clutter-requires : goal.clutter-requires
clutter-requires c = let a = c.args in
    let b = c.capped_limits-m in
    (drawing_held a.sheet.now b.result a.xs.now a.ys.now b.ensures.1 b.ensures.2 _ c.in_ok-drawn.ensures).few

pub returns : goal.returns
returns c = let a = c.args in
    let b = c.capped_limits-m in
    let h = drawing_held a.sheet.now b.result a.xs.now a.ys.now b.ensures.1 b.ensures.2 _ c.in_ok-drawn.ensures in
    let n = c.state_count-n in
    clutter-drawn a.sheet.now a.limits a.xs.now a.ys.now b.ensures.0 _ h n.result _ _ n.ensures
    (c.counted-nodes.ensures.all ∙ nodes_given a.xs.now a.ys.now _ c.given-centres.ensures n.result (omega (arith, h.states, n.ensures))) c.clutter.ensures
