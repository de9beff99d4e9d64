-- `calls::layout` meets its contract.
use Rattle.std.proofs.Common.{sym, arith, length-take-le}
use Rattle.std.proofs.lemmas.Result.{err_from_is_err_and}
use Rattle.calls.proofs.Lists.{planning-refused, few_states, laid, layout-refused, layout_laid}
use Rattle.calls.proofs.layout.Goals as goal

pub returns-in_err-states : goal.returns-in_err-states
returns-in_err-states c = let a = c.args in
    let p = err_from_is_err_and c.from_residual.result c.from_residual.ensures.1 in
    rw (p.1, p.2) (layout-refused a.sheet.now a.limits a.kind a.xs.now a.ys.now _
    (planning-refused a.sheet.now a.limits a.kind c.capped_limits-m.ensures.0 _ c.in_err-states.ensures.0))

pub slice_bounds-centres-end : goal.slice_bounds-centres-end
slice_bounds-centres-end c = let a = c.args in
    omega (arith, few_states a.sheet.now a.limits a.kind c.capped_limits-m.ensures.0 _ _ c.in_ok-states.ensures.0)

pub slice_bounds-write_layout-end : goal.slice_bounds-write_layout-end
slice_bounds-write_layout-end c = let a = c.args in
    sym (length-take-le _ _ (omega (arith, few_states a.sheet.now a.limits a.kind c.capped_limits-m.ensures.0 _ _ c.in_ok-states.ensures.0)))

pub returns : goal.returns
returns c = let a = c.args in
    let p = c.in_ok-states.ensures in
    let l = laid a.sheet.now a.limits a.kind c.capped_limits-m.ensures.0 _ _ _ _ (omega arith) p.0 p.1 in
    layout_laid a.sheet.now a.limits a.kind a.xs.now a.ys.now _ _ _ l _ _ _ c.write_layout.ensures
