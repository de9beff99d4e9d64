-- `calls::list` meets its contract.
use Rattle.std.proofs.Common.{sym, ◌∙◌, arith, length-take-le}
use Rattle.std.proofs.lemmas.Result.{err_from_is_err_and}
use Rattle.calls.proofs.Lists.{planning-refused, few_states, laid, list-refused, list_laid}
use Rattle.calls.proofs.list.Goals as goal

pub returns-in_err-n : goal.returns-in_err-n
returns-in_err-n c = let a = c.args in
    let p = err_from_is_err_and c.from_residual.result c.from_residual.ensures.1 in
    rw (p.1, p.2) (list-refused a.sheet.now a.limits a.kind a.out.now _
    (planning-refused a.sheet.now a.limits a.kind c.capped_limits-m.ensures.0 _ c.in_err-n.ensures.0))

pub slice_bounds-centres-end : goal.slice_bounds-centres-end
slice_bounds-centres-end c = let a = c.args in
    omega (arith, few_states a.sheet.now a.limits a.kind c.capped_limits-m.ensures.0 _ _ c.in_ok-n.ensures.0)

pub slice_bounds-list_by-end : goal.slice_bounds-list_by-end
slice_bounds-list_by-end c = let a = c.args in
    sym (length-take-le _ _ (omega (arith, few_states a.sheet.now a.limits a.kind c.capped_limits-m.ensures.0 _ _ c.in_ok-n.ensures.0)))

pub list_by-requires-clause-states : goal.list_by-requires-clause-states
list_by-requires-clause-states c = let a = c.args in
    let p = c.in_ok-n.ensures in
    let l = laid a.sheet.now a.limits a.kind c.capped_limits-m.ensures.0 _ _ _ _ (omega arith) p.0 p.1 in
    (sym l.many ∙ sym l.centres_many, omega (arith, l.few, l.centres_many))

pub returns : goal.returns
returns c = let a = c.args in
    let q = c.capped_limits-m.ensures.0 in
    let p = c.in_ok-n.ensures in
    let l = laid a.sheet.now a.limits a.kind q _ _ _ _ (omega arith) p.0 p.1 in
    list_laid a.sheet.now a.limits a.kind a.out.now q _ _ _ l _ _ c.list_by.ensures.0 c.list_by.ensures.1
