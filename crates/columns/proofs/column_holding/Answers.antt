-- `columns::column_holding` meets its contract.
use Rattle.std.proofs.Common.{refl, sym, ap, ◌∙◌, ◌+◌, ℕ, get_or, drop, arith}
use Rattle.laws.specs.Split.{sum_all, sum_next, sum_fits}
use Rattle.columns.proofs.Laws.{holding_hit, holding_miss, holding_none}
use Rattle.columns.proofs.column_holding.Goals as goal

pub loop-l-init : goal.loop-l-init
unfolding sum_all
loop-l-init c = (refl, omega arith)

pub overflow_add-end : goal.overflow_add-end
overflow_add-end c = omega (arith, c.loop-l.invariant.0, sum_fits c.args.sizes.now c.loop-l.l (omega arith))

pub offset_bounds-order-start : goal.offset_bounds-order-start
offset_bounds-order-start c = omega (arith, c.loop-l.invariant.0, sum_fits c.args.sizes.now c.loop-l.l (omega arith))

pub slice_bounds-contains-end : goal.slice_bounds-contains-end
slice_bounds-contains-end c = omega (arith, c.loop-l.invariant.0, sum_fits c.args.sizes.now c.loop-l.l (omega arith))

pub returns-then-contains : goal.returns-then-contains
returns-then-contains c = let a = c.args in
    let l = c.loop-l in
    let z = a.sizes.now in
    let e = holding_hit a.v z l.l l.start (l.start + get_or z l.l 0) a.order.now (omega arith) refl (sym c.contains.ensures ∙ c.if-contains.true) in
    (omega (arith, e, l.invariant.1), omega arith)

pub loop-l-preserved : goal.loop-l-preserved
loop-l-preserved c = let a = c.args in
    let l = c.loop-l in
    let z = a.sizes.now in
    let e = holding_miss a.v z l.l l.start (l.start + get_or z l.l 0) a.order.now (omega arith) refl (sym c.contains.ensures ∙ c.if-contains.false) in
    (ap (λ (k : ℕ). k + get_or z l.l 0) l.invariant.0 ∙ sym (sum_next z l.l (omega arith)), omega (arith, e, l.invariant.1))

pub returns : goal.returns
returns c = let a = c.args in
    let l = c.loop-l in
    (omega (arith, holding_none a.v a.sizes.now l.l (drop l.start a.order.now) (omega arith), l.invariant.1), omega arith)
