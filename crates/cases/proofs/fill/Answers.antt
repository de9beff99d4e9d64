-- `cases::fill` meets its contract. Assumes nothing.
use Rattle.std.proofs.Common.{length, sym, ◌∙◌, arith}
use Rattle.cases.specs.Laws.{each_fill_step, each_fill_end}
use Rattle.cases.proofs.fill.Goals as goal

pub loop-value-preserved : goal.loop-value-preserved
loop-value-preserved g c r e =
    let l = c.loop-value in
    rw (c.after-from.ensures, e l.from c.read.result c.read.ensures) (each_fill_step 8 r l.out l.value-index l.from (length c.args.out.now) (omega arith) (omega arith) ∙ l.invariant r e)

pub returns : goal.returns
returns g c r e =
    let l = c.loop-value in
    sym (each_fill_end 8 r l.out l.value-index l.from (length c.args.out.now) (omega arith) (omega arith)) ∙ l.invariant r e
