-- `turns::gather` meets its contract.
use Rattle.std.proofs.Common.{ap, ◌∙◌, arith, length}
use Rattle.std.specs.Prelude.{get_or, None}
use Rattle.laws.specs.Lists.{get_d_any}
use Rattle.laws.specs.Put.{length-put}
use Rattle.turns.proofs.Laws.{gathered_length, gathered_put, gathered_past, gathered_end}
use Rattle.turns.proofs.gather.Goals as goal

pub put_shown-n-requires : goal.put_shown-n-requires
put_shown-n-requires c = let l = c.loop-shown in
    let d = c.args.drawn.now in
    omega (arith, l.invariant.0, l.invariant.1, c.requires, gathered_length d l.shown-index (get_or d l.shown-index None) c.loop-shown-test.true (get_d_any d l.shown-index None _ c.loop-shown-test.true))

pub loop-shown-preserved : goal.loop-shown-preserved
loop-shown-preserved c = let l = c.loop-shown in
    let d = c.args.drawn.now in
    let e = c.put_shown-n.ensures in
    let w = get_d_any d l.shown-index _ _ c.loop-shown-test.true in (
      ap length e.1 ∙ length-put l.records l.n _ ∙ l.invariant.0,
      omega (arith, e.0, l.invariant.1, gathered_length d l.shown-index _ c.loop-shown-test.true w),
      gathered_put d l.shown-index _ c.loop-shown-test.true w l.records _ _ l.n _ e.1 e.0 l.invariant.2,
    )

pub returns : goal.returns
returns c = let l = c.loop-shown in
    let d = c.args.drawn.now in
    (omega (arith, l.invariant.1, ap length (gathered_past d l.shown-index c.loop-shown-test.false)), gathered_end d l.shown-index l.n _ _ c.loop-shown-test.false l.invariant.2)
