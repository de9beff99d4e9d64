-- `outputs::write_records` meets its contract.
use Rattle.std.proofs.Common.{refl, ap, ◌∙◌, take_all, arith}
use mathlib.Core.List.{flat_map}
use Rattle.laws.specs.Put.{put}
use Rattle.outputs.specs.Answers.{numbers_of}
use Rattle.outputs.proofs.Laws.{record_step}
use Rattle.outputs.proofs.write_records.Goals as goal

pub loop-k-init : goal.loop-k-init
unfolding put flat_map
loop-k-init c = refl

pub loop-k-preserved : goal.loop-k-preserved
loop-k-preserved c = let a = c.args in
    let l = c.loop-k in
    record_step a.drawn.now l.k _ _ a.records.now l.records _ _ c.loop-k-test.true l.invariant c.fields.ensures (omega arith) c.copy.ensures

pub returns : goal.returns
returns c = let a = c.args in
    let l = c.loop-k in
    l.invariant ∙ ap (λ gs. put a.records.now 0 (numbers_of gs)) (take_all l.k a.drawn.now (omega arith))
