-- `scene::cut_count` meets its contract.
use Rattle.std.proofs.Common.{◌≡◌, ◌∙◌, sym, refl, arith}
use Rattle.laws.specs.Counting.{worth}
use Rattle.scene.proofs.Laws.{cut_more, cut_stops, cut_ends, worth_yes, worth_no}
use Rattle.scene.proofs.cut_count.Goals.{then-test, else-test}
use Rattle.scene.proofs.cut_count.Goals as goal

pub returns-then-limit-sum-clause-sum : goal.returns-then-limit-sum-clause-sum
returns-then-limit-sum-clause-sum g c p d = let a = c.args in
    let l = c.loop-x in
    cut_stops (worth p a.points) a.limit l.sum l.x-index a.items.now c.if-limit-sum.true ∙ l.invariant.0 p d

pub loop-x-preserved : goal.loop-x-preserved
loop-x-preserved g c = let a = c.args in
    let l = c.loop-x in (
      λ p d.
          let e : c.test.result ≡ p c.x-item.result = d _ _ (record { shown = _; shows = refl; says = record { met = c.test.ensures } }) in
          cut_more (worth p a.points) a.limit l.sum l.x-index a.items.now c.if-test.sum c.x-item.result c.x-item.result c.loop-x-test.true (sym c.x-item.is) c.if-limit-sum.false
          (elim c.if-test.branch [
            | then-test w ↦ worth_yes p a.points l.sum c.if-test.sum c.x-item.result (sym e ∙ w.if-test.true) w.sum-is
            | else-test w ↦ worth_no p a.points l.sum c.if-test.sum c.x-item.result (sym e ∙ w.if-test.false) w.sum-is
          ])
          ∙ l.invariant.0 p d,
      elim c.if-test.branch [ then-test w ↦ omega (arith, w.sum-is, l.invariant.1) | else-test w ↦ omega (arith, w.sum-is, l.invariant.1) ],
    )

pub returns-clause-sum : goal.returns-clause-sum
returns-clause-sum g c p d = let a = c.args in
    let l = c.loop-x in
    cut_ends (worth p a.points) a.limit l.sum l.x-index a.items.now c.loop-x-test.false ∙ l.invariant.0 p d
