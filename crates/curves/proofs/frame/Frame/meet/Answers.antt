-- `curves::Frame::meet` meets its contract.
use Rattle.std.proofs.Common.{refl, arith, ◌<◌, length}
use Rattle.laws.specs.Lists.{get_d_any}
use Rattle.curves.proofs.Laws.{met_more, met_end}
use Rattle.curves.proofs.frame.Frame.meet.Goals as goal

pub loop-i-init : goal.loop-i-init
loop-i-init c = (omega arith, refl)

pub push_met-requires : goal.push_met-requires
push_met-requires c = let l = c.loop-i in omega (arith, l.invariant.0, c.requires.room, c.loop-i-test.true)

pub loop-i-preserved : goal.loop-i-preserved
loop-i-preserved c = let a = c.args in
    let l = c.loop-i in
    let h : l.i < length a.self.now.arrows.now = omega (arith, c.requires.one_each, c.loop-i-test.true) in (
      omega (arith, l.invariant.0, c.push_met.ensures.many),
      met_more a.k a.self.now.arrows.now a.laid.now l.i _ _ l.angles _ _ h c.loop-i-test.true (get_d_any a.self.now.arrows.now l.i _ _ h) (get_d_any a.laid.now l.i _ _ c.loop-i-test.true)
          c.push_met.ensures.all l.invariant.1,
    )

pub returns-clause-all : goal.returns-clause-all
returns-clause-all c = let a = c.args in
    let l = c.loop-i in
    met_end a.k a.self.now.arrows.now a.laid.now l.i l.angles _ (omega (arith, c.requires.one_each, c.loop-i-test.false)) l.invariant.1

pub returns-clause-many : goal.returns-clause-many
returns-clause-many c = let l = c.loop-i in omega (arith, l.invariant.0, c.loop-i.auto.i-end)
