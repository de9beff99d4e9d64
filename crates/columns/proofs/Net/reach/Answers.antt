-- `columns::Net::reach` meets its contract.
use Rattle.std.proofs.Common.{refl, arith, ◌-◌}
use Rattle.columns.proofs.Laws.{search_begin, search_stop, search_step, search_all}
use Rattle.columns.proofs.Net.reach.Goals as goal

pub loop-init : goal.loop-init
loop-init g c = let a = c.args in
    search_begin a.self.now.states a.self.now.arrows.now a.start _ _ c.push.new.self c.push-2.new.self c.requires.state
    c.requires.none c.new-sizes.ensures c.push.ensures c.push-2.ensures

pub loop-preserved : goal.loop-preserved
loop-preserved g c = let a = c.args in
    let l = c.loop in
    let n = a.self.now.states in
    search_step n a.self.now.arrows.now a.start l.found c.explore.new.found l.sizes l.low (n - l.counter) l.invariant
    c.explore.ensures _ _ c.len-high.ensures.all c.len.ensures.all
    c.push-in-loop.new.self l.counter refl c.loop-test.true c.if-new-eq0.false c.push-in-loop.ensures

pub returns-then-new-eq0 : goal.returns-then-new-eq0
returns-then-new-eq0 g c = let a = c.args in
    let l = c.loop in
    let n = a.self.now.states in
    search_stop n a.self.now.arrows.now a.start l.found c.explore.new.found l.sizes l.low (n - l.counter) l.invariant
    c.explore.ensures _ _ c.len-high.ensures.all c.len.ensures.all c.if-new-eq0.true

pub returns-after-loop : goal.returns-after-loop
returns-after-loop g c = let a = c.args in
    let l = c.loop in
    let n = a.self.now.states in
    search_all n a.self.now.arrows.now a.start l.found l.sizes l.low (n - l.counter) l.invariant (omega (arith, c.loop-test.false))
