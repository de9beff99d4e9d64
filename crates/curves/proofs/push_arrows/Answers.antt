-- `curves::push_arrows` meets its contract.
use Rattle.std.proofs.Common.{rules, refl, arith, ◌+◌, ◌≤◌, length, map, get_or}
use Rattle.trace.specs.Form.{trace_in}
use Rattle.laws.specs.Lists.{get_d_any}
use Rattle.curves.proofs.Laws.{laid_more, laid_end}
use Rattle.curves.specs.declared.Laid.TheVariants.{LeftOut}
use Rattle.curves.specs.Lay.{is_crossing, crosses}
use Rattle.curves.specs.Counts.{how_many_next, how_many_first}
use Rattle.curves.proofs.push_arrows.Goals as goal

pub loop-i-init : goal.loop-i-init
loop-i-init g c = (omega arith, refl)

pub push_laid-requires : goal.push_laid-requires
push_laid-requires g c = let a = c.args in
    let l = c.loop-i in
    let room : length l.traces + crosses (get_or a.laid.now l.i LeftOut) ≤ g.row.N = omega (arith, l.invariant.0, c.requires.room, how_many_next is_crossing a.laid.now l.i LeftOut c.loop-i-test.true, how_many_first is_crossing a.laid.now (l.i + 1)) in
    search rules

pub loop-i-preserved : goal.loop-i-preserved
loop-i-preserved g c = let a = c.args in
    let l = c.loop-i in (
      omega (arith, l.invariant.0, c.push_laid.ensures.many, how_many_next is_crossing a.laid.now l.i LeftOut c.loop-i-test.true),
      laid_more a.laid.now l.i _ (map trace_in l.traces) _ _ c.loop-i-test.true (get_d_any a.laid.now l.i _ _ c.loop-i-test.true) c.push_laid.ensures.all l.invariant.1,
    )

pub returns-clause-all : goal.returns-clause-all
returns-clause-all g c = let a = c.args in
    let l = c.loop-i in
    laid_end a.laid.now l.i (map trace_in l.traces) _ c.loop-i-test.false l.invariant.1

pub returns-clause-many : goal.returns-clause-many
returns-clause-many g c = let l = c.loop-i in omega (arith, l.invariant.0, how_many_first is_crossing c.args.laid.now l.i)
