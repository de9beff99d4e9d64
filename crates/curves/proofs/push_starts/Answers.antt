-- `curves::push_starts` meets its contract.
use Rattle.std.proofs.Common.{rules, refl, sym, ap, ◌∙◌, arith, ◌++◌, ◌<◌, length, map, get_or, [], ◌∷◌}
use Rattle.trace.specs.Form.{trace_in}
use Rattle.laws.specs.Lists.{get_d_any}
use Rattle.shape.specs.declared.«V».{«V»}
use Rattle.routing.specs.Routing.{start_traces}
use Rattle.curves.proofs.Laws.{starts_more, starts_end}
use Rattle.curves.proofs.push_starts.Goals as goal

pub loop-k-init : goal.loop-k-init
loop-k-init g c = (omega arith, refl)

pub push_start-requires : goal.push_start-requires
push_start-requires g c = let l = c.loop-k in
    let room : length l.traces < g.row.N = omega (arith, l.invariant.0, c.requires.room, c.loop-k-test.true) in
    search rules

pub loop-k-preserved : goal.loop-k-preserved
loop-k-preserved g c = let a = c.args in
    let l = c.loop-k in (
      omega (arith, l.invariant.0, c.push_start.ensures.many),
      starts_more a.flags.now a.centres.now l.k (map trace_in l.traces) _ _ (sym c.requires.level) (omega (arith, c.requires.level, c.loop-k-test.true))
          (c.push_start.ensures.all ∙ ap (λ (v : «V»). map trace_in l.traces ++ start_traces (get_or a.flags.now l.k 0 ∷ []) (v ∷ [])) (get_d_any a.centres.now l.k _ _ c.loop-k-test.true)) l.invariant.1,
    )

pub returns-clause-all : goal.returns-clause-all
returns-clause-all g c = let a = c.args in
    let l = c.loop-k in
    starts_end a.flags.now a.centres.now l.k (map trace_in l.traces) _ (omega (arith, c.requires.level, c.loop-k-test.false)) l.invariant.1

pub returns-clause-many : goal.returns-clause-many
returns-clause-many g c = let l = c.loop-k in omega (arith, l.invariant.0, c.loop-k.auto.k-end)
