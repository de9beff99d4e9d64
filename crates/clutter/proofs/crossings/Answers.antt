-- `clutter::crossings` meets its contract.
use Rattle.std.proofs.Common.{◌∙◌, arith, refl, get_or, ap, ◌+◌}
use Rattle.std.specs.List.{count_by}
use Rattle.trace.specs.Traces.{crosses}
use Rattle.trace.specs.Form.{trace_in}
use Rattle.std.proofs.lemmas.List.{take_rest}
use Rattle.clutter.proofs.Laws.{no_trace, crossings-step, crossings-end}
use Rattle.clutter.proofs.crossings.Goals as goal

pub loop-i-preserved : goal.loop-i-preserved
loop-i-preserved c = let a = c.args in
    let l = c.loop-i in (
      crossings-step a.traces.now l.i (get_or a.traces.now l.i no_trace) no_trace c.crossed-sum.result l.sum c.loop-i-test.true (c.crossed-sum.ensures.0 ∙ ap (count_by (λ o. crosses (trace_in (get_or a.traces.now l.i no_trace)) (trace_in o))) (take_rest a.traces.now (l.i + 1))) refl ∙ l.invariant.0,
      omega (arith, c.crossed-sum.ensures.1, l.invariant.1, c.requires, c.loop-i-test.true),
    )

pub returns : goal.returns
returns c = let l = c.loop-i in (crossings-end c.args.traces.now l.i l.sum c.loop-i-test.false ∙ l.invariant.0, omega (arith, l.invariant.1, c.requires))
