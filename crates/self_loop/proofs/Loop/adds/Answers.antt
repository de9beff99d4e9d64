-- `self_loop::Loop::adds` meets its contract.
use Rattle.std.proofs.Common.{◌∙◌, ◌*◌, ap, ℕ, map}
use Rattle.trace.specs.Traces.{trace_of, arrow, near25, crossed}
use Rattle.trace.specs.Form.{trace_in}
use Rattle.self_loop.proofs.Laws.{adds_is, how_many_of, how_many_others}
use Rattle.self_loop.proofs.Loop.adds.Goals as goal

pub returns-clause-adds : goal.returns-clause-adds
returns-clause-adds c = let a = c.args in
    let s = a.scene.now in
    let l = a.self.now in
    let t = trace_in c.of-looped.result in
    adds_is s.states.now (map trace_in s.traces.now) l.edge l.node l.taken.now a.phi (trace_of (arrow l.edge) a.curve) t c.states_add-states.result c.traces_add-crossings.result c.cramped.result c.of-looped.ensures
    (c.states_add-states.ensures.0 ∙ ap (λ (n : ℕ). 10 * n) (how_many_others (near25 t) l.node s.states.now c.requires))
    (c.traces_add-crossings.ensures.0 ∙ ap (λ (n : ℕ). 3 * n) (how_many_of (crossed l.edge t) trace_in s.traces.now))
    c.cramped.ensures.0
