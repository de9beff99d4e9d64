-- `scene::Scene::cut_cost` meets its contract.
use Rattle.std.proofs.Common.{rules, tests, ◌∙◌, ◌*◌, ap, sym, ℕ, List}
use Rattle.laws.specs.Best.{cut_total}
use Rattle.laws.specs.Chains.{how_many_list}
use Rattle.trace.specs.Traces.{struck}
use Rattle.trace.specs.Form.{trace_in}
use Rattle.scene.specs.Scene.{near26, overlapping, scene_in}
use Rattle.scene.specs.Cut.{cut_is}
use Rattle.scene.proofs.Laws.{worth_map}
use Rattle.scene.proofs.Scene.cut_cost.Goals as goal

pub returns-clause-cost : goal.returns-clause-cost
returns-clause-cost c = let a = c.args in
    let far = c.apart-far.result in
    let wide = c.grown-wide.result in
    let more = c.cut_count-more.result in
    cut_is (scene_in a.self.now) a.own a.limit a.b far wide c.states_cost-states.result more c.cut_count.result
    c.apart-far.ensures
    c.grown-wide.ensures
    (c.states_cost-states.ensures.0 ∙ ap (λ (n : ℕ). 10 * n) (sym (how_many_list (near26 a.b) a.self.now.states.now)))
    (c.cut_count-more.ensures.sum (overlapping far) (λ x r q. search (rules, tests)))
    (c.cut_count.ensures.sum (λ t. struck a.own wide (trace_in t)) (λ x r q. search (rules, tests))
    ∙ ap (λ (l : List ℕ). cut_total a.limit more l) (worth_map (struck a.own wide) trace_in 3 a.self.now.traces.now))
