-- `self_loop::Loop::cost` meets its contract.
use Rattle.std.proofs.Common.{◌∙◌, ap}
use Rattle.laws.specs.Lists.{get_d_any}
use Rattle.float.specs.Constants.{f0}
use Rattle.shape.specs.declared.«V».{«V»}
use Rattle.shape.specs.Plane.{vec}
use Rattle.scene.specs.Scene.{scene_in}
use Rattle.self_loop.specs.Looped.{loop_in, loop_at}
use Rattle.self_loop.proofs.Laws.{cost_is}
use Rattle.self_loop.proofs.Loop.cost.Goals as goal

pub returns : goal.returns
returns c = let a = c.args in
    let s = scene_in a.scene.now in
    let l = a.self.now in
    cost_is s (loop_in s l) a.phi c.drawn-g.result c.box_cost.result c.adds.result
    (c.drawn-g.ensures ∙ ap (λ (v : «V»). loop_at l.edge v l.width l.height a.phi) (get_d_any a.scene.now.states.now l.node _ (vec f0 f0) c.requires))
    c.box_cost.ensures.cost
    c.adds.ensures.adds
