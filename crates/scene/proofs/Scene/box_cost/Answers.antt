-- `scene::Scene::box_cost` meets its contract.
use Rattle.std.proofs.Common.{arith}
use Rattle.std.proofs.lemmas.List.{length-map}
use Rattle.trace.specs.Form.{trace_in}
use Rattle.scene.specs.Scene.{scene_in}
use Rattle.scene.proofs.Laws.{full_is}
use Rattle.scene.proofs.Scene.box_cost.Goals as goal

pub returns-clause-cost : goal.returns-clause-cost
returns-clause-cost c = let a = c.args in
    full_is (scene_in a.self.now) 18446744073709551615 (omega (arith, length-map a.self.now.traces.now trace_in)) a.own a.b c.cut_cost.result c.cut_cost.ensures.cost
