-- `scene::Scene::take_spot` meets its contract.
use Rattle.std.proofs.Common.{rules, tests, ◌∙◌, arith}
use Rattle.std.proofs.lemmas.List.{length-map}
use Rattle.trace.specs.Form.{trace_in}
use Rattle.scene.specs.Scene.{scene_in}
use Rattle.scene.specs.Turn.{box_at}
use Rattle.scene.specs.Cut.{cut_cost}
use Rattle.scene.proofs.Laws.{early_is, count_is}
use Rattle.scene.proofs.Scene.take_spot.Goals as goal

pub returns : goal.returns
unfolding box_at
returns c = let a = c.args in
    c.first_least.ensures (λ m j. cut_cost (scene_in a.self.now) a.t.edge m (box_at a.t j)) (λ m j r h k q. search (rules, tests))
    ∙ early_is (scene_in a.self.now) 18446744073709551615 (omega (arith, length-map a.self.now.traces.now trace_in)) a.t c.spot_count-places.result (count_is a.t c.spot_count-places.result c.spot_count-places.ensures)
