-- `self_loop::Loop::first_direction` meets its contract.
use Rattle.std.proofs.Common.{◌≡◌, ◌∙◌, ap, arith, rules, tests, get_or}
use Rattle.std.proofs.lemmas.List.{length-map}
use lib.Ieee.{nan}
use Rattle.trace.specs.Form.{trace_in}
use Rattle.scene.specs.Scene.{scene_in}
use Rattle.self_loop.specs.Looped.{loop_in, loop_cost, direction_cost}
use Rattle.self_loop.proofs.Laws.{loop_early_is, direction_is}
use Rattle.self_loop.proofs.Loop.first_direction.Goals as goal

pub returns : goal.returns
returns c = let a = c.args in
    let s = scene_in a.scene.now in
    let l = loop_in s a.self.now in
    c.first_least.ensures (λ m j. direction_cost s l j)
    (λ m j r h k q.
    let one : r ≡ loop_cost s l (get_or a.listed.now j nan) = search (rules, tests) in
    one ∙ ap (loop_cost s l) (direction_is a.self.now.taken.now a.listed.now j c.requires.all k))
    ∙ loop_early_is s l a.listed.now 18446744073709551615 (omega (arith, length-map a.scene.now.traces.now trace_in)) c.requires.all
