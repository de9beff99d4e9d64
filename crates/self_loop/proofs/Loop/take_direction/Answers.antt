-- `self_loop::Loop::take_direction` meets its contract.
use Rattle.std.proofs.Common.{◌∙◌, ap, arith, ℕ}
use Rattle.scene.specs.Scene.{scene_in}
use Rattle.self_loop.specs.Looped.{loop_in, direction}
use Rattle.self_loop.proofs.Laws.{loop_taken_inside, direction_is}
use Rattle.self_loop.proofs.Loop.take_direction.Goals as goal

pub offset_bounds-listed-first_direction : goal.offset_bounds-listed-first_direction
offset_bounds-listed-first_direction c = let a = c.args in
    let s = scene_in a.scene.now in
    omega (arith, loop_taken_inside s (loop_in s a.self.now) a.listed.now c.first_direction.result c.requires.all c.first_direction.ensures)

pub bounds-listed-first_direction : goal.bounds-listed-first_direction
bounds-listed-first_direction c = let a = c.args in
    let s = scene_in a.scene.now in
    loop_taken_inside s (loop_in s a.self.now) a.listed.now c.first_direction.result c.requires.all c.first_direction.ensures

pub returns : goal.returns
returns c = let a = c.args in
    let s = scene_in a.scene.now in
    let l = loop_in s a.self.now in
    direction_is a.self.now.taken.now a.listed.now c.first_direction.result c.requires.all (loop_taken_inside s l a.listed.now c.first_direction.result c.requires.all c.first_direction.ensures)
    ∙ ap (λ (j : ℕ). direction l j) c.first_direction.ensures
