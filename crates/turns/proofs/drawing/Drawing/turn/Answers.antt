-- `turns::Drawing::turn` meets its contract.
use Rattle.std.proofs.Common.{rules, sym, ap, ◌∙◌, arith, ◌<◌, length}
use Rattle.curves.specs.Lay.{frame_in}
use Rattle.std.proofs.lemmas.List.{length-map}
use Rattle.scene.specs.Turn.{placed_arrow}
use Rattle.self_loop.specs.Looped.{looped}
use Rattle.routing.specs.Routing.{loop_turn, turn_of, numbered_at}
use Rattle.curves.specs.Lay.{laid_by}
use Rattle.turns.specs.Steps.{scene_in, drawn_in, turned_as}
use Rattle.turns.proofs.Laws.{laid_at, loop_state, looped-edge, placed-edge, added_drawn, loop_added, label_added}
use Rattle.turns.proofs.drawing.Drawing.turn.Goals as goal

pub loop_of-g-requires : goal.loop_of-g-requires
loop_of-g-requires g c = let a = c.args in
    let f = frame_in a.laying.now.frame in
    let k : a.i < length a.laying.now.laid.now = omega (arith, ap length a.laying.now.all, length-map f.arrows (laid_by f), c.requires.arrow.0) in
    let s = loop_state f a.i (sym (laid_at f a.i a.laying.now.laid.now _ a.laying.now.all c.requires.arrow.0 k) ∙ c.in-Loop.is) in
    let state : (numbered_at f a.i).ends.source < length a.laying.now.frame.centres.now = omega (arith, s, a.laying.now.frame.level) in
    search rules

pub returns-in-Loop-clause-turned : goal.returns-in-Loop-clause-turned
returns-in-Loop-clause-turned g c = let a = c.args in
    let f = frame_in a.laying.now.frame in
    let k : a.i < length a.laying.now.laid.now = omega (arith, ap length a.laying.now.all, length-map f.arrows (laid_by f), c.requires.arrow.0) in
    let held = sym (laid_at f a.i a.laying.now.laid.now _ a.laying.now.all c.requires.arrow.0 k) ∙ c.in-Loop.is in
    added_drawn f c.add.ensures
    ∙ loop_added f.centres a.self.now.boxes.now a.self.now.drawn.now a.i c.loop_of-g.result (looped (scene_in f a.self.now) (loop_turn f (numbered_at f a.i) a.size)) c.loop_of-g.ensures
    (looped-edge (scene_in f a.self.now) (loop_turn f (numbered_at f a.i) a.size)) a.self.now.traces.now c.push.new.self c.of.result c.push.ensures c.of.ensures
    ∙ sym (ap (turned_as f a.size a.i (drawn_in f a.self.now)) held)

pub returns-in-Between-clause-turned : goal.returns-in-Between-clause-turned
returns-in-Between-clause-turned g c = let a = c.args in
    let f = frame_in a.laying.now.frame in
    let k : a.i < length a.laying.now.laid.now = omega (arith, ap length a.laying.now.all, length-map f.arrows (laid_by f), c.requires.arrow.0) in
    let held = sym (laid_at f a.i a.laying.now.laid.now _ a.laying.now.all c.requires.arrow.0 k) ∙ c.in-Between.is in
    let turn = turn_of a.i c.in-Between.c.routed a.size in
    added_drawn f c.add-in-Between.ensures
    ∙ label_added f.centres a.self.now.boxes.now a.self.now.drawn.now a.i c.label_of-g.result (placed_arrow (scene_in f a.self.now) turn) c.label_of-g.ensures
    (placed-edge (scene_in f a.self.now) turn) (scene_in f a.self.now).traces
    ∙ sym (ap (turned_as f a.size a.i (drawn_in f a.self.now)) held)
