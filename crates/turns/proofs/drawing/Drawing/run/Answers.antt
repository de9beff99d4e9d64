-- `turns::Drawing::run` meets its contract.
use Rattle.std.proofs.Common.{rules, ap, ◌∙◌, arith, ◌≡◌, length}
use Rattle.std.proofs.lemmas.List.{length-map}
use Rattle.curves.specs.Lay.{frame_in, laid_by}
use Rattle.turns.proofs.Laws.{all_sorts}
use Rattle.turns.proofs.drawing.Drawing.run.Goals as goal

pub pass-requires : goal.pass-requires
pass-requires g c = let l = c.args.laying.now in
    let n : length l.laid.now ≡ length l.frame.arrows.now = ap length l.all ∙ length-map l.frame.arrows.now (laid_by (frame_in l.frame)) in
    let sorts = all_sorts l.laid.now in
    (search rules, (search rules, (omega (arith, n, sorts, c.requires.room.0), omega (arith, c.requires.room.1))))

-- No pass is named: there is room for each after those before it.
pub pass-requires-2 : goal.pass-requires-2
pass-requires-2 g c = let l = c.args.laying.now in
    let n : length l.laid.now ≡ length l.frame.arrows.now = ap length l.all ∙ length-map l.frame.arrows.now (laid_by (frame_in l.frame)) in
    let sorts = all_sorts l.laid.now in
    let first = c.pass.ensures.many in
    (search rules, (search rules, (omega (arith, n, sorts, c.requires.room.0, first.boxes), omega (arith, c.requires.room.1, first.traces))))

pub pass-requires-3 : goal.pass-requires-3
pass-requires-3 g c = let l = c.args.laying.now in
    let n : length l.laid.now ≡ length l.frame.arrows.now = ap length l.all ∙ length-map l.frame.arrows.now (laid_by (frame_in l.frame)) in
    let sorts = all_sorts l.laid.now in
    let first = c.pass.ensures.many in
    let second = c.pass-2.ensures.many in
    (search rules, (search rules, (omega (arith, n, sorts, c.requires.room.0, first.boxes, second.boxes), omega (arith, c.requires.room.1, first.traces, second.traces))))
