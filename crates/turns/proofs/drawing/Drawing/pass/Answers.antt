-- `turns::Drawing::pass` meets its contract.
use Rattle.std.proofs.Common.{rules, ap, arith, ◌+◌, ◌<◌, ◌≤◌, length}
use Rattle.std.proofs.lemmas.List.{length-map}
use Rattle.curves.specs.Lay.{frame_in, laid_by}
use Rattle.turns.specs.Steps.{drawn_in, pass_of, one_at, more}
use Rattle.turns.proofs.Laws.{pass_more, pass_end, pass_all, many_next, many_first, more_next, more_le}
use Rattle.turns.proofs.drawing.Drawing.pass.Goals as goal

pub loop-i-init : goal.loop-i-init
loop-i-init g c = let a = c.args in
    let f = frame_in a.laying.now.frame in
    (record { boxes = omega arith; traces = omega arith }, pass_all f a.sizes.now (pass_of a.sort) (drawn_in f a.self.now))

pub turn_at-requires : goal.turn_at-requires
turn_at-requires g c = let a = c.args in
    let l = c.loop-i in
    let h : l.i < length a.laying.now.laid.now = omega (arith, ap length a.laying.now.all, length-map a.laying.now.frame.arrows.now (laid_by (frame_in a.laying.now.frame)), c.loop-i-test.true) in
    let many = many_first a.sort a.laying.now.laid.now (l.i + 1) in
    let boxes : length l.self.boxes.now + one_at a.sort a.laying.now.laid.now l.i ≤ g.row.ARROWS = omega (arith, l.invariant.0.boxes, c.requires.room.0, many_next a.sort a.laying.now.laid.now l.i h, many) in
    let traces : length l.self.traces.now + more a.sort (one_at a.sort a.laying.now.laid.now l.i) ≤ g.row.TRACES = omega (arith, l.invariant.0.traces, c.requires.room.1, more_next a.sort a.laying.now.laid.now l.i h, more_le a.sort _ _ many) in
    search rules

pub loop-i-preserved : goal.loop-i-preserved
loop-i-preserved g c = let a = c.args in
    let l = c.loop-i in
    let f = frame_in a.laying.now.frame in
    let h : l.i < length a.laying.now.laid.now = omega (arith, ap length a.laying.now.all, length-map f.arrows (laid_by f), c.loop-i-test.true) in
    let m = c.turn_at.ensures.many in (
      record {
        boxes = omega (arith, l.invariant.0.boxes, m.boxes, many_next a.sort a.laying.now.laid.now l.i h);
        traces = omega (arith, l.invariant.0.traces, m.traces, more_next a.sort a.laying.now.laid.now l.i h);
      },
      pass_more f a.sizes.now (pass_of a.sort) l.i _ _ _ (omega (arith, c.loop-i-test.true)) c.turn_at.ensures.turned l.invariant.1,
    )

pub returns-clause-passed : goal.returns-clause-passed
returns-clause-passed g c = let a = c.args in
    let l = c.loop-i in
    let f = frame_in a.laying.now.frame in
    pass_end f a.sizes.now (pass_of a.sort) l.i _ _ (omega (arith, c.loop-i-test.false)) l.invariant.1

pub returns-clause-many : goal.returns-clause-many
returns-clause-many g c = let a = c.args in
    let l = c.loop-i in
    let many = many_first a.sort a.laying.now.laid.now l.i in
    record { boxes = omega (arith, l.invariant.0.boxes, many); traces = omega (arith, l.invariant.0.traces, more_le a.sort _ _ many) }
