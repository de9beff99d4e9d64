use Rattle.std.proofs.Common.{◌+◌, ◌*◌, List, ℕ, refl, ap, ◌∙◌, length, ltb, arith}
use Rattle.std.specs.Option.{unwrap_or}
use Rattle.laws.specs.Put.{put}
use Rattle.sheet.specs.Records.{text_bytes}
use Rattle.write_line.specs.Writing.{index_if}
use Rattle.write_line.specs.Writes.{writes_end}
use Rattle.write_line.specs.Cuts.{pieces_none, cuts_fit, cuts_step}
use Rattle.write_line.specs.Lines.{index_is}
use Rattle.write_line.proofs.write_pieces.Goals as goal

pub overflow_add-j : goal.overflow_add-j
overflow_add-j c = let l = c.loop-rest.invariant in
    let f = cuts_fit c.loop-rest.rest.now c.min.result c.min.ensures c.loop-rest-test.true l.writes l.fits in
    omega (arith, f.0)

pub put_piece-requires : goal.put_piece-requires
put_piece-requires c = let l = c.loop-rest.invariant in
    let f = cuts_fit c.loop-rest.rest.now c.min.result c.min.ensures c.loop-rest-test.true l.writes l.fits in
    (omega (arith, c.split_at.ensures.front_len), omega (arith, f.1))

pub overflow_add-j-in-loop-rest : goal.overflow_add-j-in-loop-rest
overflow_add-j-in-loop-rest c = let l = c.loop-rest.invariant in
    let f = cuts_fit c.loop-rest.rest.now c.min.result c.min.ensures c.loop-rest-test.true l.writes l.fits in
    omega (arith, f.0)

pub loop-rest-preserved : goal.loop-rest-preserved
loop-rest-preserved c = let l = c.loop-rest.rest.now in
    let n = c.min.result in
    let e = c.split_at.ensures in
    let next = index_is (ltb 0 (length c.split_at.result.1.now)) (c.loop-rest.j + 1) (unwrap_or c.then_some-next.result 0) c.then_some-next.result c.then_some-next.ensures refl in
    let step = cuts_step l n c.min.ensures c.loop-rest-test.true c.loop-rest.invariant.writes
    (next ∙ ap (λ (r : List ℕ). index_if (ltb 0 (length r)) (c.loop-rest.j + 1)) e.back)
    (c.put_piece.ensures ∙ ap (λ (p : List ℕ). put c.loop-rest.out (16 * c.loop-rest.j) (text_bytes (unwrap_or c.then_some-next.result 0) p)) e.front) in
    record {
      writes = rw e.back step;
      fits = c.loop-rest.invariant.fits;
    }

pub returns : goal.returns
returns c = writes_end c.loop-rest.invariant.writes (pieces_none c.loop-rest.rest.now c.loop-rest-test.false)
