use Rattle.std.proofs.Common.{◌+◌, ℕ, List, length, drop, sym, ap, ◌∙◌, arith}
use Rattle.float.specs.Standins.{max}
use lib.Ieee.{Float}
use Rattle.label.specs.declared.Measure.{Measure}
use Rattle.refusal.specs.Refused.{values}
use Rattle.label.specs.Label.{block_height, cut}
use Rattle.label.specs.Measuring.{measure_all, measure_start, lines_size}
use Rattle.label.proofs.Laws.{line_ill, line_well, lines_end, total-at}
use Rattle.label.proofs.lines_size.Goals as goal

pub split_at-requires : goal.split_at-requires
split_at-requires c = omega (arith, total-at 0 0 c.args.lengths.now c.loop-n.n-index (omega arith))

pub returns-then-not-is_whole : goal.returns-then-not-is_whole
returns-then-not-is_whole c =
    let lengths = c.args.lengths.now in
    let h = block_height (length lengths) in
    let e = c.measure_part-m.ensures ∙ ap (λ (m : Measure). measure_all m c.split_at.result.0.now) c.measure_start.ensures ∙ ap (measure_all measure_start) c.split_at.ensures.front in
    line_ill h c.loop-n.width c.loop-n.rest.now lengths c.loop-n.n-index (omega arith) c.measure_part-m.result e (sym c.is_whole.ensures ∙ c.if-not-is_whole.true) ∙ c.loop-n.invariant.size

pub loop-n-preserved : goal.loop-n-preserved
loop-n-preserved c =
    let lengths = c.args.lengths.now in
    let h = block_height (length lengths) in
    let e = c.measure_part-m.ensures ∙ ap (λ (m : Measure). measure_all m c.split_at.result.0.now) c.measure_start.ensures ∙ ap (measure_all measure_start) c.split_at.ensures.front in
    record {
      within = omega (arith, total-at 0 0 lengths c.loop-n.n-index (omega arith), c.split_at.ensures.back_len);
      size =
          ap (λ (w : Float). lines_size h w (cut c.split_at.result.1.now (drop (c.loop-n.n-index + 1) lengths))) c.max-width.ensures
          ∙ ap (λ (l : List ℕ). lines_size h (max c.loop-n.width c.measure_part-m.result.width) (cut l (drop (c.loop-n.n-index + 1) lengths))) c.split_at.ensures.back
          ∙ line_well h c.loop-n.width c.loop-n.rest.now lengths c.loop-n.n-index (omega arith) c.measure_part-m.result e (sym c.is_whole.ensures ∙ c.if-not-is_whole.false)
          ∙ c.loop-n.invariant.size;
    }

pub returns : goal.returns
returns c =
    ap (λ (h : Float). values (c.loop-n.width, h)) c.block_height.ensures
    ∙ lines_end (block_height (length c.args.lengths.now)) c.loop-n.width c.loop-n.rest.now c.args.lengths.now c.loop-n.n-index (omega arith)
    ∙ c.loop-n.invariant.size
