use Rattle.std.proofs.Common.{◌≡◌, ◌+◌, ◌≤◌, ap, ◌∙◌, length, arith}
use Rattle.sheet.specs.Sheet.{chain, lines_from, arrow_of, arrows_of}
use Rattle.reader.specs.Reading.{chain_rest}
use Rattle.encode.specs.Encode.{space_of, line_size, arrow_size}
use Rattle.write_sheet.specs.Sheets.{long_arrow}
use Rattle.write_sheet.specs.Chained.{sums_start, sums_end, sums_good, sums_step}
use Rattle.write_sheet.specs.Arrows.{lines_short, arrow_space}
use Rattle.write_sheet.proofs.arrows_size.Goals as goal

pub loop-i-init : goal.loop-i-init
unfolding arrows_of
loop-i-init c =
    let e = ap chain_rest c.into_iter-i-iterator.ensures.into_iter_gives in
    let short : length (chain_rest c.into_iter-i-iterator.result) ≤ 65536 = rw e c.new-i-items.ensures.short in
    record {
      sums = sums_start arrow_size long_arrow (arrow_of c.args.s.now) (e ∙ c.new-i-items.ensures.list ∙ ap (chain c.args.s.now) c.word_at.ensures) c.requires;
      few = omega arith;
    }

pub lines_size-requires : goal.lines_size-requires
lines_size-requires c = lines_short c.args.s.now c.in-Some.i _ c.first_line_at.ensures (sums_good arrow_size long_arrow (arrow_of c.args.s.now) c.loop-i.invariant.sums c.in-Some.ensures.steps)

pub loop-i-preserved : goal.loop-i-preserved
loop-i-preserved c =
    let s = c.args.s.now in
    let a : arrow_size (arrow_of s c.in-Some.i) ≡ 1 + space_of line_size (lines_from s c.first_line_at.result) = arrow_space s c.in-Some.i _ c.first_line_at.ensures in
    let z : c.lines_size.result ≡ space_of line_size (lines_from s c.first_line_at.result) = c.lines_size.ensures.0 in
    record {
      sums = sums_step arrow_size long_arrow (arrow_of s) c.loop-i.invariant.sums c.in-Some.ensures.steps (omega arith);
      few = omega (arith, c.loop-i.invariant.few, c.lines_size.ensures.1, ap length c.in-Some.ensures.steps);
    }

pub returns : goal.returns
returns c = (sums_end arrow_size long_arrow (arrow_of c.args.s.now) c.loop-i.invariant.sums c.in-None.ensures.steps.0, omega (arith, c.loop-i.invariant.few))
