use Rattle.std.proofs.Common.{◌+◌, ◌≤◌, ℕ, ap, ◌∙◌, length, arith}
use Rattle.sheet.specs.Sheet.{line_of, lines_from}
use Rattle.sheet.specs.Refusals.{long_line}
use Rattle.reader.specs.Reading.{chain_rest}
use Rattle.encode.specs.Encode.{line_size}
use Rattle.write_sheet.specs.Chained.{sums_start, sums_end, sums_good, sums_step}
use Rattle.write_sheet.specs.Arrows.{line-short}
use Rattle.write_sheet.proofs.lines_size.Goals as goal

pub loop-i-init : goal.loop-i-init
unfolding lines_from
loop-i-init c =
    let e = ap chain_rest c.into_iter-i-iterator.ensures.into_iter_gives in
    let short : length (chain_rest c.into_iter-i-iterator.result) ≤ 65536 = rw e c.new-i-items.ensures.short in
    record { sums = sums_start line_size long_line (line_of c.args.s.now) (e ∙ c.new-i-items.ensures.list) c.requires; few = omega arith }

pub line_size-n-requires : goal.line_size-n-requires
line_size-n-requires c = line-short (line_of c.args.s.now c.in-Some.i) (sums_good line_size long_line (line_of c.args.s.now) c.loop-i.invariant.sums c.in-Some.ensures.steps)

pub loop-i-preserved : goal.loop-i-preserved
loop-i-preserved c = record {
  sums = sums_step line_size long_line (line_of c.args.s.now) c.loop-i.invariant.sums c.in-Some.ensures.steps (ap (λ (z : ℕ). c.loop-i.n + z) c.line_size-n.ensures.0);
  few = omega (arith, c.loop-i.invariant.few, c.line_size-n.ensures.1, ap length c.in-Some.ensures.steps);
}

pub returns : goal.returns
returns c = (sums_end line_size long_line (line_of c.args.s.now) c.loop-i.invariant.sums c.in-None.ensures.steps.0, omega (arith, c.loop-i.invariant.few))
