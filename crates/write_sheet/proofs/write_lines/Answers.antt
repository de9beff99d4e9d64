use Rattle.std.proofs.Common.{Bool, ap}
use Rattle.sheet.specs.Sheet.{line_of, lines_from}
use Rattle.sheet.specs.Refusals.{long_line}
use Rattle.encode.specs.Kinds.{line_form}
use Rattle.write_line.specs.Writing.{index_if}
use Rattle.write_sheet.specs.Chained.{follows_start, follows_end, follows_good, follows_fit, follows_step}
use Rattle.write_sheet.specs.Arrows.{line-short}
use Rattle.write_sheet.proofs.write_lines.Goals as goal

pub loop-i-init : goal.loop-i-init
unfolding lines_from
loop-i-init c = let a = c.args in follows_start line_form long_line (line_of a.s.now) a.out.now a.k c.new-lines.ensures.list c.requires.0

pub write_line-at-requires : goal.write_line-at-requires
write_line-at-requires c = let s = c.args.s.now in
    let l = c.loop-i in
    let e = c.in-Some.ensures.steps in
    let f = follows_fit line_form long_line (line_of s) l.invariant e (c.requires.1, c.requires.2) in
    (line-short (line_of s c.in-Some.i) (follows_good line_form long_line (line_of s) l.invariant e), f.0, f.1)

pub loop-i-preserved : goal.loop-i-preserved
loop-i-preserved c = let s = c.args.s.now in
    let w = c.write_line-at in
    follows_step line_form long_line (line_of s) c.loop-i.invariant c.in-Some.ensures.steps w.ensures.1 (ap (λ (b : Bool). index_if b w.result) c.goes_on.ensures) w.ensures.0

pub returns : goal.returns
returns c = follows_end line_form long_line (line_of c.args.s.now) c.loop-i.invariant c.in_default.ensures.steps.0
