use Rattle.std.proofs.Common.{Bool, ap, ◌∙◌}
use Rattle.sheet.specs.Sheet.{chain, arrow_of, arrows_of}
use Rattle.encode.specs.Kinds.{arrow_form}
use Rattle.write_line.specs.Writing.{index_if}
use Rattle.write_sheet.specs.Sheets.{long_arrow}
use Rattle.write_sheet.specs.Chained.{follows_start, follows_end, follows_good, follows_fit, follows_step}
use Rattle.write_sheet.proofs.write_arrows.Goals as goal

pub loop-i-init : goal.loop-i-init
unfolding arrows_of
loop-i-init c = let a = c.args in
    follows_start arrow_form long_arrow (arrow_of a.s.now) a.out.now a.k (c.new-arrows.ensures.list ∙ ap (chain a.s.now) c.word_at.ensures) c.requires.0

pub write_arrow-at-requires : goal.write_arrow-at-requires
write_arrow-at-requires c = let s = c.args.s.now in
    let l = c.loop-i in
    let e = c.in-Some.ensures.steps in
    let f = follows_fit arrow_form long_arrow (arrow_of s) l.invariant e (c.requires.1, c.requires.2) in
    (follows_good arrow_form long_arrow (arrow_of s) l.invariant e, f.0, f.1)

pub loop-i-preserved : goal.loop-i-preserved
loop-i-preserved c = let s = c.args.s.now in
    let w = c.write_arrow-at in
    follows_step arrow_form long_arrow (arrow_of s) c.loop-i.invariant c.in-Some.ensures.steps w.ensures.1 (ap (λ (b : Bool). index_if b w.result) c.goes_on.ensures) w.ensures.0

pub returns : goal.returns
returns c = (follows_end arrow_form long_arrow (arrow_of c.args.s.now) c.loop-i.invariant c.in_default.ensures.steps.0).0
