use Rattle.std.proofs.Common.{rules, ap, ◌∙◌}
use mathlib.Core.List.{flat_map}
use Rattle.sheet.specs.Sheet.{chain, met_alone, met_line, met_arrow, line_chain}
use Rattle.sheet_check.specs.Walk.{walked, walk}
use Rattle.sheet_check.proofs.Laws.{then_bad, then_on}
use Rattle.sheet_check.proofs.visit_arrow.Goals as goal

pub returns-then-meet : goal.returns-then-meet
unfolding met_arrow
returns-then-meet c = let s = c.args.s.now in
    then_on s (met_alone 2 c.args.i) (flat_map (met_line s) (line_chain s c.args.i)) c.args.marks.now c.meet.new.marks c.meet.result c.meet.ensures
    (walked c.walk.result c.walk.new.marks) c.if-meet.true
    (c.walk.ensures s (met_line s) (λ k before ok after h. search rules)
    ∙ ap (λ l. walk s (flat_map (met_line s) l) c.meet.new.marks) (c.new.ensures.list ∙ ap (chain s) c.first_line_at.ensures))

pub returns-else-meet : goal.returns-else-meet
unfolding met_arrow
returns-else-meet c = then_bad c.args.s.now (met_alone 2 c.args.i) (flat_map (met_line c.args.s.now) (line_chain c.args.s.now c.args.i)) c.args.marks.now c.meet.new.marks c.meet.result c.meet.ensures c.if-meet.false
