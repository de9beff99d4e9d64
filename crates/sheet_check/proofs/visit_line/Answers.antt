use Rattle.std.proofs.Common.{ap, ◌∙◌, ℕ}
use mathlib.Core.List.{flat_map}
use Rattle.sheet.specs.Sheet.{chain, met_alone, met_line, text_chain}
use Rattle.sheet_check.specs.Walk.{walked, walk}
use Rattle.sheet_check.proofs.Laws.{then_bad, then_on}
use Rattle.sheet_check.proofs.visit_line.Goals as goal

pub returns-then-meet : goal.returns-then-meet
unfolding met_line
returns-then-meet c = let s = c.args.s.now in
    then_on s (met_alone 3 c.args.i) (flat_map (met_alone 4) (text_chain s c.args.i)) c.args.marks.now c.meet.new.marks c.meet.result c.meet.ensures
    (walked c.walk_alone.result c.walk_alone.new.marks) c.if-meet.true
    (c.walk_alone.ensures ∙ ap (λ (j : ℕ). walk s (flat_map (met_alone 4) (chain s j)) c.meet.new.marks) c.first_text_at.ensures)

pub returns-else-meet : goal.returns-else-meet
unfolding met_line
returns-else-meet c = then_bad c.args.s.now (met_alone 3 c.args.i) (flat_map (met_alone 4) (text_chain c.args.s.now c.args.i)) c.args.marks.now c.meet.new.marks c.meet.result c.meet.ensures c.if-meet.false
