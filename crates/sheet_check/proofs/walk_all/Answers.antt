use Rattle.std.proofs.Common.{rules, ap, ◌∙◌, ℕ}
use mathlib.Core.List.{flat_map}
use Rattle.sheet.specs.Sheet.{chain, met, met_alone, met_arrow, state_chain, arrow_chain}
use Rattle.sheet_check.specs.Walk.{walked, walk}
use Rattle.sheet_check.proofs.Laws.{then_bad, then_on}
use Rattle.sheet_check.proofs.walk_all.Goals as goal

pub returns-then-walk_alone : goal.returns-then-walk_alone
unfolding met
returns-then-walk_alone c = let s = c.args.s.now in
    then_on s (flat_map (met_alone 1) (state_chain s)) (flat_map (met_arrow s) (arrow_chain s)) c.args.marks.now c.walk_alone.new.marks c.walk_alone.result
    (c.walk_alone.ensures ∙ ap (λ (j : ℕ). walk s (flat_map (met_alone 1) (chain s j)) c.args.marks.now) c.word_at.ensures)
    (walked c.walk.result c.walk.new.marks) c.if-walk_alone.true
    (c.walk.ensures s (met_arrow s) (λ k before ok after h. search rules)
    ∙ ap (λ l. walk s (flat_map (met_arrow s) l) c.walk_alone.new.marks) (c.new.ensures.list ∙ ap (chain s) c.word_at-then-walk_alone.ensures))

pub returns-else-walk_alone : goal.returns-else-walk_alone
unfolding met
returns-else-walk_alone c = let s = c.args.s.now in
    then_bad s (flat_map (met_alone 1) (state_chain s)) (flat_map (met_arrow s) (arrow_chain s)) c.args.marks.now c.walk_alone.new.marks c.walk_alone.result
    (c.walk_alone.ensures ∙ ap (λ (j : ℕ). walk s (flat_map (met_alone 1) (chain s j)) c.args.marks.now) c.word_at.ensures) c.if-walk_alone.false
