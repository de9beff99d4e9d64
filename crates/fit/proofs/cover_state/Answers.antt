-- `fit::cover_state` meets its contract.
use mathlib.Core.Path.{sym, ◌∙◌}
use Rattle.fit.proofs.Laws.{state_start, state_other}
use Rattle.fit.proofs.cover_state.Goals as goal

pub returns-then-is_start : goal.returns-then-is_start
returns-then-is_start c = let a = c.args in
    state_start a.b c.extended-low.result c.extended-round.result c.extended.result a.flag a.c c.new.result c.new-2.result c.new.ensures c.extended-low.ensures c.new-2.ensures c.extended-round.ensures c.new-then-is_start.result (sym c.is_start.ensures ∙ c.if-is_start.true) c.new-then-is_start.ensures c.extended.ensures

pub returns : goal.returns
returns c = let a = c.args in
    state_other a.b c.extended-low.result c.extended-round.result c.extended-round.result a.flag a.c c.new.result c.new-2.result c.new.ensures c.extended-low.ensures c.new-2.ensures c.extended-round.ensures (sym c.is_start.ensures ∙ c.if-is_start.false)
