-- `totals::totals_of` meets its contract.
use Rattle.sheet.specs.Sheet.{meaning}
use Rattle.std.proofs.Common.{◌∙◌, sym}
use Rattle.laws.specs.Chains.{how_many_list}
use Rattle.totals.specs.Totals.{has_points}
use Rattle.totals.proofs.Laws.{totals_are}
use Rattle.totals.proofs.totals_of.Goals as goal

pub returns : goal.returns
returns c = let a = c.args in totals_are (meaning a.s.now) a.drawn.now _ _ _ _ _ c.state_count.ensures c.count-counts.ensures (c.with_points.ensures ∙ sym (how_many_list (has_points 2) a.drawn.now)) (c.with_points-2.ensures ∙ sym (how_many_list (has_points 3) a.drawn.now)) (c.with_points-3.ensures ∙ sym (how_many_list (has_points 4) a.drawn.now))
