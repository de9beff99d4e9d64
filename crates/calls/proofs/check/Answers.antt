-- `calls::check` meets its contract.
use mathlib.Core.Path.{◌∙◌}
use Rattle.calls.specs.Laws.{check_is_lem}
use Rattle.calls.proofs.check.Goals as goal

pub returns : goal.returns
returns c = let a = c.args in
    c.check_within.ensures ∙ check_is_lem a.sheet.now a.limits c.capped_limits.ensures.0
