-- `calls::label_size` meets its contract.
use mathlib.Core.Path.{◌∙◌}
use Rattle.calls.specs.Laws.{label_is}
use Rattle.calls.proofs.label_size.Goals as goal

pub returns : goal.returns
returns c = let a = c.args in
    c.label_size.ensures ∙ label_is a.text.now a.lengths.now a.limits c.capped_limits.ensures.0
