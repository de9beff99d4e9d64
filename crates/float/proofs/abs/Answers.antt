-- `float::abs` meets its contract.
use mathlib.Core.Path.{◌∙◌, sym}
use Rattle.float.specs.Signs.{abs-negative}
use Rattle.float.proofs.abs.Goals as goal

pub returns-then-negative : goal.returns-then-negative
returns-then-negative c = abs-negative c.args.v (sym c.negative.ensures ∙ c.if-negative.true)
