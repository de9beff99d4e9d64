-- `curves::or_zero` meets its contract.
use mathlib.Core.Path.{sym, ◌∙◌}
use Rattle.curves.proofs.Laws.{finite_yes, finite_no}
use Rattle.curves.proofs.or_zero.Goals as goal

pub returns-then-is_finite : goal.returns-then-is_finite
returns-then-is_finite c = finite_yes c.args.v (sym c.is_finite.ensures ∙ c.if-is_finite.true)

pub returns : goal.returns
returns c = finite_no c.args.v (sym c.is_finite.ensures ∙ c.if-is_finite.false)
