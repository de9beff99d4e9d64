-- `call_cases::Case::check_is` meets its contract. Assumes nothing.
use Rattle.std.proofs.Common.{rules}
use Rattle.std.specs.Prelude.{true}
use mathlib.Core.Path.{ap, ◌∙◌}
use Rattle.call_cases.specs.Cases.{outcome_right, check_is}
use Rattle.call_cases.proofs.Case.check_is.Goals as goal

pub returns : goal.returns
unfolding check_is
returns c = c.outcome_is.ensures (λ u. true) (λ u b p. search rules) ∙ ap (outcome_right c.args.self.now.answer (λ u. true)) c.check.ensures
