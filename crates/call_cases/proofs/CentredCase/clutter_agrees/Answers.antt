-- `call_cases::CentredCase::clutter_agrees` meets its contract. Assumes nothing.
use Rattle.std.proofs.Common.{rules}
use Rattle.std.specs.Prelude.{ℕ, eqb}
use mathlib.Core.Path.{ap, ◌∙◌}
use Rattle.call_cases.specs.Cases.{outcome_right, clutter_agrees}
use Rattle.call_cases.proofs.CentredCase.clutter_agrees.Goals as goal

pub returns : goal.returns
unfolding clutter_agrees
returns c =
    rw (← c.length_at-count.ensures.0)
    (c.outcome_is.ensures (λ (n : ℕ). eqb n c.length_at-count.result) (λ n b p. search rules) ∙ ap (outcome_right c.args.self.now.case.answer (λ (n : ℕ). eqb n c.length_at-count.result)) c.clutter-counted.ensures)
