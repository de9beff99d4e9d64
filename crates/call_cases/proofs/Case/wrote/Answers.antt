-- `call_cases::Case::wrote` meets its contract. Assumes nothing.
use Rattle.std.proofs.Common.{rules}
use Rattle.std.specs.Prelude.{ℕ, eqb, length}
use mathlib.Core.Path.{sym, ◌∙◌}
use Rattle.call_cases.specs.Cases.{wrote}
use Rattle.call_cases.proofs.Case.wrote.Goals as goal

pub returns-then-not-outcome_is : goal.returns-then-not-outcome_is
unfolding wrote
returns-then-not-outcome_is c =
    rw (sym (c.outcome_is.ensures (λ (n : ℕ). eqb n (length c.args.text.now)) (λ n b p. search rules)) ∙ c.if-not-outcome_is.true)

pub returns : goal.returns
unfolding wrote
returns c =
    rw (sym (c.outcome_is.ensures (λ (n : ℕ). eqb n (length c.args.text.now)) (λ n b p. search rules)) ∙ c.if-not-outcome_is.false)
    c.text_stands.ensures
