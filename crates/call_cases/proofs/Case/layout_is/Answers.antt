-- `call_cases::Case::layout_is` meets its contract. Assumes nothing.
use Rattle.std.proofs.Common.{rules}
use mathlib.Core.Path.{ap, ◌∙◌}
use mathlib.Core.List.{List}
use Prim.Native.Nat.{ℕ, ◌+◌, ◌*◌}
use lib.Ieee.{Float}
use Rattle.calls.specs.Calls.{Outcome}
use Rattle.call_cases.specs.Cases.{outcome_right, numbers_stand_in, laid_is, layout_is}
use Rattle.call_cases.specs.Laws.{tested}
use Rattle.call_cases.proofs.Case.layout_is.Goals as goal

pub returns-then-not-outcome_is : goal.returns-then-not-outcome_is
unfolding layout_is
returns-then-not-outcome_is c = rw (← c.index-n.ensures.0, ← c.index.ensures.0, ← c.index-2.ensures.0, tested (λ (o : Outcome (ℕ × Float × Float)). outcome_right c.args.self.now.answer (laid_is c.args.self.now.rest.now) o) _ _ _ _ (c.outcome_is.ensures (laid_is c.args.self.now.rest.now) (λ v b p. search rules)) c.layout_in-l.ensures.0 c.if-not-outcome_is.true)

pub returns-then-not-numbers_in : goal.returns-then-not-numbers_in
unfolding layout_is
returns-then-not-numbers_in c = rw (← c.index-n.ensures.0, ← c.index.ensures.0, ← c.index-2.ensures.0, tested (λ (o : Outcome (ℕ × Float × Float)). outcome_right c.args.self.now.answer (laid_is c.args.self.now.rest.now) o) _ _ _ _ (c.outcome_is.ensures (laid_is c.args.self.now.rest.now) (λ v b p. search rules)) c.layout_in-l.ensures.0 c.if-not-outcome_is.false, tested (λ (l : List Float). numbers_stand_in c.args.self.now.rest.now 22 c.index-n.result l) _ _ _ _ c.numbers_in.ensures c.layout_in-l.ensures.1 c.if-not-numbers_in.true)

pub returns : goal.returns
unfolding layout_is
returns c = rw (← c.index-n.ensures.0, ← c.index.ensures.0, ← c.index-2.ensures.0, tested (λ (o : Outcome (ℕ × Float × Float)). outcome_right c.args.self.now.answer (laid_is c.args.self.now.rest.now) o) _ _ _ _ (c.outcome_is.ensures (laid_is c.args.self.now.rest.now) (λ v b p. search rules)) c.layout_in-l.ensures.0 c.if-not-outcome_is.false, tested (λ (l : List Float). numbers_stand_in c.args.self.now.rest.now 22 c.index-n.result l) _ _ _ _ c.numbers_in.ensures c.layout_in-l.ensures.1 c.if-not-numbers_in.false) (c.numbers_in-2.ensures ∙ ap (λ (l : List Float). numbers_stand_in c.args.self.now.rest.now (22 + 8 * c.index-n.result) c.index-n.result l) c.layout_in-l.ensures.2)
