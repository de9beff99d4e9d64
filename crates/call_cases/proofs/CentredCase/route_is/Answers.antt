-- `call_cases::CentredCase::route_is` meets its contract. Assumes nothing.
use Rattle.std.proofs.Common.{rules}
use mathlib.Core.Path.{ap, ◌∙◌}
use mathlib.Core.List.{List}
use Prim.Native.Nat.{ℕ}
use lib.Ieee.{Float}
use Rattle.calls.specs.Calls.{Outcome}
use Rattle.call_cases.specs.Cases.{outcome_right, text_stands, numbers_stand_in, lengths_are, route_is}
use Rattle.call_cases.specs.Laws.{tested}
use Rattle.call_cases.proofs.CentredCase.route_is.Goals as goal

pub returns-then-not-outcome_is : goal.returns-then-not-outcome_is
unfolding route_is
returns-then-not-outcome_is c = rw (← c.index-n.ensures.0, ← c.index.ensures.0, ← c.index-2.ensures.0, tested (λ (o : Outcome (ℕ × ℕ)). outcome_right c.args.self.now.case.answer (lengths_are c.index-n.result c.args.text.now) o) _ _ _ _ (c.outcome_is.ensures (lengths_are c.index-n.result c.args.text.now) (λ v b p. search rules)) c.route_in-r.ensures.0 c.if-not-outcome_is.true)

pub returns-then-not-numbers_in : goal.returns-then-not-numbers_in
unfolding route_is
returns-then-not-numbers_in c = rw (← c.index-n.ensures.0, ← c.index.ensures.0, ← c.index-2.ensures.0, tested (λ (o : Outcome (ℕ × ℕ)). outcome_right c.args.self.now.case.answer (lengths_are c.index-n.result c.args.text.now) o) _ _ _ _ (c.outcome_is.ensures (lengths_are c.index-n.result c.args.text.now) (λ v b p. search rules)) c.route_in-r.ensures.0 c.if-not-outcome_is.false, tested (λ (l : List Float). numbers_stand_in c.args.self.now.case.rest.now 6 c.index-n.result l) _ _ _ _ c.numbers_in.ensures c.route_in-r.ensures.1 c.if-not-numbers_in.true)

pub returns : goal.returns
unfolding route_is
returns c = rw (← c.index-n.ensures.0, ← c.index.ensures.0, ← c.index-2.ensures.0, tested (λ (o : Outcome (ℕ × ℕ)). outcome_right c.args.self.now.case.answer (lengths_are c.index-n.result c.args.text.now) o) _ _ _ _ (c.outcome_is.ensures (lengths_are c.index-n.result c.args.text.now) (λ v b p. search rules)) c.route_in-r.ensures.0 c.if-not-outcome_is.false, tested (λ (l : List Float). numbers_stand_in c.args.self.now.case.rest.now 6 c.index-n.result l) _ _ _ _ c.numbers_in.ensures c.route_in-r.ensures.1 c.if-not-numbers_in.false) (c.text_stands.ensures ∙ ap (λ (l : List ℕ). text_stands l c.args.text.now) c.route_in-r.ensures.2)
