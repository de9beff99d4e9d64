-- `call_cases::Case::label_agrees` meets its contract. Assumes nothing.
use Rattle.std.proofs.Common.{rules}
use mathlib.Core.Path.{sym, ap, ◌∙◌}
use mathlib.Core.List.{List}
use Prim.Native.Nat.{ℕ}
use native.Mathlib.Omega.{arith}
use lib.ListN.{take}
use lib.Seq.{length-take-le}
use lib.Ieee.{Float}
use borrow.Author.Tests.{le-leb, lt-leb}
use Rattle.calls.specs.Calls.{Outcome, label_size}
use Rattle.cases.specs.Payload.{bits_at}
use Rattle.cases.specs.Laws.{each_first}
use Rattle.call_cases.specs.Cases.{outcome_right, size_is, label_agrees}
use Rattle.call_cases.proofs.Case.label_agrees.Goals as goal

pub returns-then-lines-gt16 : goal.returns-then-lines-gt16
unfolding label_agrees
returns-then-lines-gt16 c = rw (← c.index-lines.ensures.0, lt-leb _ _ c.if-lines-gt16.true)

pub slice_bounds-label_size-end : goal.slice_bounds-label_size-end
slice_bounds-label_size-end c = sym (length-take-le _ _ (omega arith))

pub returns : goal.returns
unfolding label_agrees
returns c = rw (← c.index-lines.ensures.0, le-leb _ _ c.if-lines-gt16.false) (c.outcome_is.ensures (size_is c.args.self.now.rest.now) (λ v b p. search rules) ∙ ap (λ (o : Outcome (Float × Float)). outcome_right c.args.self.now.answer (size_is c.args.self.now.rest.now) o) (c.label_size.ensures ∙ ap (λ (l : List ℕ). label_size c.args.self.now.sheet.now l c.args.self.now.limits) (ap (take c.index-lines.result) (c.fill.ensures (bits_at c.args.self.now.rest.now) (λ x y p. search rules)) ∙ each_first 8 (bits_at c.args.self.now.rest.now) 18 c.index-lines.result 16 c.if-lines-gt16.false)))
