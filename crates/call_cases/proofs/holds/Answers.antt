-- `call_cases::holds` meets its contract. Assumes nothing.
use Rattle.std.proofs.Common.{sym, ap, ap₂, ◌∙◌, not, length}
use borrow.Author.Tests.{le-leb, lt-leb}
use Rattle.laws.specs.Lists.{get_d_any}
use Rattle.laws.specs.Loops.{any_hit, any_miss, any_done}
use Rattle.call_cases.specs.Cases.{differs, holds}
use Rattle.call_cases.proofs.holds.Goals as goal

pub returns-then-out-values : goal.returns-then-out-values
unfolding holds
returns-then-out-values g c alike e = rw (lt-leb _ _ c.if-out-values.true)

pub returns-then-not-same : goal.returns-then-not-same
unfolding holds
returns-then-not-same g c alike e =
    let a = c.args in
    let i = c.loop-i.i in
    let x = c.index-out-i.result in
    let read = c.index-out-i.is ∙ get_d_any a.out.now i x a.unset c.loop-i-test.true in
    let tested = sym (e x c.value_at.result c.same.result c.same.ensures ∙ ap₂ alike read c.value_at.ensures) ∙ c.if-not-same.true in
    rw (le-leb _ _ c.if-out-values.false, ← (c.loop-i.invariant alike e), any_hit (differs alike a.unset a.out.now a.values.now) i (length a.out.now) c.loop-i-test.true (ap not tested))

pub loop-i-preserved : goal.loop-i-preserved
loop-i-preserved g c alike e =
    let a = c.args in
    let i = c.loop-i.i in
    let x = c.index-out-i.result in
    let read = c.index-out-i.is ∙ get_d_any a.out.now i x a.unset c.loop-i-test.true in
    let tested = sym (e x c.value_at.result c.same.result c.same.ensures ∙ ap₂ alike read c.value_at.ensures) ∙ c.if-not-same.false in
    sym (any_miss (differs alike a.unset a.out.now a.values.now) i (length a.out.now) c.loop-i-test.true (ap not tested)) ∙ c.loop-i.invariant alike e

pub returns : goal.returns
unfolding holds
returns g c alike e =
    rw (le-leb _ _ c.if-out-values.false, ← (c.loop-i.invariant alike e), any_done (differs alike c.args.unset c.args.out.now c.args.values.now) c.loop-i.i (length c.args.out.now) c.loop-i-test.false)
