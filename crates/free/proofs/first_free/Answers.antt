-- `free::first_free` meets its contract. The search from here is the search from the start; the ends ahead fall.
use Rattle.std.proofs.Common.{◌∙◌, sym, ap}
use borrow.Author.Tests.{not-true, not-false}
use Rattle.free.specs.declared.Pass.{Pass}
use Rattle.free.specs.Moves.{pass_falls, free_moved, free_still}
use Rattle.free.proofs.first_free.Goals as goal

pub returns-then-not-p : goal.returns-then-not-p
returns-then-not-p c = let a = c.args in
    let e = c.full_pass-p.ensures in
    rw e (sym (free_still a.way a.spans.now c.loop-way.h (sym (ap (λ (s : Pass). s.moved) e) ∙ not-true _ c.if-not-p.true)) ∙ c.loop-way.invariant)

pub loop-way-smaller : goal.loop-way-smaller
loop-way-smaller c = let a = c.args in
    let e = c.full_pass-p.ensures in
    rw e (pass_falls a.way a.spans.now c.loop-way.h (sym (ap (λ (s : Pass). s.moved) e) ∙ not-false _ c.if-not-p.false))

pub loop-way-preserved : goal.loop-way-preserved
loop-way-preserved c = let a = c.args in
    let e = c.full_pass-p.ensures in
    rw e (sym (free_moved a.way a.spans.now c.loop-way.h (sym (ap (λ (s : Pass). s.moved) e) ∙ not-false _ c.if-not-p.false)) ∙ c.loop-way.invariant)
