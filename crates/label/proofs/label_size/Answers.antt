-- `label::label_size` meets its contract.
use Rattle.std.proofs.Common.{length, sym, ◌∙◌, arith}
use borrow.Author.Tests.{not-true, not-false}
use Rattle.label.specs.Measuring.{sized-many, sized_unfit, sized-fit}
use Rattle.label.proofs.Laws.{fit-total}
use mathlib.Core.Path.{ap}
use mathlib.Core.Bool.{not}
use Rattle.label.proofs.label_size.Goals as goal

pub returns-then-m-lengths : goal.returns-then-m-lengths
returns-then-m-lengths c = sym (sized-many c.args.m c.args.text.now c.args.lengths.now c.if-m-lengths.true)

pub returns-then-not-lengths_fit : goal.returns-then-not-lengths_fit
returns-then-not-lengths_fit c = sym (sized_unfit c.args.m c.args.text.now c.args.lengths.now c.if-m-lengths.false (sym c.lengths_fit.ensures ∙ not-true _ (ap not c.if-not-lengths_fit.true)))

pub lines_size-requires : goal.lines_size-requires
lines_size-requires c = omega (arith, fit-total 96 (length c.args.text.now) c.args.lengths.now (sym c.lengths_fit.ensures ∙ not-false _ (ap not c.if-not-lengths_fit.false)))

pub returns : goal.returns
returns c = c.lines_size.ensures
    ∙ sym (sized-fit c.args.m c.args.text.now c.args.lengths.now c.if-m-lengths.false (sym c.lengths_fit.ensures ∙ not-false _ (ap not c.if-not-lengths_fit.false)))
