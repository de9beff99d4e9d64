-- `call_cases::numbers_in` meets its contract. Assumes nothing.
use mathlib.Core.Path.{sym, ap, ◌∙◌}
use native.Mathlib.Omega.{arith}
use Rattle.std.proofs.Common.{rules}
use Rattle.cases.specs.Payload.{float_at}
use lib.Seq.{length-take-le}
use borrow.Author.Tests.{le-leb, lt-leb}
use Rattle.call_cases.specs.Cases.{numbers_stand, numbers_stand_in}
use Rattle.call_cases.specs.Laws.{first_floats}
use Rattle.call_cases.proofs.numbers_in.Goals as goal

pub returns-then-n-gt5120 : goal.returns-then-n-gt5120
unfolding numbers_stand_in
returns-then-n-gt5120 c = rw (lt-leb _ _ c.if-n-gt5120.true)

pub slice_bounds-numbers_stand-end : goal.slice_bounds-numbers_stand-end
slice_bounds-numbers_stand-end c = sym (length-take-le _ _ (omega arith))

pub returns : goal.returns
unfolding numbers_stand_in
returns c = rw (le-leb _ _ c.if-n-gt5120.false) (c.numbers_stand.ensures ∙ ap (numbers_stand c.args.out.now) (first_floats c.args.p.now c.args.at c.args.n 5120 _ (c.fill.ensures (float_at c.args.p.now) (λ x y p. search rules)) c.if-n-gt5120.false))
