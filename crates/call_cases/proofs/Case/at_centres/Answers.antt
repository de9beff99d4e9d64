-- `call_cases::Case::at_centres` meets its contract. Assumes nothing.
use mathlib.Core.Path.{sym, ◌∙◌}
use mathlib.Core.List.{List}
use Prim.Native.Nat.{ℕ, ◌+◌, ◌*◌}
use lib.Ieee.{Float}
use native.Mathlib.Omega.{arith}
use lib.Seq.{length-take-le}
use borrow.Author.Tests.{le-leb, lt-leb}
use Rattle.cases.specs.Laws.{part-tail}
use Rattle.call_cases.specs.Cases.{with_rest, at_centres}
use Rattle.cases.specs.Payload.{float_at}
use Rattle.std.proofs.Common.{rules}
use Rattle.call_cases.specs.Laws.{first_floats, of_three}
use Rattle.call_cases.specs.Lent.{case_in}
use Rattle.call_cases.proofs.Case.at_centres.Goals as goal

pub returns-then-nx-gt80 : goal.returns-then-nx-gt80
unfolding at_centres
returns-then-nx-gt80 g c good e = rw (← c.index-nx.ensures.0, lt-leb _ _ c.if-nx-gt80.true)

pub returns-then-ny-gt80 : goal.returns-then-ny-gt80
unfolding at_centres
returns-then-ny-gt80 g c good e = rw (← c.index-nx.ensures.0, ← c.index-ny.ensures.0, le-leb _ _ c.if-nx-gt80.false, lt-leb _ _ c.if-ny-gt80.true)

pub returns-then-self-end : goal.returns-then-self-end
unfolding at_centres
returns-then-self-end g c good e = rw (← c.index-nx.ensures.0, ← c.index-ny.ensures.0, le-leb _ _ c.if-nx-gt80.false, le-leb _ _ c.if-ny-gt80.false, lt-leb _ _ c.if-self-end.true)

pub slice_bounds-drawn-end : goal.slice_bounds-drawn-end
slice_bounds-drawn-end g c = sym (length-take-le _ _ (omega arith))

pub slice_bounds-drawn-end-2 : goal.slice_bounds-drawn-end-2
slice_bounds-drawn-end-2 g c = sym (length-take-le _ _ (omega arith))

pub returns : goal.returns
unfolding at_centres
returns g c good e =
    rw (← c.index-nx.ensures.0, ← c.index-ny.ensures.0, le-leb _ _ c.if-nx-gt80.false, le-leb _ _ c.if-ny-gt80.false, le-leb _ _ c.if-self-end.false)
    (e _ c.drawn.result c.drawn.ensures
    ∙ of_three (λ (xs ys : List Float) (rest : List ℕ). good (record { case = with_rest (case_in c.args.self.now) rest; xs = xs; ys = ys })) _ _ _ _ _ _
    (first_floats c.args.self.now.rest.now 4 c.index-nx.result 80 _ (c.fill.ensures (float_at c.args.self.now.rest.now) (λ x y p. search rules)) c.if-nx-gt80.false)
    (first_floats c.args.self.now.rest.now (4 + 8 * c.index-nx.result) c.index-ny.result 80 _ (c.fill-2.ensures (float_at c.args.self.now.rest.now) (λ x y p. search rules)) c.if-ny-gt80.false)
    (part-tail (4 + 8 * c.index-nx.result + 8 * c.index-ny.result) c.args.self.now.rest.now))
