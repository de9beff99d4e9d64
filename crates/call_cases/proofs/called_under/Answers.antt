-- `call_cases::called_under` meets its contract. Assumes nothing.
use mathlib.Core.Path.{◌≡◌, ap, ap₂, ◌∙◌}
use mathlib.Core.List.{List}
use Prim.Native.Nat.{ℕ, ◌+◌, ◌-◌}
use native.Mathlib.Omega.{arith}
use lib.ListN.{take, drop}
use borrow.Author.Tests.{le-leb, lt-leb}
use Rattle.cases.specs.Laws.{part-tail}
use Rattle.call_cases.specs.Cases.{called, called_under}
use Rattle.call_cases.proofs.called_under.Goals as goal

pub returns-then-p-end : goal.returns-then-p-end
unfolding called_under
returns-then-p-end c = rw (← c.length_at-end.ensures.0, lt-leb _ _ c.if-p-end.true)

pub returns : goal.returns
unfolding called_under
returns c = let e : 6 + c.length_at-end.result - 6 ≡ c.length_at-end.result = omega arith in
    rw (← c.length_at-end.ensures.0, le-leb _ _ c.if-p-end.false, ← c.byte.ensures, ← c.byte-2.ensures)
    (c.called.ensures
    ∙ ap₂ (λ (s rest : List ℕ). called c.args.call (record { answer = c.byte.result; layout_kind = c.byte-2.result; sheet = s; limits = c.args.limits; rest = rest }))
    (ap (λ (k : ℕ). take k (drop 6 c.args.p.now)) e) (part-tail (6 + c.length_at-end.result) c.args.p.now))
