-- `call_cases::Case::list_in` meets its contract. Assumes nothing.
use mathlib.Core.Path.{◌≡◌, ap, ◌∙◌}
use Prim.Native.Nat.{ℕ, ◌+◌, ◌-◌}
use native.Mathlib.Omega.{arith}
use lib.ListN.{take, drop}
use Rattle.calls.specs.Calls.{list, list_after}
use Rattle.call_cases.specs.Laws.{lent-many, middle_back}
use Rattle.call_cases.proofs.Case.list_in.Goals as goal

pub returns : goal.returns
returns c = let e : 16 + c.args.room - 16 ≡ c.args.room = omega arith in
    (c.list.ensures.0 ∙ ap (list c.args.self.now.sheet.now c.args.self.now.limits c.args.self.now.layout_kind) (lent-many c.args.room _ c.args.out.now e (omega arith)), middle_back c.args.room _ c.args.out.now _ (list_after c.args.self.now.sheet.now c.args.self.now.limits c.args.self.now.layout_kind) e (c.list.ensures.1 ∙ ap (λ (k : ℕ). list_after c.args.self.now.sheet.now c.args.self.now.limits c.args.self.now.layout_kind (take k (drop 16 c.args.out.now))) e))
