-- `call_cases::Case::sheet_in` meets its contract. Assumes nothing.
use mathlib.Core.Path.{◌≡◌, ap, ◌∙◌}
use Prim.Native.Nat.{ℕ, ◌+◌, ◌-◌}
use native.Mathlib.Omega.{arith}
use lib.ListN.{take, drop}
use Rattle.calls.specs.Calls.{write_sheet, write_sheet_after}
use Rattle.call_cases.specs.Laws.{lent-many, middle_back}
use Rattle.call_cases.proofs.Case.sheet_in.Goals as goal

pub returns : goal.returns
returns c = let e : 16 + c.args.room - 16 ≡ c.args.room = omega arith in
    (c.write_sheet.ensures.0 ∙ ap (write_sheet c.args.self.now.sheet.now c.args.self.now.limits) (lent-many c.args.room _ c.args.out.now e (omega arith)), middle_back c.args.room _ c.args.out.now _ (write_sheet_after c.args.self.now.sheet.now c.args.self.now.limits) e (c.write_sheet.ensures.1 ∙ ap (λ (k : ℕ). write_sheet_after c.args.self.now.sheet.now c.args.self.now.limits (take k (drop 16 c.args.out.now))) e))
