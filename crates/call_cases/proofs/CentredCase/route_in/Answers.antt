-- `call_cases::CentredCase::route_in` meets its contract. Assumes nothing.
use mathlib.Core.Path.{◌≡◌, ap₂, ◌∙◌}
use mathlib.Core.List.{List}
use Prim.Native.Nat.{ℕ, ◌+◌, ◌-◌}
use native.Mathlib.Omega.{arith}
use lib.ListN.{take, drop}
use lib.Ieee.{Float}
use Rattle.calls.specs.Calls.{route, records_after, text_after}
use Rattle.call_cases.specs.Laws.{lent-many, middle_back}
use Rattle.call_cases.proofs.CentredCase.route_in.Goals as goal

pub returns : goal.returns
returns c = let e : 16 + c.args.room - 16 ≡ c.args.room = omega arith in
    let f : 16 + c.args.bytes - 16 ≡ c.args.bytes = omega arith in
    let x = lent-many c.args.room _ c.args.records.now e c.requires.0 in
    let y = lent-many c.args.bytes _ c.args.out.now f c.requires.1 in (
      c.route.ensures.0 ∙ ap₂ (route c.args.self.now.case.sheet.now c.args.self.now.case.limits c.args.self.now.xs.now c.args.self.now.ys.now) x y,
      middle_back c.args.room _ c.args.records.now _ (λ (l : List Float). records_after c.args.self.now.case.sheet.now c.args.self.now.case.limits c.args.self.now.xs.now c.args.self.now.ys.now l c.args.bytes) e (c.route.ensures.1 ∙ ap₂ (λ (k m : ℕ). records_after c.args.self.now.case.sheet.now c.args.self.now.case.limits c.args.self.now.xs.now c.args.self.now.ys.now (take k (drop 16 c.args.records.now)) m) e y),
      middle_back c.args.bytes _ c.args.out.now _ (text_after c.args.self.now.case.sheet.now c.args.self.now.case.limits c.args.self.now.xs.now c.args.self.now.ys.now c.args.room) f (c.route.ensures.2 ∙ ap₂ (λ (m k : ℕ). text_after c.args.self.now.case.sheet.now c.args.self.now.case.limits c.args.self.now.xs.now c.args.self.now.ys.now m (take k (drop 16 c.args.out.now))) x f),
    )
