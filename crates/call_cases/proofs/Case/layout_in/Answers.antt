-- `call_cases::Case::layout_in` meets its contract. Assumes nothing.
use mathlib.Core.Path.{◌≡◌, ap₂, ◌∙◌}
use mathlib.Core.List.{List}
use Prim.Native.Nat.{ℕ, ◌+◌, ◌-◌}
use native.Mathlib.Omega.{arith}
use lib.ListN.{take, drop}
use lib.Ieee.{Float}
use Rattle.calls.specs.Calls.{layout, xs_after, ys_after}
use Rattle.call_cases.specs.Laws.{lent-many, middle_back}
use Rattle.call_cases.proofs.Case.layout_in.Goals as goal

pub returns : goal.returns
returns c = let e : 16 + c.args.nx - 16 ≡ c.args.nx = omega arith in
    let f : 16 + c.args.ny - 16 ≡ c.args.ny = omega arith in
    let x = lent-many c.args.nx _ c.args.xs.now e c.requires.0 in
    let y = lent-many c.args.ny _ c.args.ys.now f c.requires.1 in (
      c.layout.ensures.0 ∙ ap₂ (layout c.args.self.now.sheet.now c.args.self.now.limits c.args.self.now.layout_kind) x y,
      middle_back c.args.nx _ c.args.xs.now _ (λ (l : List Float). xs_after c.args.self.now.sheet.now c.args.self.now.limits c.args.self.now.layout_kind l c.args.ny) e (c.layout.ensures.1 ∙ ap₂ (λ (k m : ℕ). xs_after c.args.self.now.sheet.now c.args.self.now.limits c.args.self.now.layout_kind (take k (drop 16 c.args.xs.now)) m) e y),
      middle_back c.args.ny _ c.args.ys.now _ (ys_after c.args.self.now.sheet.now c.args.self.now.limits c.args.self.now.layout_kind c.args.nx) f (c.layout.ensures.2 ∙ ap₂ (λ (m k : ℕ). ys_after c.args.self.now.sheet.now c.args.self.now.limits c.args.self.now.layout_kind m (take k (drop 16 c.args.ys.now))) x f),
    )
