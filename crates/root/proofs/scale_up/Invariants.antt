-- `root::scale_up` meets its contract.
use mathlib.Core.Path.{◌≡◌}
use Prim.Native.Nat.{◌+◌, ◌-◌, ◌^◌, ◌<◌}
use Rattle.root.specs.Root.{scale}
use Rattle.root.proofs.scale_up.Given as goal

abbrev pub invariant-loop : goal.invariant-loop
invariant-loop l = (scale (52 - l.counter) l.s l.e ≡ scale 52 l.s0 l.e0) × (l.s < 2 ^ 53) × (l.e + l.counter ≡ 65)
