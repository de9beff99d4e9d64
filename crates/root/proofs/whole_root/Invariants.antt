-- `root::whole_root` meets its contract. The invariant: what q and r are, with the digits still to come.
use Prim.Native.Nat.{◌*◌, ◌-◌}
use Rattle.root.specs.Digits.{Sound}
use Rattle.root.proofs.whole_root.Given as goal

abbrev pub invariant-loop : goal.invariant-loop
invariant-loop l = Sound (l.a * 1024) (53 - l.counter) l.d
