-- `root::whole_root` meets its contract. The invariant: what q and r are, with the digits still to come.
use mathlib.Core.Path.{sym, subst}
use Prim.Native.Nat.{◌-◌, ◌+◌, ◌*◌}
use native.Mathlib.Omega.{arith}
use Rattle.root.specs.Digits.{Sound, root-lt}
use Rattle.root.proofs.Laws.{sound_step, sound_end}
use Rattle.root.proofs.whole_root.Goals as goal

pub digit-d-requires : goal.digit-d-requires
digit-d-requires c = (root-lt (c.args.a * 1024) (53 - c.loop.counter) c.loop.d.q c.loop.d.r c.loop.d.x c.loop.invariant (omega (arith, c.requires)), c.loop.invariant.small)

pub loop-preserved : goal.loop-preserved
loop-preserved c = subst (Sound (c.args.a * 1024) (53 - (c.loop.counter + 1))) (sym c.digit-d.ensures) (sound_step (c.args.a * 1024) 53 c.loop.counter c.loop.d c.loop-test.true c.loop.invariant)

pub returns : goal.returns
returns c = sound_end c.args.a (53 - c.loop.counter) c.loop.d c.requires (omega arith) c.loop.invariant
