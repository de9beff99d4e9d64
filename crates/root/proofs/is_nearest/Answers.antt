-- `root::is_nearest` meets its contract.
use Prim.Native.Nat.{◌+◌, ◌-◌, ◌*◌, ◌/◌, ◌^◌}
use native.Mathlib.Omega.{arith}
use lib.Bits.{bit_and}
use borrow.Author.Tests.{leb-true}
use Rattle.root.specs.Halves.{halves}
use Rattle.root.proofs.Laws.{low_half_is}
use Rattle.root.proofs.is_nearest.Goals as goal

pub returns : goal.returns
returns c e = let a = c.args.a in
    let p = c.args.p in
    let h = p / 2 ^ 26 in
    let l = bit_and p 67108863 in
    let d = a - h * h in
    halves a p h l d (d * 2 ^ 26 + h - 2 * h * l) c.requires.0 (omega (arith, low_half_is p)) (omega (arith, c.if-a-hh.false)) (omega (arith, c.if-m-hl.false)) c.if-z-ll.false (leb-true _ _ e)
