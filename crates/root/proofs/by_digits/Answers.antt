-- `root::by_digits` meets its contract.
use Prim.Native.Nat.{◌*◌, ◌^◌}
use Rattle.root.specs.Digits.{digits_up, digits_stay}
use Rattle.root.proofs.Laws.{nearest_fits}
use Rattle.root.proofs.by_digits.Goals as goal

pub returns-then-d : goal.returns-then-d
returns-then-d c = let e = digits_up (c.args.a * 2 ^ 52) c.whole_root-d.result.q c.whole_root-d.result.r c.whole_root-d.ensures.0 c.whole_root-d.ensures.1 c.if-d.true in
    (e, nearest_fits c.args.a _ c.requires e)

pub returns-else-d : goal.returns-else-d
returns-else-d c = let e = digits_stay (c.args.a * 2 ^ 52) c.whole_root-d.result.q c.whole_root-d.result.r c.whole_root-d.ensures.0 c.whole_root-d.ensures.1 c.if-d.false in
    (e, nearest_fits c.args.a _ c.requires e)
