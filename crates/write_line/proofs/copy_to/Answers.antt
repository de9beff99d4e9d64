use Rattle.std.proofs.Common.{ap, ◌∙◌, ◌+◌, ◌-◌, ◌++◌, length, take, drop, arith}
use Rattle.write_line.proofs.Laws.{put_part_is}
use Rattle.write_line.proofs.copy_to.Goals as goal

pub returns : goal.returns
returns c = let n = c.args.at + length c.args.bytes.now - c.args.at in
    ap (λ l. take c.args.at c.args.out.now ++ (l ++ drop n (drop c.args.at c.args.out.now))) c.copy_from_slice.ensures.after
    ∙ put_part_is c.args.at n c.args.out.now c.args.bytes.now (omega arith) c.requires
