-- `curves::centred` meets its contract.
use Rattle.std.proofs.Common.{refl, arith}
use Rattle.laws.specs.Flat.{table}
use Rattle.laws.specs.Filled.{table-fill, table_full}
use Rattle.curves.specs.Counted.{counted_at}
use Rattle.curves.proofs.centred.Goals as goal

pub loop-k-init : goal.loop-k-init
unfolding table
loop-k-init c = refl

pub loop-k-preserved : goal.loop-k-preserved
loop-k-preserved c = let l = c.loop-k in
    table-fill (counted_at c.args.centres.now) l.nodes l.k _ (omega arith) l.invariant c.centre_at.ensures

pub returns : goal.returns
returns c = let l = c.loop-k in
    table_full (counted_at c.args.centres.now) l.nodes l.k _ (omega arith) (omega arith) l.invariant
