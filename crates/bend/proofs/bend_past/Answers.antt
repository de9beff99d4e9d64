-- `bend::bend_past` meets its contract.
use Rattle.bend.proofs.bend_past.Goals as goal

pub returns-then-both_ways : goal.returns-then-both_ways
returns-then-both_ways c = rw c.if-both_ways.true c.pair_bow.ensures

pub returns-then-inside_some : goal.returns-then-inside_some
returns-then-inside_some c = rw (c.if-both_ways.false, ← c.inside_some.ensures, c.if-inside_some.true) c.single_bow.ensures

pub returns : goal.returns
returns c = rw (c.if-both_ways.false, ← c.inside_some.ensures, c.if-inside_some.false)
