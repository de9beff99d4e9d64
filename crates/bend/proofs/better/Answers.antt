-- `bend::better` meets its contract.
use Rattle.bend.specs.Choice.{better}
use Rattle.bend.proofs.better.Goals as goal

pub returns-then-clearance-b : goal.returns-then-clearance-b
unfolding better
returns-then-clearance-b c = rw c.if-clearance-b.true

pub returns : goal.returns
unfolding better
returns c = rw c.if-clearance-b.false
