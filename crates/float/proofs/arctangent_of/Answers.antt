-- `float::arctangent_of` meets its contract.
use Rattle.float.specs.Standins.{arctangent_of}
use Rattle.float.proofs.arctangent_of.Goals as goal

pub returns : goal.returns
unfolding arctangent_of
returns c = rw (← c.halved.ensures, ← c.halved-u.ensures, c.arc_series.ensures)
