-- `bend::verified` meets its contract. The invariant: the choice among the bows to come is the choice among all.
use mathlib.Core.Path.{◌≡◌}
use lib.ListN.{drop}
use Rattle.bend.specs.Clear.{clearance, verified}
use Rattle.bend.specs.Choice.{choose}
use Rattle.bend.proofs.verified.Given as goal

abbrev pub invariant-loop-h : goal.invariant-loop-h
invariant-loop-h l = (choose (clearance l.c l.nodes) l.b (drop l.h-index l.bows) ≡ verified (clearance l.c l.nodes) l.bows)
