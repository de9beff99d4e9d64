-- The arrows to come decide, since none before leads from a to b.
use mathlib.Core.Path.{◌≡◌}
use lib.ListN.{length}
use Rattle.bend.specs.Leads.{leads}
use Rattle.bend.proofs.leads.Given as goal

abbrev pub invariant-loop-rest : goal.invariant-loop-rest
invariant-loop-rest l = leads l.rest l.a l.b ≡ leads l.arrows l.a l.b

abbrev pub decreases-loop-rest : goal.decreases-loop-rest
decreases-loop-rest l = length l.rest
