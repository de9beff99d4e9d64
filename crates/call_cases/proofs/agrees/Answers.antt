-- `call_cases::agrees` meets its contract. Assumes nothing.
use Rattle.call_cases.specs.Laws.{agrees_stand_in}
use Rattle.call_cases.proofs.agrees.Goals as goal

pub returns-in-Ok-StandIn : goal.returns-in-Ok-StandIn
returns-in-Ok-StandIn c =
    agrees_stand_in c.args.number c.args.p.now c.in-Ok-StandIn.field-0-0 (rw c.in-Ok-StandIn.field-0-is at c.in-Ok-StandIn.ensures)
