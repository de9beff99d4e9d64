-- `plan::placed_beyond` meets its contract.
use Rattle.std.proofs.Common.{ap, ◌∙◌}
use Rattle.beyond.specs.Beyond.{beyond}
use Rattle.layout.specs.Lent.{plan_in}
use Rattle.layout.specs.Laws.{frame_placed}
use Rattle.plan.proofs.placed_beyond.Goals as goal

pub returns : goal.returns
returns c = c.beyond.ensures
    ∙ ap beyond (frame_placed (plan_in c.args.plan.now) c.place.new.centres c.args.placement c.place.ensures)
