-- `calls::write_accepted` meets its contract.
use Rattle.calls.proofs.Writes.{write_short, write_done}
use Rattle.calls.proofs.write_accepted.Goals as goal

pub returns-then-out-bytes : goal.returns-then-out-bytes
returns-then-out-bytes c = write_short c.args.sheet.now c.args.out.now c.states_size-states.ensures.0 c.arrows_size-arrows.ensures.0 c.if-out-bytes.true

pub returns : goal.returns
returns c = write_done c.args.sheet.now c.args.out.now c.states_size-states.ensures.0 c.arrows_size-arrows.ensures.0 _
    c.if-out-bytes.false c.write_afresh.ensures
