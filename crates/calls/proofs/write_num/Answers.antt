-- `calls::write_num` meets its contract.
use mathlib.Core.Path.{◌∙◌}
use Rattle.calls.specs.Laws.{num_is}
use Rattle.calls.proofs.write_num.Goals as goal

pub returns : goal.returns
returns c = (c.write_num.ensures.0 ∙ (num_is c.args.v c.args.out.now).0, c.write_num.ensures.1 ∙ (num_is c.args.v c.args.out.now).1)
