-- `calls::capped_limits` meets its contract.
use Rattle.calls.specs.Laws.{capped_by}
use Rattle.calls.proofs.capped_limits.Goals as goal

pub returns : goal.returns
returns c = capped_by c.args.limits _ c.main_screen-main.ensures c.min.ensures c.min-2.ensures c.min-3.ensures
