use Rattle.std.proofs.Common.{rules}
use Rattle.listing.specs.Laws.{as_whole}
use Rattle.listing.proofs.run.Goals as goal

pub returns : goal.returns
returns g c = search (rules, as_whole)
