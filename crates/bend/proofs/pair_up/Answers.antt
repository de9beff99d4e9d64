-- `bend::pair_up` meets its contract.
use mathlib.Core.Path.{ap, ◌∙◌}
use Rattle.free.specs.declared.Search.TheVariants as Search
use Rattle.free.specs.Free.{first_free}
use Rattle.bend.proofs.pair_up.Goals as goal

pub returns : goal.returns
returns c = let a = c.args in c.first_free.ensures ∙ ap (first_free Search.Up a.spans.now) c.clamp-base.ensures
