-- `layout::widest` meets its contract.
use Rattle.std.proofs.Common.{rules, ◌∙◌}
use Rattle.std.proofs.lemmas.Iterator.{YieldsList-from_slice}
use Rattle.std.proofs.lemmas.Iterator.Consumers.{fold_from_yields_List}
use Rattle.float.specs.Constants.{f0}
use Rattle.float.specs.Standins.{max}
use Rattle.layout.specs.Laws.{largest_of}
use Rattle.layout.proofs.widest.Goals as goal

pub returns : goal.returns
returns c = fold_from_yields_List _ (λ a z. max a z.width) f0 _ c.fold.ensures.ran (YieldsList-from_slice c.args.sizes.now (cc))
    (λ a x b q k. search rules) ∙ largest_of (λ z. z.width) c.args.sizes.now
