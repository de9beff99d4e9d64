-- `columns::start_of` meets its contract.
use Rattle.std.proofs.Common.{arith, sym, ◌∙◌, take}
use Rattle.std.proofs.lemmas.Iterator.{YieldsList-from_slice}
use Rattle.std.proofs.lemmas.Iterator.Consumers.{sum_from_yields_List, fits_from_yields_list}
use Rattle.laws.specs.Split.{sum_take}
use Rattle.columns.proofs.Laws.{sum_list}
use Rattle.columns.proofs.start_of.Goals as goal

pub sum-requires-clause-fits : goal.sum-requires-clause-fits
sum-requires-clause-fits c = let sizes = c.args.sizes.now in
    let l = take c.args.l sizes in
    fits_from_yields_list _ 18446744073709551616 (YieldsList-from_slice l c.iter.ensures.rest)
    (omega (arith, sum_list l, sum_take sizes c.args.l, c.requires.fits))

pub returns : goal.returns
returns c = let l = take c.args.l c.args.sizes.now in
    sum_from_yields_List _ _ c.sum.ensures.ran (YieldsList-from_slice l c.iter.ensures.rest) ∙ sym (sum_list l)
