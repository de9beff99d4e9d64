-- `layered::column_of` meets its contract.
use Rattle.std.proofs.Common.{◌∙◌, arith}
use Rattle.layered.proofs.Laws.{column_place}
use Rattle.layered.proofs.column_of.Goals as goal

pub returns : goal.returns
returns c = (c.place_of.ensures.place ∙ column_place c.args.v c.args.columns.now, omega (arith, c.place_of.ensures.within))
