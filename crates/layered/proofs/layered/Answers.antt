-- `layered::layered` meets its contract.
use Rattle.std.proofs.Common.{◌≡◌, arith, ℕ, length}
use Rattle.std.proofs.lemmas.List.{take-replicate}
use Rattle.float.specs.Constants.{f0}
use Rattle.columns.specs.Columns.{columns}
use Rattle.layered.proofs.Laws.{centres_are}
use Rattle.layered.proofs.layered.Goals as goal

pub returns : goal.returns
returns c = let a = c.args in
    let n : ℕ = length a.centres.now in
    let l = a.arrows.now in
    let cs = c.breadth_first-columns.result in
    let q : cs ≡ columns n l a.start = c.breadth_first-columns.ensures in
    centres_are n a.start l cs a.width a.height q c.gap_for.result c.row_for.result
    c.sweep.new.columns c.put_xs.new.centres c.put_ys.new.centres c.sweep.new.slots c.gap_for.ensures c.row_for.ensures c.put_xs.ensures
    (rw (← (take-replicate n 64 f0 (omega arith))) c.sweep.ensures) c.put_ys.ensures
