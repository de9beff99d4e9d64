-- `columns::column_holding` meets its contract.
use Rattle.std.proofs.Common.{◌≡◌, ◌+◌, take, drop}
use Rattle.std.specs.List.{position_or_len}
use Rattle.laws.specs.Split.{split, sum_all}
use Rattle.columns.specs.Columns.{elem}
use Rattle.columns.proofs.column_holding.Given as goal

abbrev pub invariant-loop-l : goal.invariant-loop-l
invariant-loop-l l = (l.start ≡ sum_all (take l.l l.sizes))
    × (l.l + position_or_len (elem l.v) (split (drop l.l l.sizes) (drop l.start l.order)) ≡ position_or_len (elem l.v) (split l.sizes l.order))
