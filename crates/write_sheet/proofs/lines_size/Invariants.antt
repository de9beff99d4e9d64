-- What is counted and what is to come are the whole.
use Rattle.std.proofs.Common.{◌+◌, ◌*◌, ◌≤◌, length}
use Rattle.sheet.specs.Sheet.{line_of, lines_from}
use Rattle.sheet.specs.Refusals.{long_line}
use Rattle.reader.specs.Reading.{chain_rest}
use Rattle.encode.specs.Encode.{space_of, line_size}
use Rattle.write_sheet.specs.Chained.{Sums}
use Rattle.write_sheet.proofs.lines_size.Given as goal

abbrev pub invariant-loop-i : goal.invariant-loop-i
invariant-loop-i l = record {
  sums : Sums line_size long_line (line_of l.s) (space_of line_size (lines_from l.s l.first)) l.n (chain_rest l.i-iterator);
  few : l.n + 9 * length (chain_rest l.i-iterator) ≤ 589824;
}
