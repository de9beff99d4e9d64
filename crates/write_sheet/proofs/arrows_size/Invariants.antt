-- What is counted and what is to come are the whole.
use Rattle.std.proofs.Common.{◌+◌, ◌*◌, ◌≤◌, length}
use Rattle.sheet.specs.Sheet.{arrow_of, arrows_of}
use Rattle.reader.specs.Reading.{chain_rest}
use Rattle.encode.specs.Encode.{space_of, arrow_size}
use Rattle.write_sheet.specs.Sheets.{long_arrow}
use Rattle.write_sheet.specs.Chained.{Sums}
use Rattle.write_sheet.proofs.arrows_size.Given as goal

abbrev pub invariant-loop-i : goal.invariant-loop-i
invariant-loop-i l = record {
  sums : Sums arrow_size long_arrow (arrow_of l.s) (space_of arrow_size (arrows_of l.s)) l.n (chain_rest l.i-iterator);
  few : l.n + 589825 * length (chain_rest l.i-iterator) ≤ 38654771200;
}
