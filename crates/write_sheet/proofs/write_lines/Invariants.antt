-- What stands and what is to come are the whole.
use Rattle.sheet.specs.Sheet.{line_of, lines_from}
use Rattle.sheet.specs.Refusals.{long_line}
use Rattle.reader.specs.Reading.{chain_rest}
use Rattle.encode.specs.Kinds.{line_form}
use Rattle.write_sheet.specs.Chained.{Follows}
use Rattle.std.proofs.Common.{length}
use Rattle.write_sheet.proofs.write_lines.Given as goal

abbrev pub invariant-loop-i : goal.invariant-loop-i
invariant-loop-i l = Follows line_form long_line (line_of l.s) l.initial.out l.k (lines_from l.s l.first) l.out (chain_rest l.lines) l.at

abbrev pub decreases-loop-i : goal.decreases-loop-i
decreases-loop-i l = length (chain_rest l.lines)
