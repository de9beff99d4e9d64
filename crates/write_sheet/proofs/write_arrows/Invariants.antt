-- What stands and what is to come are the whole.
use Rattle.sheet.specs.Sheet.{arrow_of, arrows_of}
use Rattle.reader.specs.Reading.{chain_rest}
use Rattle.encode.specs.Kinds.{arrow_form}
use Rattle.write_sheet.specs.Sheets.{long_arrow}
use Rattle.write_sheet.specs.Chained.{Follows}
use Rattle.std.proofs.Common.{length}
use Rattle.write_sheet.proofs.write_arrows.Given as goal

abbrev pub invariant-loop-i : goal.invariant-loop-i
invariant-loop-i l = Follows arrow_form long_arrow (arrow_of l.s) l.initial.out l.k (arrows_of l.s) l.out (chain_rest l.arrows) l.at

abbrev pub decreases-loop-i : goal.decreases-loop-i
decreases-loop-i l = length (chain_rest l.arrows)
