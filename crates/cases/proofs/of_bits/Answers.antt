-- `cases::of_bits` meets its contract. Assumes nothing.
use Rattle.std.proofs.Common.{sym, arith}
use lib.Ieee.{of_bits, div}
use Rattle.cases.specs.Laws.{pattern_nan, pattern_number}
use Rattle.cases.proofs.of_bits.Goals as goal

pub returns-then-b-gt-INFINITY_BITS : goal.returns-then-b-gt-INFINITY_BITS
unfolding of_bits div
returns-then-b-gt-INFINITY_BITS c = sym (pattern_nan c.args.b (omega arith))

pub float_from_bits-result : goal.float_from_bits-result
float_from_bits-result c = pattern_number c.args.b (omega arith)
