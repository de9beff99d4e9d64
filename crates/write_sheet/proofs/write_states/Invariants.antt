-- What stands and what is to come are the whole.
use Rattle.sheet.specs.Sheet.{state_of, states_of}
use Rattle.reader.specs.Reading.{chain_rest}
use Rattle.encode.specs.Kinds.{never, state_form}
use Rattle.write_sheet.specs.Chained.{Follows}
use Rattle.std.proofs.Common.{length}
use Rattle.write_sheet.proofs.write_states.Given as goal

abbrev pub invariant-loop-i : goal.invariant-loop-i
invariant-loop-i l = Follows (state_form never) never (state_of l.s) l.initial.out l.k (states_of l.s) l.out (chain_rest l.states) l.at

abbrev pub decreases-loop-i : goal.decreases-loop-i
decreases-loop-i l = length (chain_rest l.states)
