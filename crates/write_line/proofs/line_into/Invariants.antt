-- What stands and what is to come is the line.
use Rattle.std.proofs.Common.{◌≤◌, length}
use mathlib.Core.List.{flat_map}
use Rattle.sheet.specs.Sheet.{piece, line_of}
use Rattle.reader.specs.Reading.{chain_rest}
use Rattle.write_line.specs.Puts.{Stores}
use Rattle.write_line.proofs.line_into.Given as goal

abbrev pub invariant-loop-i : goal.invariant-loop-i
invariant-loop-i l = record {
  stores : Stores l.initial.line 0 (line_of l.s l.k) l.line l.n (flat_map (piece l.s) (chain_rest l.i-iterator));
  room : length (line_of l.s l.k) ≤ length l.initial.line;
}
