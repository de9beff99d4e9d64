-- What stands and the pieces to come are the pieces of the line.
use Rattle.std.proofs.Common.{◌+◌, ◌*◌, ◌<◌, ◌≤◌, length}
use Rattle.encode.specs.Encode.{space_of, piece_size, piece_records, pieces}
use Rattle.write_line.specs.Writes.{Writes}
use Rattle.write_line.proofs.write_pieces.Given as goal

abbrev pub invariant-loop-rest : goal.invariant-loop-rest
invariant-loop-rest l = record {
  writes : Writes piece_size piece_records l.initial.out l.k (pieces l.line) l.out l.j (pieces l.rest);
  fits : (l.k + space_of piece_size (pieces l.line) < 65536) × (16 * (l.k + space_of piece_size (pieces l.line)) ≤ length l.initial.out);
}

abbrev pub decreases-loop-rest : goal.decreases-loop-rest
decreases-loop-rest l = length l.rest
