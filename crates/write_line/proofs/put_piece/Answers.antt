use Rattle.std.proofs.Common.{◌*◌}
use Rattle.std.specs.Option.{unwrap_or}
use Rattle.write_line.specs.Cuts.{text_put}
use Rattle.write_line.proofs.put_piece.Goals as goal

pub returns : goal.returns
returns c = let a = c.args in
    text_put a.out.now a.piece.now (16 * a.k) (unwrap_or a.next 0) c.requires.0 (rw (c.from.ensures, c.from-2.ensures) at c.put_record.ensures) (rw c.place_of.ensures at c.copy_to.ensures)
