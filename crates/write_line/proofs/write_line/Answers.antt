-- `write_line::write_line` meets its contract.
use mathlib.Core.Path.{◌≡◌, refl}
use native.Mathlib.Omega.{arith}
use lib.ListN.{take}
use Rattle.laws.specs.Filled.{front_is}
use Rattle.sheet.specs.Sheet.{line_of}
use Rattle.write_line.specs.Lines.{line-put, index_is}
use Rattle.write_line.proofs.write_line.Goals as goal

pub write_pieces-behind-requires : goal.write_pieces-behind-requires
write_pieces-behind-requires c = let a = c.args in
    let t = c.line_into-n in
    let l = line_of a.s.now a.i in
    let e : take t.result t.new.line ≡ l = front_is _ l _ _ t.ensures.1 (omega arith) t.ensures.0 in
    rw e (omega arith, omega arith)

pub returns : goal.returns
returns c = let a = c.args in
    let t = c.line_into-n in
    let l = line_of a.s.now a.i in
    let x = take t.result t.new.line in
    let e : x ≡ l = front_is _ l _ _ t.ensures.1 (omega arith) t.ensures.0 in
    let p = c.write_pieces-behind.ensures in
    let f = index_is _ _ _ _ c.then_some.ensures c.unwrap_or.ensures in
    let n = index_is a.more _ _ _ c.then_some-2.ensures refl in
    line-put a.out.now l x a.k e t.ensures.1 f n p.0 p.1 (rw (c.from.ensures, c.from-2.ensures) at c.put_record.ensures)
