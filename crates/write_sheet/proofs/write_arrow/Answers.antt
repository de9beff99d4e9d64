-- `write_sheet::write_arrow` meets its contract.
use mathlib.Core.Path.{◌≡◌, refl, ap, ◌∙◌}
use Prim.Native.Nat.{ℕ, ◌+◌, ◌*◌}
use native.Mathlib.Omega.{arith}
use Rattle.std.specs.Option.{unwrap_or}
use Rattle.laws.specs.Put.{put}
use Rattle.sheet.specs.Sheet.{lines_from, arrow_of}
use Rattle.encode.specs.Encode.{space_of, line_size, arrow_size, arrow_records}
use Rattle.write_sheet.specs.Arrows.{lines_short, arrow_space, arrow-written}
use Rattle.write_line.specs.Lines.{index_is}
use Rattle.reader.specs.declared.Record.{Record}
use Rattle.write_sheet.proofs.write_arrow.Goals as goal

pub write_lines-behind-requires : goal.write_lines-behind-requires
write_lines-behind-requires c = let a = c.args in
    let s = a.s.now in
    let d = c.record_at-d in
    let e = ap (λ (x : Record). x.word8) d.ensures in
    let z : arrow_size (arrow_of s a.i) ≡ 1 + space_of line_size (lines_from s d.result.word8) = arrow_space s a.i _ e in
    (lines_short s a.i _ e c.requires.0, omega arith, omega arith)

pub returns : goal.returns
returns c = let a = c.args in
    let s = a.s.now in
    let d = c.record_at-d in
    let b = c.write_lines-behind in
    let n = c.then_some-2 in
    let z : arrow_size (arrow_of s a.i) ≡ 1 + space_of line_size (lines_from s d.result.word8) = arrow_space s a.i _ (ap (λ (x : Record). x.word8) d.ensures) in
    let r : b.result ≡ a.k + 1 + space_of line_size (lines_from s d.result.word8) = b.ensures.1 in (
      arrow-written s a.i d.result d.ensures a.out.now a.k (unwrap_or n.result 0) (index_is _ _ _ _ c.then_some.ensures c.unwrap_or.ensures) b.ensures.0 (rw (c.from.ensures, c.from-2.ensures) at c.put_record.ensures)
          ∙ ap (λ (x : ℕ). put a.out.now (16 * a.k) (arrow_records a.k x (arrow_of s a.i))) (index_is a.more b.result (unwrap_or n.result 0) n.result n.ensures refl),
      omega arith,
    )
