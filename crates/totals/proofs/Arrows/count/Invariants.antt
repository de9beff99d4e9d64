-- The counts continued from the arrows to come are those of all.
use Rattle.std.proofs.Common.{◌≡◌, map, length, ◌+◌, ◌*◌, ◌≤◌}
use Rattle.laws.specs.Loops.{over}
use Rattle.sheet.specs.Sheet.{arrow_of, arrows_of}
use Rattle.reader.specs.Reading.{chain_rest}
use Rattle.totals.specs.Arrows.{none_counted, with_arrow}
use Rattle.totals.proofs.Arrows.count.Given as goal

abbrev pub invariant-loop-k : goal.invariant-loop-k
invariant-loop-k l = record {
  rest : over (with_arrow l.self.states) l.t (map (arrow_of l.self.sheet.now) (chain_rest l.k-iterator)) ≡ over (with_arrow l.self.states) none_counted (arrows_of l.self.sheet.now);
  out : l.t.left_out + length (chain_rest l.k-iterator) ≤ 65536;
  lines : l.t.lines + 65536 * length (chain_rest l.k-iterator) ≤ 4294967296;
}
