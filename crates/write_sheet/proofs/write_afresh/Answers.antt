-- `write_sheet::write_afresh` meets its contract.
use mathlib.Core.Path.{◌≡◌}
use Prim.Native.Nat.{◌+◌}
use Rattle.sheet.specs.Sheet.{states_of, arrows_of, meaning}
use Rattle.encode.specs.Encode.{space_of, state_size, arrow_size, records_for, arrows_from}
use Rattle.std.proofs.Common.{arith}
use Rattle.write_line.specs.Lines.{index_is}
use Rattle.write_sheet.specs.Whole.{sheet_written}
use Rattle.write_sheet.proofs.write_afresh.Goals as goal

pub returns : goal.returns
returns c =
    let s = c.args.sheet.now in
    let a : c.args.states ≡ space_of state_size (states_of s) = c.requires.1 in
    let b : c.args.arrows ≡ space_of arrow_size (arrows_of s) = c.requires.2 in
    let n : c.args.states + c.args.arrows ≡ records_for (meaning s) = omega (arith, a, b) in
    let k : 1 + c.args.states ≡ arrows_from (meaning s) = omega (arith, a) in
    let t = index_is _ 1 _ _ c.then_some.ensures c.unwrap_or.ensures in
    let u = index_is _ (1 + c.args.states) _ _ c.then_some-2.ensures c.unwrap_or-2.ensures in
    sheet_written s c.args.out.now n k c.word_at.ensures t c.word_at-2.ensures u c.write_states.ensures c.write_arrows.ensures c.put_record.ensures
