-- `number::write_num` meets its contract.
use Rattle.std.proofs.Common.{arith, rules}
use Rattle.laws.specs.Writers.{refuses_by, writes_by, left_as}
use Rattle.number.specs.Number.{num_text}
use Rattle.refusal.specs.Refused.{values, number}
use Rattle.number.proofs.Laws.{num_refused, goes_on_lem}
use mathlib.Core.Path.{ap}
use mathlib.Core.Bool.{not}
use Rattle.number.proofs.write_num.Goals as goal

pub returns-then-not-writable : goal.returns-then-not-writable
returns-then-not-writable c = num_refused c.args.v c.writable.result c.args.out.now c.writable.ensures (ap not c.if-not-writable.true)

pub returns-then-out-num_length : goal.returns-then-out-num_length
returns-then-out-num_length c = goes_on_lem c.args.v c.writable.result _ _ c.args.out.now c.writable.ensures (ap not c.if-not-writable.false) (refuses_by values (number 7) (num_text c.args.v) c.args.out.now (omega arith) c.num_length.ensures c.if-out-num_length.true)

pub returns : goal.returns
returns c = left_as (search rules) (goes_on_lem c.args.v c.writable.result _ _ c.args.out.now c.writable.ensures (ap not c.if-not-writable.false) (writes_by values (number 7) (num_text c.args.v) c.args.out.now (omega arith) c.num_length.ensures c.if-out-num_length.false c.put_num.ensures.text))
