use Rattle.std.proofs.Common.{arith}
use Rattle.text.specs.Writing.{adds_as, adds_none, adds-more}
use Rattle.number.proofs.Laws.{fraction_none, fraction_one, fraction_two}
use Rattle.number.proofs.put_fraction.Goals as goal

pub returns-then-n-eq0 : goal.returns-then-n-eq0
returns-then-n-eq0 c = adds_as (fraction_none c.args.n c.if-n-eq0.true) (adds_none _ (omega arith) (omega arith))

pub returns-then-n-ne0 : goal.returns-then-n-ne0
returns-then-n-ne0 c = adds_as (fraction_two c.args.n (omega arith) c.if-n-eq0.false c.if-n-ne0.true) (adds-more (adds-more c.byte.ensures c.number.ensures) c.number-then-n-ne0.ensures)

pub returns-else-n-ne0 : goal.returns-else-n-ne0
returns-else-n-ne0 c = adds_as (fraction_one c.args.n (omega arith) c.if-n-eq0.false c.if-n-ne0.false) (adds-more c.byte.ensures c.number.ensures)
