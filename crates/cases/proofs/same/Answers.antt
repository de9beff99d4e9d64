-- `cases::same` meets its contract. Assumes nothing.
use Rattle.std.proofs.Common.{sym}
use Rattle.laws.specs.Cases.{holds}
use Rattle.laws.specs.Nan.{no_nan}
use Rattle.cases.specs.Payload.{alike}
use Rattle.cases.specs.Laws.{bits_of_nan, bits_of_number}
use Rattle.cases.proofs.same.Goals as goal

pub returns-then-a : goal.returns-then-a
unfolding alike
returns-then-a c = rw c.if-a.true

pub returns-then-a-2 : goal.returns-then-a-2
unfolding alike
returns-then-a-2 c = rw c.if-a.false (sym (bits_of_nan c.args.a c.args.b (holds c.well_formed.0.1) (holds c.well_formed.1.0.1) c.if-a-2.true))

pub returns-then-b : goal.returns-then-b
unfolding alike
returns-then-b c = rw c.if-a.false (sym (bits_of_number c.args.a c.args.b (holds c.well_formed.0.1) (holds c.well_formed.1.0.1) c.if-a-2.false c.if-b.true))

pub float_to_bits-result : goal.float_to_bits-result
float_to_bits-result c = no_nan c.args.a c.if-a-2.false

pub float_to_bits-result-2 : goal.float_to_bits-result-2
float_to_bits-result-2 c = no_nan c.args.b c.if-b.false

pub returns : goal.returns
unfolding alike
returns c = rw c.if-a.false
