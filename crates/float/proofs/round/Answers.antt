-- `float::round` meets its contract.
use mathlib.Core.Path.{sym, ap, ◌∙◌}
use lib.Ieee.{binary64, to_bits}
use Rattle.laws.specs.Cases.{holds}
use Rattle.laws.specs.Nan.{is_nan_lem, no_nan}
use Rattle.float.specs.Signs.{abs_num}
use Rattle.float.specs.Standins.{round}
use Rattle.float.specs.Rounding.{round-minus, round_plus, round-itself}
use Rattle.float.proofs.round.Goals as goal

pub returns-then-v : goal.returns-then-v
unfolding round
returns-then-v c = rw (is_nan_lem c.args.v c.if-v.true)

pub float_to_bits-b : goal.float_to_bits-b
float_to_bits-b c = no_nan c.abs-b.result (abs_num c.args.v c.abs-b.result c.abs-b.ensures c.if-v.false)

pub returns-then-b-ge-WHOLE_BITS : goal.returns-then-b-ge-WHOLE_BITS
returns-then-b-ge-WHOLE_BITS c = round-itself c.args.v (to_bits binary64 c.abs-b.result) (holds c.well_formed.0.1) (ap (to_bits binary64) c.abs-b.ensures) c.if-b-ge-WHOLE_BITS.true

pub returns-then-negative : goal.returns-then-negative
returns-then-negative c = round-minus c.args.v (to_bits binary64 c.abs-b.result) c.half_up-size.result (holds c.well_formed.0.1) c.if-v.false (ap (to_bits binary64) c.abs-b.ensures) c.if-b-ge-WHOLE_BITS.false c.half_up-size.ensures.0 (sym c.negative.ensures ∙ c.if-negative.true)

pub returns-else-negative : goal.returns-else-negative
returns-else-negative c = round_plus c.args.v (to_bits binary64 c.abs-b.result) c.half_up-size.result (holds c.well_formed.0.1) c.if-v.false (ap (to_bits binary64) c.abs-b.ensures) c.if-b-ge-WHOLE_BITS.false c.half_up-size.ensures.0 (sym c.negative.ensures ∙ c.if-negative.false)
