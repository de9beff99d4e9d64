-- `remainder::rem_tau` meets its contract.
use mathlib.Core.Path.{ap, ◌∙◌}
use native.Mathlib.Omega.{arith}
use lib.Bits.{bit_and, and_mask}
use lib.Ieee.{binary64, to_bits}
use lib.Ieee as Ieee
use Rattle.laws.specs.Cases.{holds}
use Rattle.laws.specs.Nan.{is_nan_lem, no_nan}
use Rattle.remainder.specs.Tau.{rem_nan, small_is, infinite_is, plus_is, minus_is}
use Rattle.remainder.proofs.rem_tau.Goals as goal

pub returns-then-a : goal.returns-then-a
returns-then-a c = rw (is_nan_lem c.args.a c.if-a.true) rem_nan

pub float_to_bits-b : goal.float_to_bits-b
float_to_bits-b c = no_nan c.args.a c.if-a.false

pub returns-then-size-lt-TAU_BITS : goal.returns-then-size-lt-TAU_BITS
returns-then-size-lt-TAU_BITS c = let a = c.args.a in small_is a (holds c.well_formed.0.1) c.if-a.false (omega (arith, and_mask (to_bits binary64 a) 63))

pub returns-then-size-ge-INFINITY_BITS : goal.returns-then-size-ge-INFINITY_BITS
returns-then-size-ge-INFINITY_BITS c = let a = c.args.a in infinite_is a (holds c.well_formed.0.1) c.if-a.false (omega (arith, and_mask (to_bits binary64 a) 63))

pub returns-then-b-size : goal.returns-then-b-size
returns-then-b-size c = let a = c.args.a in
    c.from_tau-v.ensures ∙ plus_is a (bit_and (to_bits binary64 a) 9223372036854775807) (holds c.well_formed.0.1) c.if-b-size.true

pub returns-else-b-size : goal.returns-else-b-size
returns-else-b-size c = let a = c.args.a in
    let b = to_bits binary64 a in
    ap Ieee.neg c.from_tau-v.ensures
    ∙ minus_is a (bit_and b 9223372036854775807) (holds c.well_formed.0.1) c.if-a.false (and_mask b 63) c.if-size-ge-INFINITY_BITS.false c.if-b-size.false
