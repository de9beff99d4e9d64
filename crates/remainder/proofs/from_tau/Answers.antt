-- `remainder::from_tau` meets its contract.
use mathlib.Core.Path.{ap, ◌∙◌}
use mathlib.Core.Bool.{false}
use lib.Bits.{and_mask}
use Prim.Native.Nat.{ℕ, ◌+◌, ◌-◌, ◌*◌, ◌/◌, ◌%◌, ◌^◌}
use lib.Ieee.{binary64, round}
use Rattle.laws.specs.Nan.{no_nan_bits}
use Rattle.remainder.specs.Tau.{significand, shifted_bits, rem_once, rem_from, quotient_is, small-enough}
use Rattle.remainder.proofs.from_tau.Goals as goal

pub float_from_bits-result : goal.float_from_bits-result
float_from_bits-result c = no_nan_bits c.args.size c.requires.1

pub returns-then-size-lt-TWICE_BITS : goal.returns-then-size-lt-TWICE_BITS
returns-then-size-lt-TWICE_BITS c = rem_once c.args.size c.requires.0 c.if-size-lt-TWICE_BITS.true

pub returns : goal.returns
returns c = let b = c.args.size in
    let r = c.reduce-r.result in
    let e = c.reduce-r.ensures ∙ ap (λ (y : ℕ). (2 ^ 52 + y) * 2 ^ (b / 2 ^ 52 - 1025) % significand) (and_mask b 52) in
    quotient_is r (small-enough (shifted_bits b) r e)
    ∙ ap (λ (n : ℕ). round binary64 false n (2 ^ 50)) e
    ∙ rem_from b c.requires.0 c.requires.1
