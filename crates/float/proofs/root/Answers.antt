-- `float::root` meets its contract.
use mathlib.Core.Path.{ap}
use borrow.Author.Tests.{eq-eqb, ne_eqb, le-leb, lt-leb}
use lib.Ieee.{binary64, of_bits, is_nan}
use Rattle.float.specs.Standins.{root, root_of}
use Rattle.laws.specs.Nan.{is_nan_lem, is_num, no_nan, no_nan_bits}
use Rattle.float.proofs.root.Goals as goal

pub returns-then-v : goal.returns-then-v
unfolding root is_nan
returns-then-v c = rw (is_nan_lem c.args.v c.if-v.true)

pub float_to_bits-b : goal.float_to_bits-b
float_to_bits-b c = no_nan c.args.v c.if-v.false

pub returns-then-b-eq0 : goal.returns-then-b-eq0
unfolding root root_of
returns-then-b-eq0 c = rw (is_num c.args.v c.if-v.false, eq-eqb _ _ c.if-b-eq0.true)

pub returns-then-b : goal.returns-then-b
unfolding root root_of
returns-then-b c = rw (is_num c.args.v c.if-v.false, ne_eqb _ _ c.if-b-eq0.false, eq-eqb _ _ c.if-b.true)

pub returns-then-b-ge-SIGN : goal.returns-then-b-ge-SIGN
unfolding root root_of
returns-then-b-ge-SIGN c = rw (is_num c.args.v c.if-v.false, ne_eqb _ _ c.if-b-eq0.false, ne_eqb _ _ c.if-b.false, le-leb _ _ c.if-b-ge-SIGN.true)

pub returns-then-b-ge-INFINITY_BITS : goal.returns-then-b-ge-INFINITY_BITS
unfolding root root_of
returns-then-b-ge-INFINITY_BITS c = rw (is_num c.args.v c.if-v.false, ne_eqb _ _ c.if-b-eq0.false, ne_eqb _ _ c.if-b.false, lt-leb _ _ c.if-b-ge-SIGN.false, le-leb _ _ c.if-b-ge-INFINITY_BITS.true)

pub float_from_bits-result : goal.float_from_bits-result
float_from_bits-result c = no_nan_bits c.root_bits.result c.root_bits.ensures.1

pub returns : goal.returns
unfolding root root_of
returns c = rw (is_num c.args.v c.if-v.false, ne_eqb _ _ c.if-b-eq0.false, ne_eqb _ _ c.if-b.false, lt-leb _ _ c.if-b-ge-SIGN.false, lt-leb _ _ c.if-b-ge-INFINITY_BITS.false) (ap (of_bits binary64) c.root_bits.ensures.0)
