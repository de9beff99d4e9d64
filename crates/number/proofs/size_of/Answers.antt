-- `number::size_of` meets its contract.
use Rattle.std.proofs.Common.{sym, ap, ◌∙◌}
use Rattle.float.specs.Ops.{lt}
use Rattle.float.specs.Constants.{f1e13}
use lib.Ieee.{Float}
use Rattle.number.specs.Rounded.{hundredths_rounded}
use Rattle.number.proofs.Laws.{size_below, size_none}
use Rattle.number.proofs.size_of.Goals as goal

pub truncating_f64_to_u64-requires : goal.truncating_f64_to_u64-requires
truncating_f64_to_u64-requires c = let r = hundredths_rounded c.args.v (sym (ap (λ (x : Float). lt x f1e13) c.abs.ensures) ∙ c.if-abs.true) in rw (c.abs-then-abs.ensures, c.round.ensures) (record { lower_bound = r.low; upper_bound = r.high })

pub returns-then-abs : goal.returns-then-abs
returns-then-abs c = size_below c.args.v c.abs.result c.round.result c.abs-then-abs.result c.truncating_f64_to_u64.result c.abs.ensures c.if-abs.true c.round.ensures c.abs-then-abs.ensures c.truncating_f64_to_u64.ensures

pub returns : goal.returns
returns c = size_none c.args.v c.abs.result c.abs.ensures c.if-abs.false
