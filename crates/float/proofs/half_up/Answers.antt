-- `float::half_up` meets its contract.
use mathlib.Core.Path.{sym}
use Prim.Native.Nat.{◌+◌, ◌-◌, ◌/◌, ◌%◌, ◌^◌, ◌≤◌, ◌<◌}
use native.Mathlib.Omega.{arith}
use lib.Bits.{and_mask}
use Rattle.float.specs.Rounding.{half_none, half_shifted, half_small}
use Rattle.float.proofs.half_up.Goals as goal

pub returns-then-field-lt1022 : goal.returns-then-field-lt1022
returns-then-field-lt1022 c = (sym (half_none c.args.b c.if-field-lt1022.true), omega arith)

pub returns : goal.returns
returns c = let b = c.args.b in let l : b / 2 ^ 52 < 1075 = omega (arith, c.requires) in let g : 1022 ≤ b / 2 ^ 52 = omega arith in rw (and_mask b 52) (sym (half_shifted b (1074 - b / 2 ^ 52) (omega arith) (omega arith)), half_small (2 ^ 52 + b % 2 ^ 52) (1074 - b / 2 ^ 52) (omega arith))
