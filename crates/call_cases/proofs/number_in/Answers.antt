-- `call_cases::number_in` meets its contract. Assumes nothing.
use mathlib.Core.Path.{◌≡◌, ap, ◌∙◌}
use Prim.Native.Nat.{ℕ, ◌+◌, ◌-◌}
use native.Mathlib.Omega.{arith}
use lib.ListN.{take, drop}
use Rattle.calls.specs.Calls.{write_num, write_num_after}
use Rattle.call_cases.specs.Laws.{middle_back}
use Rattle.call_cases.proofs.number_in.Goals as goal

pub returns : goal.returns
returns c = let e : 16 + c.args.room - 16 ≡ c.args.room = omega arith in
    (c.write_num.ensures.0 ∙ ap (λ (k : ℕ). write_num c.args.v (take k (drop 16 c.args.out.now))) e, middle_back c.args.room _ c.args.out.now _ (write_num_after c.args.v) e (c.write_num.ensures.1 ∙ ap (λ (k : ℕ). write_num_after c.args.v (take k (drop 16 c.args.out.now))) e))
