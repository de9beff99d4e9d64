-- `cases::fill` meets its contract.
use Rattle.std.proofs.Common.{◌≡◌, ◌-◌, ◌++◌, length, take, ℕ}
use Rattle.cases.specs.Payload.{each}
use Rattle.cases.proofs.fill.Given as goal

abbrev pub invariant-loop-value : goal.invariant-loop-value
invariant-loop-value g l = (r : ℕ → _) → ((place : ℕ) (x : _) → goal.F-post g l.read place x → x ≡ r place)
    → take l.value-index l.out ++ each 8 r l.from (length l.initial.out - l.value-index) ≡ each 8 r l.fn.at (length l.initial.out)
