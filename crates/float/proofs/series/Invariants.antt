-- `float::series` meets its contract.
use mathlib.Core.Path.{◌≡◌}
use Prim.Native.Nat.{ℕ, ◌-◌}
use Rattle.laws.specs.Loops.{down}
use Rattle.float.specs.Standins.{series, term}
use Rattle.float.proofs.series.Given as goal

abbrev pub invariant-loop-k : goal.invariant-loop-k
invariant-loop-k g l = (d : ℕ → ℕ) → ((k n : ℕ) → goal.F-post g l.divisor k n → n ≡ d k) → down (λ j. term l.z (d j)) (l.k - 1) l.t ≡ series d l.z
