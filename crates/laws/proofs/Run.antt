-- A run over turns takes the first least place at each. Assumes nothing.
use Rattle.std.specs.Prelude.{length, get_or}
use Rattle.std.proofs.Common.{le_of_suc-le-suc, not-suc-le-zero}
use mathlib.Core.List.{List, [], ◌∷◌}
use Prim.Native.Nat.{ℕ, zero, suc, ◌<◌}
use Rattle.laws.specs.Best.{FirstLeast}
use Rattle.laws.specs.Run.{taken_by, run, run_scene}
use Rattle.laws.proofs.Best.{best_is}

module _ {S T : Type 0} (places : S → T → ℕ) (cost : S → T → ℕ → ℕ) (after : S → T → ℕ → S) where
  -- (1) at each turn the place taken is the first least of those listed, by its full cost in the scene of that turn
  pub run_least : (s : S) (ts : List T) (k : ℕ) (d : T) → k < length ts →
      FirstLeast (cost (run_scene places cost after s ts k) (get_or ts k d)) (suc (places (run_scene places cost after s ts k) (get_or ts k d))) (get_or (run places cost after s ts) k 0)
  unfolding run run_scene
  run_least s [] k d h = absurd (not-suc-le-zero h)
  run_least s (t ∷ ts) zero d h = best_is (cost s t) (places s t)
  run_least s (t ∷ ts) (suc k) d h = run_least (after s t (taken_by places cost after s t)) ts k d (le_of_suc-le-suc h)
