-- The search over the directions that stops at a cost of 0 takes the direction that the search over all takes. Assumes nothing.
use Rattle.std.specs.Prelude.{◌≡◌, refl, ℕ, suc, ◌-◌, ◌<◌}
use Rattle.std.proofs.Common.{subst, arith}
use Rattle.laws.specs.Best.{best, Cuts, search_from, early_is_best}
use Rattle.directions.specs.Lengths.{directions_some}
use Rattle.scene.specs.Scene.{Scene}
use Rattle.self_loop.specs.Looped.{Loop, direction_count, direction_cost, loop_taken}

-- costs that are not cut
whole : (cost : ℕ → ℕ) → Cuts cost (λ l j. cost j)
whole cost = record { exact = λ l j h. refl; above = λ l j h. h }

pub loop_early : (s : Scene) (l : Loop) (n big : ℕ) → n ≡ direction_count l → direction_cost s l 0 < big → search_from (λ m j. direction_cost s l j) n 0 big 0 ≡ loop_taken s l
unfolding loop_taken
loop_early s l n big e h =
    let k : 0 < direction_count l = directions_some l.rim in
    let f : suc (direction_count l - 1) ≡ direction_count l = omega arith in
    rw e
    (subst (λ (m : ℕ). search_from (λ i j. direction_cost s l j) m 0 big 0 ≡ best (direction_cost s l) m) f
    (early_is_best (direction_cost s l) (λ m j. direction_cost s l j) (whole (direction_cost s l)) (direction_count l - 1) big h))
