-- A run over turns. At each turn every listed place gets its full cost in the scene so far, the first least one is taken, and what it brings goes into the scene.
-- S is the scene, T what a turn is given. Everything is a parameter, so that a real diagram is one instance. Assumes nothing.
use Rattle.std.specs.Prelude.{◌≡◌, get_or, take}
use Rattle.std.proofs.Math.Path.{refl, ap}
use Rattle.std.proofs.Common.{sym, ap₂, ◌∙◌}
use mathlib.Core.List.{List, [], ◌∷◌, map}
use Prim.Native.Nat.{ℕ, zero, suc, ◌<◌, zero-le, suc-le-suc}
use Rattle.laws.specs.Best.{best}

module _ {S T : Type 0} (places : S → T → ℕ) (cost : S → T → ℕ → ℕ) (after : S → T → ℕ → S) where
  -- the place taken at a turn: a turn has at least one place, `suc (places s t)` in all
  abbrev pub taken_by : S → T → ℕ
  taken_by s t = best (cost s t) (suc (places s t))

  -- the places taken, in the order of the turns
  unfoldable pub run : S → List T → List ℕ
  run s [] = []
  run s (t ∷ ts) = taken_by s t ∷ run (after s t (taken_by s t)) ts

  -- the scene at turn k
  unfoldable pub run_scene : S → List T → ℕ → S
  run_scene s [] k = s
  run_scene s (t ∷ ts) zero = s
  run_scene s (t ∷ ts) (suc k) = run_scene (after s t (taken_by s t)) ts k

  -- (2) the first k records come from the first k turns alone
  pub run_take : (k : ℕ) (s : S) (ts : List T) → take k (run s ts) ≡ run s (take k ts)
  unfolding run
  run_take zero s ts = refl
  run_take (suc k) s [] = refl
  run_take (suc k) s (t ∷ ts) = ap (λ (r : List ℕ). taken_by s t ∷ r) (run_take k (after s t (taken_by s t)) ts)

  -- so two runs whose turns agree up to k have the same records up to k
  pub run_agree : (k : ℕ) (s : S) (ts us : List T) → take k ts ≡ take k us → take k (run s ts) ≡ take k (run s us)
  run_agree k s ts us e = run_take k s ts ∙ ap (run s) e ∙ sym (run_take k s us)

-- Turns made from one order, which no label enters, with f and g for the labels of two sheets: where f and g agree on the first k of the order, so do the turns.
pub map_agree : {A T : Type 0} (f g : A → T) (k : ℕ) (order : List A) (d : A) → ((j : ℕ) → j < k → f (get_or order j d) ≡ g (get_or order j d)) → take k (map f order) ≡ take k (map g order)
map_agree f g zero order d h = refl
map_agree f g (suc k) [] d h = refl
map_agree {T = T} f g (suc k) (a ∷ order) d h =
    ap₂ (λ (x : T) (y : List T). x ∷ y) (h 0 (suc-le-suc zero-le)) (map_agree f g k order d (λ j l. h (suc j) (suc-le-suc l)))
