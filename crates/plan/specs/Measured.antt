-- Refusal 9 of a layout: "A layout is refused by 9 if any drawing it measures is."
use Rattle.std.specs.Prelude.{Bool, false, cond, List, [], ◌∷◌, ℕ, zero, suc, eqb}
use Rattle.laws.specs.Any.{any_of}
use Rattle.beyond.specs.Beyond.{beyond}
use Rattle.layout.specs.Layout.{Plan, many, Placing, layers, ring, plan_frame, is_dense}

-- the drawing at these centres is refused
abbrev pub beyond_at : Plan → Placing → Bool
beyond_at p c = beyond (plan_frame p c)

unfoldable pub any_beyond : Plan → List Placing → Bool
any_beyond p cs = any_of (beyond_at p) cs

-- the centres whose drawing it measures, by kind: for clutter both, where Auto has to compare; to fit it, the one chosen
unfoldable pub measured : ℕ → Plan → List Placing
measured zero p = cond (is_dense p) (ring p ∷ []) (layers p ∷ ring p ∷ [])
measured (suc zero) p = layers p ∷ []
measured (suc (suc zero)) p = ring p ∷ []
measured (suc (suc (suc k))) p = []

-- no states: nothing is drawn
unfoldable pub layout_beyond : ℕ → Plan → Bool
layout_beyond kind p = cond (eqb (many p) 0) false (any_beyond p (measured kind p))
