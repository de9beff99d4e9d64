-- The centres that a layout chooses are among those whose drawing it measures. Assumes nothing.
use Rattle.std.specs.Prelude.{◌≡◌, refl, false, List, [], ◌∷◌, ℕ, zero, suc, ◌≤◌, ◌<◌, eqb, length, get_or}
use Rattle.std.proofs.Common.{sym, ap, ◌∙◌, arith}
use Rattle.laws.specs.Cases.{by_bool}
use Rattle.laws.specs.Any.{any_of, none_at}
use Rattle.layout.specs.Layout.{Plan, Placing, placing, many, layers, ring, is_dense, is_tangled, takes_ring, last_kind, chosen}
use Rattle.plan.specs.Measured.{beyond_at, any_beyond, measured, layout_beyond}

-- a place in the list where x stands
pub record Among (x : Placing) (l : List Placing) : Type 0 where
  pub place : ℕ
  pub inside : place < length l
  pub there : get_or l place (placing [] []) ≡ x

first : (x : Placing) (l : List Placing) → Among x (x ∷ l)
first x l = record { place = 0; inside = omega arith; there = refl }

second : (x y : Placing) → Among y (x ∷ y ∷ [])
second x y = record { place = 1; inside = omega arith; there = refl }

pub chosen-measured : (kind : ℕ) (p : Plan) → kind ≤ last_kind → Among (chosen kind p) (measured kind p)
unfolding chosen takes_ring measured
chosen-measured zero p h =
    by_bool (is_dense p) (λ d. rw d (first (ring p) []))
    (λ d. by_bool (is_tangled p) (λ t. rw (d, t) (second (layers p) (ring p))) (λ t. rw (d, t) (first (layers p) (ring p ∷ []))))
chosen-measured (suc zero) p h = first (layers p) []
chosen-measured (suc (suc zero)) p h = first (ring p) []
chosen-measured (suc (suc (suc k))) p h = absurd (omega arith)

-- "A layout is refused by 9 if any drawing it measures is": where it is not, neither is the drawing at the centres chosen
pub chosen-within : (kind : ℕ) (p : Plan) → kind ≤ last_kind → eqb (many p) 0 ≡ false → layout_beyond kind p ≡ false → beyond_at p (chosen kind p) ≡ false
unfolding layout_beyond any_beyond
chosen-within kind p k some h =
    let m : Among (chosen kind p) (measured kind p) = chosen-measured kind p k in
    let none : any_of (beyond_at p) (measured kind p) ≡ false = rw some at h in
    ap (beyond_at p) (sym m.there) ∙ none_at (beyond_at p) (measured kind p) m.place (placing [] []) none m.inside
