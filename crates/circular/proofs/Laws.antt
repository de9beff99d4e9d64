-- The centres on the ring, one by one; one state, and more. Assumes nothing.
use mathlib.Core.Path.{◌≡◌, sym, ap, ◌∙◌}
use mathlib.Core.List.{List, [], ◌∷◌}
use Prim.Native.Nat.{ℕ}
use native.Mathlib.Omega.{arith}
use borrow.Author.Tests.{ne_eqb}
use lib.ListN.{length, set}
use lib.Ieee.{Float}
use Rattle.laws.specs.Flat.{table}
use Rattle.laws.specs.Tables.{zip_tables}
use Rattle.laws.specs.Zip.{zip_by}
use Rattle.float.specs.Constants.{f0}
use Rattle.float.specs.Ops.{◌⊗◌}
use Rattle.shape.specs.declared.«V».{«V»}
use Rattle.shape.specs.Plane.{vec}
use Rattle.shape.specs.Centres.{centres}
use Rattle.circular.specs.Ring.{radius, ring_place, cos_at, sin_at, around_ring, ringed, circular_xs, circular_ys}

-- the centre of state i among n, at the distance r
abbrev pub on_ring : ℕ → ℕ → Float → ℕ → «V»
on_ring n start r i = vec (r ⊗ cos_at n (ring_place n start i)) (r ⊗ sin_at n (ring_place n start i))

pub ring_filled : (n start : ℕ) (r : Float)
    → table (on_ring n start r) 0 n ≡ centres (around_ring cos_at n start r) (around_ring sin_at n start r)
unfolding around_ring
ring_filled n start r = sym (zip_tables vec (λ i. r ⊗ cos_at n (ring_place n start i)) (λ i. r ⊗ sin_at n (ring_place n start i)) 0 n)

module _ (start : ℕ) (label : Float) where
  pub ring_one : (l : List «V») (v : «V») → v ≡ vec f0 f0 → length l ≡ 1
      → set l 0 v ≡ centres (circular_xs (length l) start label) (circular_ys (length l) start label)
  unfolding ringed zip_by
  ring_one [] v e h = absurd (omega arith)
  ring_one (x ∷ []) v e h = ap (λ (w : «V»). w ∷ []) e
  ring_one (x ∷ y ∷ l) v e h = absurd (omega arith)

  pub ring-more : (l : List «V») (n : ℕ) (r : Float) → (n ≡ 1 → ⊥)
      → l ≡ centres (around_ring cos_at n start r) (around_ring sin_at n start r) → r ≡ radius n label
      → l ≡ centres (circular_xs n start label) (circular_ys n start label)
  unfolding ringed
  ring-more l n r h e f =
      rw (ne_eqb n 1 h) (e ∙ ap (λ (s : Float). centres (around_ring cos_at n start s) (around_ring sin_at n start s)) f)
