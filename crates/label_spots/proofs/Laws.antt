-- A spot read from the constant tables is the one listed. Assumes nothing.
use mathlib.Core.Path.{◌≡◌, sym, ap, ap₂, ◌∙◌}
use mathlib.Core.Bool.{Bool, false, cond}
use mathlib.Core.List.{List, map}
use Prim.Native.Nat.{ℕ, ◌<◌}
use native.Mathlib.Omega.{arith}
use lib.ListN.{get_or, get_or-map}
use lib.Ieee.{Float, nan}
use Rattle.laws.specs.Lists.{map_at}
use Rattle.float.specs.Ops as Ops
use Rattle.float.specs.Constants.{f0_5}
use Rattle.shape.specs.declared.«V».{«V»}
use Rattle.shape.specs.declared.Curve.{Curve}
use Rattle.shape.specs.Plane.{mul, neg_v}
use Rattle.shape.specs.Curves.{at}
use Rattle.bend.specs.declared.Shape.{Shape}
use Rattle.bend.specs.declared.Shape.TheVariants.{Line, Arc, Loop}
use Rattle.label_spots.specs.declared.Spot.{Spot}
use Rattle.label_spots.specs.Spots.{Listed, unlisted, nowhere, spot, normal, upper, line_listed, arc_listed, line_spot, arc_spot, label_spots, spot_at, spot_count}

-- the table of positions, and that of sides
position_at : (l : List Listed) (j : ℕ) → get_or (map (λ p. p.0) l) j nan ≡ (get_or l j unlisted).0
position_at l j = get_or-map (λ (p : Listed). p.0) l j unlisted

side-at : (l : List Listed) (j : ℕ) → get_or (map (λ p. p.1) l) j false ≡ (get_or l j unlisted).1
side-at l j = get_or-map (λ (p : Listed). p.1) l j unlisted

pub line_spot_is : (c : Curve) (up : «V») (j : ℕ) (p s : «V») (b : Bool) → p ≡ at c (get_or (map (λ p. p.0) line_listed) j nan) → get_or (map (λ p. p.1) line_listed) j false ≡ b
    → s ≡ cond b up (neg_v up) → spot p s ≡ line_spot c up (get_or line_listed j unlisted)
unfolding line_spot
line_spot_is c up j p s b e₁ e₂ e₃ =
    ap₂ spot (e₁ ∙ ap (at c) (position_at line_listed j)) (e₃ ∙ ap (λ (t : Bool). cond t up (neg_v up)) (sym e₂ ∙ side-at line_listed j))

pub arc_is : (c : Curve) (outer : Float) (j : ℕ) (p n s : «V») (k : Float) (b : Bool) → p ≡ at c (get_or (map (λ p. p.0) arc_listed) j nan)
    → n ≡ normal c (get_or (map (λ p. p.0) arc_listed) j nan) → get_or (map (λ p. p.1) arc_listed) j false ≡ b → k ≡ cond b outer (Ops.neg outer) → s ≡ mul n k
    → spot p s ≡ arc_spot c outer (get_or arc_listed j unlisted)
unfolding arc_spot
arc_is c outer j p n s k b e₁ e₂ e₃ e₄ e₅ =
    let q : get_or (map (λ p. p.0) arc_listed) j nan ≡ (get_or arc_listed j unlisted).0 = position_at arc_listed j in
    ap₂ spot (e₁ ∙ ap (at c) q) (e₅ ∙ ap₂ mul (e₂ ∙ ap (normal c) q) (e₄ ∙ ap (λ (t : Bool). cond t outer (Ops.neg outer)) (sym e₃ ∙ side-at arc_listed j)))

-- spot j, by the shape
module _ (c : Curve) (s : Shape) (j : ℕ) (h : j < spot_count s) where
  pub below-line : s ≡ Line → j < 10
  below-line e = rw e at h

  pub below-arc : (outer : Float) → s ≡ Arc outer → j < 6
  below-arc outer e = rw e at h

  pub at-line : (up : «V») (r : Spot) → s ≡ Line → up ≡ upper c → r ≡ line_spot c up (get_or line_listed j unlisted) → r ≡ spot_at c s j
  unfolding label_spots
  at-line up r e u f = rw e (f ∙ rw u (map_at (line_spot c (upper c)) line_listed j unlisted nowhere (below-line e)))

  pub at-arc : (outer : Float) (r : Spot) → s ≡ Arc outer → r ≡ arc_spot c outer (get_or arc_listed j unlisted) → r ≡ spot_at c s j
  unfolding label_spots
  at-arc outer r e f = rw e (f ∙ map_at (arc_spot c outer) arc_listed j unlisted nowhere (below-arc outer e))

  pub at_loop : (out p : «V») → s ≡ Loop out → p ≡ at c f0_5 → spot p out ≡ spot_at c s j
  unfolding label_spots
  at_loop out p e f =
      let k : j < 1 = rw e at h in
      let z : j ≡ 0 = omega arith in
      rw (e, z, f)
