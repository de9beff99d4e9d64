-- What the code answers and leaves, step by step, is what the definitions say. Assumes nothing.
use Rattle.std.specs.Prelude.{◌≡◌, refl, map, ℕ, ◌≤◌, length, Float}
use Rattle.std.specs.List.{fold}
use Rattle.std.proofs.Common.{sym, ◌∙◌, subst, arith, ne_eqb}
use Rattle.std.proofs.Math.Path.{ap, ap₂}
use mathlib.Core.List.{List, [], ◌∷◌}
use Rattle.laws.specs.Loops.{over}
use Rattle.laws.specs.Zip.{zip_by, map_zip_first, map_zip_second}
use Rattle.float.specs.Constants.{f0}
use Rattle.float.specs.Standins.{max}
use Rattle.circular.specs.Ring.{largest}
use Rattle.shape.specs.declared.«V».{«V»}
use Rattle.shape.specs.Plane.{vec}
use Rattle.shape.specs.Centres.{centres}
use Rattle.label_spots.specs.declared.Geometry.{Geometry}
use Rattle.routing.specs.Routing.{BlockSize, records}
use Rattle.routing_laws.proofs.Decoded.{records_most}
use Rattle.curves.specs.Counted.{counted, frame_from}
use Rattle.clutter.specs.Clutter.{clutter_of}
use Rattle.clutter.specs.Bounds.{clutter-le}
use Rattle.fit.specs.Fit.{fit_xs, fit_ys, fit_size}
use Rattle.fit.specs.declared.Size.{Size}
use Rattle.layout.specs.declared.Placement.{Placement}
use Rattle.layout.specs.declared.Placement.TheVariants.{Layers, Ring}
use Rattle.layout.specs.Layout.{Plan, many, Placing, placed, centres_of, plan_frame, records_at, clutter_at, chosen, no_states, fitted, layout_of}
use Rattle.layout.specs.Lent.{placing_of, Left}
use Rattle.layout.specs.Alike.{OneEach, layers-whole, ring-whole}

-- ---- the largest label, by the library's fold

pub largest_of : (f : BlockSize → Float) (l : List BlockSize) → fold (λ a z. max a (f z)) f0 l ≡ largest (map f l)
unfolding largest over
largest_of f l = go f0 l
  where
    go : (a : Float) (l : List BlockSize) → fold (λ b z. max b (f z)) a l ≡ over max a (map f l)
    go a [] = refl
    go a (z ∷ l) = go (max a (f z)) l

-- ---- points and their x and y

centres_back : (cs : List «V») → centres (map (λ c. c.x) cs) (map (λ c. c.y) cs) ≡ cs
unfolding zip_by
centres_back [] = refl
centres_back (c ∷ cs) = ap (λ (l : List «V»). c ∷ l) (centres_back cs)

placing_back : (p : Plan) (c : Placing) → OneEach p c → placing_of (centres_of c) ≡ c
placing_back p c w =
    let h : length c.ys ≡ length c.xs = omega (arith, w.0, w.1) in
    rw (map_zip_first vec (λ v. v.x) (λ a b. refl) c.xs c.ys h, map_zip_second vec (λ v. v.y) (λ a b. refl) c.xs c.ys h) refl

placed-whole : (q : Placement) (p : Plan) → OneEach p (placed q p)
placed-whole Layers p = layers-whole p
placed-whole Ring p = ring-whole p

-- the points of a placement are its centres
pub placed_points : (q : Placement) (p : Plan) (cs : List «V») → cs ≡ centres_of (placed q p) → placing_of cs ≡ placed q p
placed_points q p cs e = ap placing_of e ∙ placing_back p (placed q p) (placed-whole q p)

-- ---- the drawing at given centres

module _ (p : Plan) (cs : List «V») where
  -- the frame of a placement
  pub frame_placed : (q : Placement) → cs ≡ centres_of (placed q p) → frame_from p.flags cs p.arrows ≡ plan_frame p (placed q p)
  frame_placed q k = ap (plan_frame p) (placed_points q p cs k)

  module _ (gs : List Geometry) (g : gs ≡ records (frame_from p.flags cs p.arrows) p.sizes) where
    drawn_are : gs ≡ records_at p (placing_of cs)
    drawn_are = g

    -- ns are the centres as they count
    pub clutter_counted : (ns : List «V») → ns ≡ counted cs (many p) → (m : ℕ) → m ≡ clutter_of ns gs → m ≡ clutter_at p (placing_of cs)
    unfolding clutter_at
    clutter_counted ns e m k = k ∙ ap₂ clutter_of e drawn_are

    pub fitted_left : (s : Size) (qs : List «V») → s ≡ fit_size p.flags cs gs
        → qs ≡ centres (fit_xs p.flags cs gs (map (λ c. c.x) cs)) (fit_ys p.flags cs gs (map (λ c. c.y) cs))
        → Left (fitted p (placing_of cs)) s qs
    unfolding fitted
    fitted_left s qs z k =
        let xs = map (λ (c : «V»). c.x) cs in
        let ys = map (λ (c : «V»). c.y) cs in
        let y : s ≡ fit_size p.flags (centres xs ys) (records_at p (placing_of cs)) = z
        ∙ ap₂ (fit_size p.flags) (sym (centres_back cs)) drawn_are in
        record {
          width = ap (λ (t : Size). t.width) y;
          height = ap (λ (t : Size). t.height) y;
          centres = k ∙ ap₂ (λ (l : List «V») (r : List Geometry). centres (fit_xs p.flags l r xs) (fit_ys p.flags l r ys))
              (sym (centres_back cs)) drawn_are;
        }

-- a count is small
pub clutter_most : (p : Plan) (c : Placing) → length p.arrows ≤ 256 → clutter_at p c ≤ 65792
unfolding clutter_at
clutter_most p c m = clutter-le (plan_frame p c).centres (records_at p c) (omega (arith, records_most (plan_frame p c) p.sizes))

-- ---- the layout

-- no states
pub left_none : (kind : ℕ) (p : Plan) (r : Size) (cs : List «V») → many p ≡ 0 → length cs ≡ many p → r.width ≡ no_states.width
    → r.height ≡ no_states.height → Left (layout_of kind p) r cs
unfolding layout_of zip_by
left_none kind p r [] n a w h = record { width = rw n w; height = rw n h; centres = rw n refl }
left_none kind p r (c ∷ cs) n a w h = absurd (omega arith)

-- the fit of what is chosen
pub left_chosen : (kind : ℕ) (p : Plan) (c : Placing) (r : Size) (cs : List «V») → (many p ≡ 0 → ⊥) → c ≡ chosen kind p
    → Left (fitted p c) r cs
    → Left (layout_of kind p) r cs
unfolding layout_of
left_chosen kind p c r cs n e h = rw (ne_eqb _ _ n) (subst (λ (b : Placing). Left (fitted p b) r cs) e h)
