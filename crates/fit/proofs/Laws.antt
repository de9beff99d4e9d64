-- What the states, an arrow and all arrows cover, how that joins, and the shift. Assumes nothing.
use mathlib.Core.Path.{◌≡◌, refl, sym, ap, ap₂, ◌∙◌}
use mathlib.Core.Bool.{true, false}
use mathlib.Core.List.{List, [], ◌∷◌, map, flat_map}
use Prim.Native.Nat.{ℕ}
use Rattle.laws.specs.Flat.{table}
use Rattle.laws.specs.Zip.{zip_by}
use Rattle.float.specs.Constants.{margin, node_radius, start_arrow_length}
use Rattle.float.specs.Ops.{◌⊕◌, ◌⊖◌}
use Rattle.shape.specs.declared.«V».{«V»}
use Rattle.shape.specs.declared.Rect.{Rect}
use Rattle.shape.specs.Plane.{vec, add, no_bounds, extended}
use Rattle.trace.specs.Traces.{sample, bounds_of}
use Rattle.shape.specs.Centres.{centres}
use Rattle.label_spots.specs.declared.Geometry.{Geometry}
use Rattle.sheet.specs.Meaning.{is_start}
use Rattle.fit.specs.Fit.{state_points, states_points, drawn_points, covered, drawing_bounds, shifted, fit_xs, fit_ys}
use Rattle.std.specs.List.{fold, zip, range_with_len}
use Rattle.std.proofs.lemmas.List.Sums.{fold-append}
use Rattle.std.proofs.lemmas.List.Folds.{fold-map}
use Rattle.trace.proofs.Laws.{table_list}
use Rattle.shape.specs.declared.Curve.{Curve}

-- ---- the states

-- p, q and t are the points as the code makes them
module _ (b low around r : Rect) (flag : ℕ) (c p q : «V») (ep : p ≡ vec (c.x ⊖ node_radius) (c.y ⊖ node_radius))
    (e : low ≡ extended b p) (eq : q ≡ vec (c.x ⊕ node_radius) (c.y ⊕ node_radius)) (f : around ≡ extended low q) where
  pub state_start : (t : «V») → is_start flag ≡ true → t ≡ vec (c.x ⊖ node_radius ⊖ start_arrow_length) c.y → r ≡ extended around t
      → r ≡ fold extended b (state_points flag c)
  unfolding state_points
  state_start t s et h = rw (s, h, f, e, et, eq, ep)

  pub state_other : is_start flag ≡ false → around ≡ fold extended b (state_points flag c)
  unfolding state_points
  state_other s = rw (s, f, e, eq, ep)

pub states_covered : (b : Rect) (flags : List ℕ) (cs : List «V»)
    → fold (λ b p. fold extended b (state_points p.0 p.1)) b (zip flags cs) ≡ fold extended b (states_points flags cs)
unfolding states_points
states_covered b [] cs = refl
states_covered b (flag ∷ flags) [] = refl
states_covered b (flag ∷ flags) (c ∷ cs) =
    states_covered (fold extended b (state_points flag c)) flags cs
    ∙ sym (fold-append extended b (state_points flag c) (states_points flags cs))

-- ---- an arrow, and all

pub curve_covered : (b : Rect) (c : Curve) → fold (λ b k. extended b (sample c k)) b (range_with_len 0 17) ≡ fold extended b (table (sample c) 0 17)
curve_covered b c = rw (table_list (sample c) 0 17) (sym (fold-map extended (sample c) b (range_with_len 0 17)))

pub arrows_covered : (b : Rect) (gs : List Geometry) → fold (λ b g. fold extended b (drawn_points g)) b gs ≡ fold extended b (flat_map drawn_points gs)
unfolding flat_map
arrows_covered b [] = refl
arrows_covered b (g ∷ gs) =
    arrows_covered (fold extended b (drawn_points g)) gs
    ∙ sym (fold-append extended b (drawn_points g) (flat_map drawn_points gs))

two_more : (b : Rect) (p q : «V») → extended (extended b p) q ≡ fold extended b (p ∷ q ∷ [])
two_more b p q = refl

pub drawn-covered : (b along first r : Rect) (g : Geometry) (m n : «V») → along ≡ fold extended b (table (sample g.curve) 0 17)
    → m ≡ vec g.label_box.x0 g.label_box.y0 → first ≡ extended along m → n ≡ vec g.label_box.x1 g.label_box.y1
    → r ≡ extended first n → r ≡ fold extended b (drawn_points g)
unfolding drawn_points
drawn-covered b along first r g m n e em f en h =
    let p : List «V» = table (sample g.curve) 0 17 in
    let x : «V» = vec g.label_box.x0 g.label_box.y0 in
    let y : «V» = vec g.label_box.x1 g.label_box.y1 in
    h ∙ ap₂ extended (f ∙ ap₂ extended e em) en
    ∙ two_more (fold extended b p) x y
    ∙ sym (fold-append extended b p (x ∷ y ∷ []))

pub all-covered : (flags : List ℕ) (cs : List «V») (gs : List Geometry) (n states b : Rect) → n ≡ no_bounds
    → states ≡ fold extended n (states_points flags cs)
    → b ≡ fold extended states (flat_map drawn_points gs) → b ≡ drawing_bounds flags cs gs
unfolding drawing_bounds bounds_of covered
all-covered flags cs gs n states b z e f =
    f ∙ ap (λ (s : Rect). fold extended s (flat_map drawn_points gs)) (e ∙ ap (λ (s : Rect). fold extended s (states_points flags cs)) z)
    ∙ sym (fold-append extended no_bounds (states_points flags cs) (flat_map drawn_points gs))

-- ---- the shift

moved : (low : «V») (cs : List «V»)
    → map (λ c. add c (vec (margin ⊖ low.x) (margin ⊖ low.y))) cs
    ≡ centres (shifted low.x (map (λ c. c.x) cs)) (shifted low.y (map (λ c. c.y) cs))
unfolding shifted zip_by
moved low [] = refl
moved low (c ∷ cs) = ap (λ (l : List «V»). add c (vec (margin ⊖ low.x) (margin ⊖ low.y)) ∷ l) (moved low cs)

pub fitted : (flags : List ℕ) (cs : List «V») (gs : List Geometry) (b : Rect) (v : «V») (l : List «V»)
    → b ≡ drawing_bounds flags cs gs → v ≡ vec (margin ⊖ b.x0) (margin ⊖ b.y0)
    → l ≡ map (λ c. add c v) cs → l ≡ centres (fit_xs flags cs gs (map (λ c. c.x) cs)) (fit_ys flags cs gs (map (λ c. c.y) cs))
fitted flags cs gs b v l eb ev el =
    el ∙ ap (λ (w : «V»). map (λ c. add c w) cs) ev ∙ moved (vec b.x0 b.y0) cs
    ∙ ap (λ (r : Rect). centres (shifted r.x0 (map (λ c. c.x) cs)) (shifted r.y0 (map (λ c. c.y) cs))) eb
