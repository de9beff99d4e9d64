-- What each thing adds to a loop's cost, by the code's tests; the states but one, as a loop meets them; bounds and reads. Assumes nothing.
use mathlib.Core.Path.{◌≡◌, refl, sym, ap, ◌∙◌}
use mathlib.Core.Bool.{Bool, true, false, cond}
use mathlib.Core.List.{List, [], ◌∷◌, ◌++◌, map}
use Prim.Native.Nat.{ℕ, zero, suc, ◌+◌, ◌*◌, ◌≤◌, ◌<◌}
use native.Mathlib.Numerals.{add-one}
use native.Mathlib.Omega.{arith}
use lib.ListN.{length, get_or, take, drop}
use lib.Ieee.{Float, nan}
use Rattle.laws.specs.Best.{search_from}
use Rattle.laws.specs.Counting.{how_many, how_many-le}
use Rattle.laws.specs.Lists.{get_d_any}
use Rattle.laws.specs.Chains.{how_many_list}
use Rattle.std.specs.List.{count_by}
use Rattle.float.specs.Constants.{f0_5, cramped_room}
use Rattle.float.specs.Ops.{lt}
use Rattle.shape.specs.declared.«V».{«V»}
use Rattle.shape.specs.declared.Curve.{Curve}
use Rattle.shape.specs.Plane.{polar}
use Rattle.shape.specs.Curves.{at}
use Rattle.trace.specs.Traces.{Trace, crossed, near25, arrow, trace_of}
use Rattle.bend.specs.declared.Routed.{Routed}
use Rattle.bend.specs.declared.Shape.TheVariants as Shape
use Rattle.label_spots.specs.declared.Geometry.{Geometry}
use Rattle.label_spots.specs.Spots.{label_spots, spot}
use Rattle.label_spots.specs.Labels.{labelled}
use Rattle.scene.specs.Scene.{Scene, box_cost}
use Rattle.scene.specs.Cut.{cost-le}
use Rattle.directions.specs.Directions.{directions, room, upwards}
use Rattle.self_loop.specs.Looped.{Loop, loop_routed, loop_at, loop_drawn, states_but, cramped, loop_adds, loop_cost, direction_cost, loop_taken, loop_least}
use Rattle.self_loop.specs.Early.{loop_early}

-- ---- the drawing

abbrev pub loop_route_as : Curve → Float → «V» → Routed
loop_route_as k a o = record { curve = k; tip_angle = a; shape = Shape.Loop o }

pub drawn_is : (edge : ℕ) (c : «V») (width height phi : Float) (r : Routed) (p o : «V») (g : Geometry) → r ≡ loop_routed c phi → p ≡ at r.curve f0_5 → o ≡ polar phi
    → g ≡ labelled (record { edge = edge; arrow = r; width = width; height = height }) (spot p o) → g ≡ loop_at edge c width height phi
unfolding loop_at label_spots
drawn_is edge c width height phi r p o g e₁ e₂ e₃ e₄ = e₄ ∙ rw (e₂, e₁, e₃)

drawn_edge : (l : Loop) (phi : Float) → (loop_drawn l phi).edge ≡ l.edge
unfolding loop_at labelled
drawn_edge l phi = refl

-- ---- the states but one

pub others-split : (k : ℕ) (l : List «V») → k < length l → states_but k l ≡ take k l ++ drop (k + 1) l
unfolding states_but
others-split k [] h = absurd (omega (arith, h))
others-split zero (c ∷ l) h = refl
others-split (suc k) (c ∷ l) h = let rest = others-split k l (omega (arith, h)) in rw add-one (ap (λ (r : List «V»). c ∷ r) (rw add-one at rest))

others_le : (k : ℕ) (l : List «V») → length (states_but k l) ≤ length l
unfolding states_but
others_le k [] = omega arith
others_le zero (c ∷ l) = omega arith
others_le (suc k) (c ∷ l) = omega (arith, others_le k l)

how_many_map : {A B : Type 0} (p : B → Bool) (f : A → B) (l : List A) → how_many p (map f l) ≡ how_many (λ x. p (f x)) l
unfolding how_many
how_many_map p f [] = refl
how_many_map p f (x ∷ l) = ap (λ (n : ℕ). cond (p (f x)) 1 0 + n) (how_many_map p f l)

pub how_many_of : {A B : Type 0} (p : B → Bool) (f : A → B) (l : List A) → count_by (λ x. p (f x)) l ≡ how_many p (map f l)
how_many_of p f l = sym (how_many_map p f l ∙ how_many_list (λ x. p (f x)) l)

pub how_many_others : (p : «V» → Bool) (k : ℕ) (l : List «V») → k < length l → count_by p (take k l ++ drop (k + 1) l) ≡ how_many p (states_but k l)
how_many_others p k l h = sym (ap (how_many p) (others-split k l h) ∙ how_many_list p (take k l ++ drop (k + 1) l))

-- ---- costs

pub cramped_is : (phi : Float) (rim : List Float) (r : Float) (b : Bool) → r ≡ room phi rim → lt r cramped_room ≡ b → cond b 20 0 ≡ cramped phi rim
unfolding cramped
cramped_is phi rim r b e f = rw (← e, f)

pub adds_is : (cs : List «V») (ts : List Trace) (edge node : ℕ) (rim : List Float) (phi : Float) (t looped : Trace) (a b c : ℕ) → looped ≡ t
    → a ≡ 10 * how_many (near25 looped) (states_but node cs) → b ≡ 3 * how_many (crossed edge looped) ts → c ≡ cramped phi rim → a + b + c ≡ loop_adds cs ts edge node rim phi t
unfolding loop_adds
adds_is cs ts edge node rim phi t looped a b c e₁ e₂ e₃ e₄ = rw (e₂, e₃, e₄, e₁)

pub cost_is : (s : Scene) (l : Loop) (phi : Float) (g : Geometry) (c m : ℕ) → g ≡ loop_drawn l phi → c ≡ box_cost s l.edge g.label_box
    → m ≡ loop_adds s.centres s.traces l.edge l.node l.rim phi (trace_of (arrow l.edge) g.curve) → c + m ≡ loop_cost s l phi
unfolding loop_cost
cost_is s l phi g c m e₁ e₂ e₃ = rw (e₂, e₃, e₁, drawn_edge l phi)

cramped-le : (phi : Float) (rim : List Float) → cramped phi rim ≤ 20
unfolding cramped
cramped-le phi rim = go (lt (room phi rim) cramped_room)
  where
    go : (b : Bool) → cond b 20 0 ≤ 20
    go true = omega arith
    go false = omega arith

loop_le : (s : Scene) (l : Loop) (phi : Float) → loop_cost s l phi ≤ 20 * length s.centres + 6 * length s.boxes + 6 * length s.traces + 20
unfolding loop_cost loop_adds
loop_le s l phi =
    let g = loop_drawn l phi in
    let t = trace_of (arrow g.edge) g.curve in
    omega
    (arith, cost-le s l.edge g.label_box, how_many-le (near25 t) (states_but l.node s.centres), others_le l.node s.centres, how_many-le (crossed l.edge t) s.traces, cramped-le phi l.rim)

-- the search from a first limit above every cost
pub loop_early_is : (s : Scene) (l : Loop) (d : List Float) (big : ℕ) → 20 * length s.centres + 6 * length s.boxes + 6 * length s.traces + 20 < big
    → d ≡ directions l.rim → search_from (λ m j. direction_cost s l j) (length d) 0 big 0 ≡ loop_taken s l
loop_early_is s l d big h e = loop_early s l (length d) big (ap length e) (omega (arith, loop_le s l (get_or (directions l.rim) 0 upwards), h))

-- ---- directions as they are read

pub direction_is : (rim d : List Float) (j : ℕ) → d ≡ directions rim → j < length d → get_or d j nan ≡ get_or (directions rim) j upwards
direction_is rim d j e h = get_d_any d j nan upwards h ∙ ap (λ (l : List Float). get_or l j upwards) e

pub loop_taken_inside : (s : Scene) (l : Loop) (d : List Float) (j : ℕ) → d ≡ directions l.rim → j ≡ loop_taken s l → j < length d
loop_taken_inside s l d j e f = rw (f, e) (loop_least s l).inside
