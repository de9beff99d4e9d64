-- What holds of every routing: the cheapest listed place at every turn, and what two sheets that differ only in labels have in common. Assumes nothing.
use Rattle.std.specs.Prelude.{◌≡◌, Bool, cond, ℕ, suc, ◌-◌, ◌≤◌, ◌<◌, eqb, length, get_or, take}
use Rattle.std.proofs.Math.Path.{refl, ap}
use Rattle.std.proofs.Common.{sym, ap₂, ◌∙◌, subst, arith, get_or-take}
use Rattle.std.proofs.Math.Bool.{true, false}
use mathlib.Core.List.{List, [], ◌∷◌, map, flat_map, append-nil}
use borrow.Author.Tests.{eq-eqb, ne_eqb, eqb-true, eqb-false}
use Rattle.std.proofs.lemmas.List.{length-map}
use Rattle.std.proofs.Math.ListN.{get_or-map}
use Rattle.laws.specs.Cases.{by_bool, by_lt}
use Rattle.laws.specs.Filter.{filter_by, filter_yes, filter_no}
use Rattle.laws.specs.Best.{FirstLeast}
use Rattle.laws.specs.Run as Run
use Rattle.laws.proofs.Run.{run_least}
use Rattle.laws.specs.Zip.{zip_by, zip_at, take_zip}
use Rattle.laws.specs.Joined.{filter_flat, flat_same, flat_filter}
use Rattle.laws.specs.Places.{filter_some, filter_only, At, find}
use Rattle.bend.specs.declared.Shape.{Shape}
use Rattle.label_spots.specs.declared.Geometry.{Geometry}
use Rattle.label_spots.specs.Spots.{spot_count, spot-count}
use Rattle.label_spots.specs.Labels.{labelled}
use Rattle.scene.specs.Scene.{Scene}
use Rattle.directions.specs.Lengths.{directions_some}
use Rattle.routing.specs.Routing.{numbered_at, is_turn, item_for, Frame, is_loop, joined, route_of, numbered, is_kept_in, drawn_for, Numbered, BlockSize, Item, loop, label, edge_of, Route, Step, step_of, order, steps, listed_by, rim, more, cost, drawn_step, drawn_by, scene_after, first_scene, places_taken, scene_at, drawing, no_item}
use Rattle.routing_laws.specs.Numbers.{is_number, number_one}
use Rattle.routing_laws.specs.Slots.{is_edge}
use Rattle.routing_laws.proofs.Slots.{own_turn, own_none, edges_drawn, drawn_edge, drawn_once, records-each}
use Rattle.routing_laws.specs.Demand.{step_in, step_with, size_at, record_for, turn_at, edge_at, place_at, drawn_place, TurnCheapest, Stroke, stroke_of, stroke_by}

-- ---- a turn lists one place at least

some_spots : (s : Shape) → 0 < spot_count s
some_spots Shape.Line = omega arith
some_spots (Shape.Arc outer) = omega arith
some_spots (Shape.Loop out) = omega arith

pub listed_some : (f : Frame) (i : Item) → 0 < listed_by f i
listed_some f (loop a) = directions_some (rim f a.ends.source)
listed_some f (label r) = subst (λ (n : ℕ). 0 < n) (sym (spot-count r.routed.curve r.routed.shape)) (some_spots r.routed.shape)

pub cheapest : (f : Frame) (sizes : List BlockSize) (d : Step) (k : ℕ) → k < length (steps f sizes)
    → FirstLeast (cost f (scene_at f sizes k) (step_in f sizes d k)) (listed_by f (step_in f sizes d k).item) (get_or (places_taken f sizes) k 0)
cheapest f sizes d k h =
    let s : 0 < listed_by f (step_in f sizes d k).item = listed_some f (step_in f sizes d k).item in
    let e : suc (listed_by f (step_in f sizes d k).item - 1) ≡ listed_by f (step_in f sizes d k).item = omega arith in
    subst (λ (n : ℕ). FirstLeast (cost f (scene_at f sizes k) (step_in f sizes d k)) n (get_or (places_taken f sizes) k 0)) e
    (run_least (more f) (cost f) (scene_after f) (first_scene f) (steps f sizes) k d h)

pub prefix : (f : Frame) (sizes sizes' : List BlockSize) (d : Item) (k : ℕ) → ((j : ℕ) → j < k → size_at f sizes d j ≡ size_at f sizes' d j)
    → take k (drawing f sizes) ≡ take k (drawing f sizes')
unfolding drawing
prefix f sizes sizes' d k h =
    let e : take k (steps f sizes) ≡ take k (steps f sizes') =
    Run.map_agree (step_of sizes) (step_of sizes') k (order f) d (λ j l. ap (step_with (get_or (order f) j d)) (h j l)) in
    take_zip (drawn_step f) k (steps f sizes) (places_taken f sizes)
    ∙ ap₂ (zip_by (drawn_step f)) e (Run.run_agree (more f) (cost f) (scene_after f) k (first_scene f) (steps f sizes) (steps f sizes') e)
    ∙ sym (take_zip (drawn_step f) k (steps f sizes') (places_taken f sizes'))

own_drawn : (k e : ℕ) (gs : List Geometry) → filter_by (is_edge k) (filter_by (is_edge e) gs) ≡ cond (eqb e k) (filter_by (is_edge e) gs) []
own_drawn k e gs = by_bool (eqb e k) (λ c. rw c (same c gs)) (λ c. rw c (other c gs))
  where
    same : eqb e k ≡ true → (l : List Geometry) → filter_by (is_edge k) (filter_by (is_edge e) l) ≡ filter_by (is_edge e) l
    same c [] = unfold filter_by in refl
    same c (g ∷ l) =
        by_bool (is_edge e g)
        (λ u.
        let v : is_edge k g ≡ true = eq-eqb g.edge k (eqb-true g.edge e u ∙ eqb-true e k c) in
        rw (filter_yes (is_edge e) g l u) (filter_yes (is_edge k) g (filter_by (is_edge e) l) v ∙ ap (λ (r : List Geometry). g ∷ r) (same c l)))
        (λ u. rw (filter_no (is_edge e) g l u) (same c l))

    other : eqb e k ≡ false → (l : List Geometry) → filter_by (is_edge k) (filter_by (is_edge e) l) ≡ []
    other c [] = unfold filter_by in refl
    other c (g ∷ l) =
        by_bool (is_edge e g)
        (λ u.
        let v : is_edge k g ≡ false = ne_eqb g.edge k (λ q. eqb-false e k c (sym (eqb-true g.edge e u) ∙ q)) in
        rw (filter_yes (is_edge e) g l u) (filter_no (is_edge k) g (filter_by (is_edge e) l) v ∙ other c l))
        (λ u. rw (filter_no (is_edge e) g l u) (other c l))

-- the record of a kept arrow is its drawing
pub record_drawn_lem : (f : Frame) (sizes : List BlockSize) (k : ℕ) → k < length f.arrows
    → record_for f sizes k ≡ cond (is_kept_in f (numbered_at f k)) (filter_by (is_edge k) (drawing f sizes)) []
unfolding flat_map filter_by
record_drawn_lem f sizes k h =
    let each : Numbered → List Geometry = λ a. cond (is_kept_in f a) (drawn_for (drawing f sizes) a) [] in
    ap (filter_by (is_edge k)) (records-each f sizes)
    ∙ filter_flat (is_edge k) each (numbered f)
    ∙ flat_same _ (λ a. cond (is_number k a) (each a) []) (numbered f) (λ a. go (is_kept_in f a) a)
    ∙ sym (flat_filter each (is_number k) (numbered f))
    ∙ ap (flat_map each) (number_one f k h)
    ∙ append-nil (each (numbered_at f k))
  where
    go : (b : Bool) (a : Numbered) → filter_by (is_edge k) (cond b (drawn_for (drawing f sizes) a) []) ≡ cond (is_number k a) (cond b (drawn_for (drawing f sizes) a) []) []
    go true a = own_drawn k a.edge (drawing f sizes)
    go false a = by_bool (is_number k a) (λ c. rw c) (λ c. rw c)

step_is : (f : Frame) (sizes : List BlockSize) (t : ℕ) → step_in f sizes (step_of sizes no_item) t ≡ step_of sizes (turn_at f t)
step_is f sizes t = get_or-map (step_of sizes) (order f) t no_item

steps-length : (f : Frame) (sizes : List BlockSize) → length (steps f sizes) ≡ length (order f)
steps-length f sizes = length-map (order f) (step_of sizes)

run_length : (f : Frame) (s : Scene) (ts : List Step) → length (Run.run (more f) (cost f) (scene_after f) s ts) ≡ length ts
unfolding Run.run
run_length f s [] = refl
run_length f s (t ∷ ts) = ap suc (run_length f (scene_after f s t (Run.taken_by (more f) (cost f) (scene_after f) s t)) ts)

drawn-at : (f : Frame) (sizes : List BlockSize) (t : ℕ) (d : Geometry) → t < length (order f) → get_or (drawing f sizes) t d ≡ drawn_place f sizes t (place_at f sizes t)
unfolding drawing
drawn-at f sizes t d h =
    zip_at (drawn_step f) (steps f sizes) (places_taken f sizes) t (step_of sizes no_item) 0 d (run_length f (first_scene f) (steps f sizes)) (omega (arith, steps-length f sizes))
    ∙ ap (λ (s : Step). drawn_step f s (place_at f sizes t)) (step_is f sizes t)

drawing-length : (f : Frame) (sizes : List BlockSize) → length (drawing f sizes) ≡ length (order f)
drawing-length f sizes = sym (length-map (drawing f sizes) (λ g. g.edge)) ∙ ap length (edges_drawn f sizes) ∙ length-map (order f) edge_of

module _ (f : Frame) where
  -- the arrow of a turn is one of the arrows, and kept
  pub turn_number_lem : (t : ℕ) → t < length (order f) → edge_at f t < length f.arrows
  turn_number_lem t h =
      by_lt (edge_at f t) (length f.arrows) (λ l. l)
      (λ l. absurd (omega (arith, filter_some (is_turn (edge_at f t)) (order f) t no_item h (eq-eqb (edge_at f t) (edge_at f t) refl), ap length (own_none f (edge_at f t) l))))

  pub turn_kept : (t : ℕ) → t < length (order f) → is_kept_in f (numbered_at f (edge_at f t)) ≡ true
  turn_kept t h =
      by_bool (is_kept_in f (numbered_at f (edge_at f t))) (λ c. c)
      (λ c.
      let none : filter_by (is_turn (edge_at f t)) (order f) ≡ [] = rw c at (own_turn f (edge_at f t) (turn_number_lem t h)) in
      absurd (omega (arith, filter_some (is_turn (edge_at f t)) (order f) t no_item h (eq-eqb (edge_at f t) (edge_at f t) refl), ap length none)))

  -- "Each arrow of the records has one turn": each kept arrow, at a place in the order of the turns
  pub kept_turn : (k : ℕ) → k < length f.arrows → is_kept_in f (numbered_at f k) ≡ true → At (order f) no_item (item_for f (numbered_at f k))
  kept_turn k h e = find (is_turn k) (order f) no_item (item_for f (numbered_at f k)) [] (rw e at (own_turn f k h))

  -- the record of a turn's arrow is what is drawn at that turn
  record_turn : (sizes : List BlockSize) (t : ℕ) (d : Geometry) → t < length (order f) → record_for f sizes (edge_at f t) ≡ get_or (drawing f sizes) t d ∷ []
  record_turn sizes t d h =
      let k : ℕ = edge_at f t in
      let n : k < length f.arrows = turn_number_lem t h in
      let once : map (λ g. g.edge) (filter_by (is_edge k) (drawing f sizes)) ≡ k ∷ [] = rw (turn_kept t h) at (drawn_once f sizes k n) in
      let own : is_edge k (get_or (drawing f sizes) t d) ≡ true =
      eq-eqb _ _ (ap (λ (g : Geometry). g.edge) (drawn-at f sizes t d h) ∙ drawn_edge f (turn_at f t) (size_at f sizes no_item t) (place_at f sizes t)) in
      record_drawn_lem f sizes k n
      ∙ ap (λ (b : Bool). cond b (filter_by (is_edge k) (drawing f sizes)) []) (turn_kept t h)
      ∙ filter_only (is_edge k) (drawing f sizes) t d
      (omega (arith, length-map (filter_by (is_edge k) (drawing f sizes)) (λ g. g.edge), ap length once))
      (omega (arith, drawing-length f sizes)) own

  pub record_held : (sizes : List BlockSize) (t : ℕ) → t < length (order f) → record_for f sizes (edge_at f t) ≡ drawn_place f sizes t (place_at f sizes t) ∷ []
  record_held sizes t h =
      let d : Geometry = drawn_place f sizes t (place_at f sizes t) in
      record_turn sizes t d h ∙ ap (λ (g : Geometry). g ∷ []) (drawn-at f sizes t d h)

-- an arrow between different states has that of its route, wherever its label stands
pub label_stroke : (f : Frame) (r : Route) (size : BlockSize) (j : ℕ) → stroke_of (drawn_by f (label r) size j) ≡ stroke_by r.routed
unfolding labelled
label_stroke f r size j = refl

module _ (f : Frame) where
  pub records_cheapest : (sizes : List BlockSize) (t : ℕ) → t < length (order f) → TurnCheapest f sizes t
  records_cheapest sizes t h =
      record {
        place = place_at f sizes t;
        least =
            subst (λ (s : Step). FirstLeast (cost f (scene_at f sizes t) s) (listed_by f s.item) (place_at f sizes t)) (step_is f sizes t)
            (cheapest f sizes (step_of sizes no_item) t (omega (arith, steps-length f sizes)));
        held = record_held f sizes t h;
      }

  -- (2) where the sizes agree at a turn and at all before it, the record is the same
  pub records_prefix : (sizes sizes' : List BlockSize) (t : ℕ) → t < length (order f) → ((j : ℕ) → j ≤ t → size_at f sizes no_item j ≡ size_at f sizes' no_item j)
      → record_for f sizes (edge_at f t) ≡ record_for f sizes' (edge_at f t)
  records_prefix sizes sizes' t h e =
      let d : Geometry = drawn_place f sizes t 0 in
      let same : take (suc t) (drawing f sizes) ≡ take (suc t) (drawing f sizes') = prefix f sizes sizes' no_item (suc t) (λ j l. e j (omega arith)) in
      record_turn f sizes t d h
      ∙ ap (λ (g : Geometry). g ∷ [])
      (sym (get_or-take (suc t) (drawing f sizes) t d (omega arith)) ∙ ap (λ (l : List Geometry). get_or l t d) same ∙ get_or-take (suc t) (drawing f sizes') t d (omega arith))
      ∙ sym (record_turn f sizes' t d h)

  -- (3) whatever the sizes, an arrow between different states has the curve, tip and tip angle of its route
  pub records_stroke : (sizes : List BlockSize) (k : ℕ) → k < length f.arrows → is_loop (numbered_at f k) ≡ false
      → map stroke_of (record_for f sizes k) ≡ cond (is_kept_in f (numbered_at f k)) (stroke_by (joined f (numbered_at f k)) ∷ []) []
  records_stroke sizes k h e =
      by_bool (is_kept_in f (numbered_at f k))
      (λ c.
      let at : At (order f) no_item (item_for f (numbered_at f k)) = kept_turn f k h c in
      let turn : turn_at f at.place ≡ label (route_of f (numbered_at f k)) =
      at.there ∙ ap (λ (b : Bool). cond b (loop (numbered_at f k)) (label (route_of f (numbered_at f k)))) e in
      rw c
      (ap (λ (i : Item). map stroke_of (record_for f sizes (edge_of i))) (sym turn)
      ∙ ap (map stroke_of) (record_held f sizes at.place at.inside)
      ∙ ap (λ (i : Item). stroke_of (drawn_by f i (size_at f sizes no_item at.place) (place_at f sizes at.place)) ∷ []) turn
      ∙ ap (λ (s : Stroke). s ∷ []) (label_stroke f (route_of f (numbered_at f k)) (size_at f sizes no_item at.place) (place_at f sizes at.place))))
      (λ c.
      let none : record_for f sizes k ≡ [] = rw c at (record_drawn_lem f sizes k h) in
      rw c (ap (map stroke_of) none))

  pub strokes_same : (sizes sizes' : List BlockSize) (k : ℕ) → k < length f.arrows → is_loop (numbered_at f k) ≡ false
      → map stroke_of (record_for f sizes k) ≡ map stroke_of (record_for f sizes' k)
  strokes_same sizes sizes' k h e = records_stroke sizes k h e ∙ sym (records_stroke sizes' k h e)
