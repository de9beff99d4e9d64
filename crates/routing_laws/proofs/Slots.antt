-- The passes leave in the slots what the run draws, and what is gathered from there is the records, one for each kept arrow. Assumes nothing.
use Rattle.std.specs.Prelude.{◌≡◌, Bool, ℕ, suc, ◌+◌, ◌≤◌, ◌<◌, not, ◌&&◌, eqb, length}
use Rattle.std.proofs.Math.Path.{refl}
use Rattle.std.proofs.Common.{sym, ap, ap₂, ◌∙◌, arith, eqb-true}
use Rattle.std.proofs.Math.Bool.{true, false, cond}
use mathlib.Core.List.{List, [], ◌∷◌, ◌++◌, map, flat_map, append-nil}
use Rattle.std.proofs.lemmas.Bool.{eqb-false}
use Rattle.std.proofs.lemmas.List.{length-map}
use Rattle.laws.specs.Cases.{by_bool}
use Rattle.laws.specs.Filter.{filter_by, filter_join}
use Rattle.laws.specs.Loops.{over, over_join}
use Rattle.laws.specs.Run as Run
use Rattle.laws.specs.Zip.{zip_by}
use Rattle.laws.specs.Joined.{map_join, map_flat, map_flat_one, over_flat, filter_flat, flat_same, flat_filter, filter_map, map-map}
use Rattle.label_spots.specs.declared.Geometry.{Geometry}
use Rattle.label_spots.specs.Labels.{labelled}
use Rattle.scene.specs.Scene.{Scene}
use Rattle.self_loop.specs.Looped.{loop_at}
use Rattle.routing.specs.Routing.{Frame, BlockSize, Numbered, numbered, is_kept_in, is_loop, kept, route_of, first_scene, Item, loop, label, edge_of, is_arc, order, Step, step_of, steps, drawn_by, more, cost, scene_after, drawn_step, drawing, drawn_for, records, numbered_at, is_turn, item_for}
use Rattle.std.specs.Prelude.{Option, None, Some, set, get_or}
use Rattle.std.proofs.Common.{add-zero, zero-add}
use Rattle.std.proofs.lemmas.List.{length-set, get_or-set_same, get_or-set_other}
use Rattle.std.proofs.Math.ListN.{get_or-eq_default}
use Rattle.laws.specs.Cases.{by_lt}
use Rattle.routing.specs.Routing.{Ends, numbered_from, numbered_by, no_ends}
use Rattle.routing_laws.specs.Passes.{Pass, loop_pass, arc_pass, straight_pass, in_pass, items_of, Drawn, drawn_with, store, taken_in, played, turned, passed, shown, gathered}
use Rattle.routing_laws.specs.Numbers.{is_number, number_one, number_none, flat_numbered}
use Rattle.routing_laws.proofs.Order.{order-passes}
use Rattle.routing_laws.specs.Slots.{is_edge}

-- ---- the passes are the run

pass-run : (f : Frame) (sizes : List BlockSize) (p : Pass) (d : Drawn) → passed f sizes p d ≡ over (played f) d (map (step_of sizes) (flat_map (items_of f p) (numbered f)))
unfolding passed turned
pass-run f sizes p d =
    sym (over_flat (played f) d (λ a. map (step_of sizes) (items_of f p a)) (numbered f))
    ∙ ap (over (played f) d) (sym (map_flat (step_of sizes) (items_of f p) (numbered f)))

pub run-passes : (f : Frame) (sizes : List BlockSize) (d : Drawn)
    → passed f sizes straight_pass (passed f sizes arc_pass (passed f sizes loop_pass d)) ≡ over (played f) d (steps f sizes)
run-passes f sizes d =
    let turns : Pass → List Step = λ p. map (step_of sizes) (flat_map (items_of f p) (numbered f)) in
    pass-run f sizes straight_pass (passed f sizes arc_pass (passed f sizes loop_pass d))
    ∙ ap (λ (c : Drawn). over (played f) c (turns straight_pass)) (pass-run f sizes arc_pass (passed f sizes loop_pass d) ∙ ap (λ (c : Drawn). over (played f) c (turns arc_pass)) (pass-run f sizes loop_pass d))
    ∙ sym
    (ap (λ (l : List Item). over (played f) d (map (step_of sizes) l)) (order-passes f)
    ∙ ap (over (played f) d) (map_join (step_of sizes) (flat_map (items_of f loop_pass) (numbered f) ++ flat_map (items_of f arc_pass) (numbered f)) (flat_map (items_of f straight_pass) (numbered f)))
    ∙ over_join (played f) d (map (step_of sizes) (flat_map (items_of f loop_pass) (numbered f) ++ flat_map (items_of f arc_pass) (numbered f))) (turns straight_pass)
    ∙ ap (λ (l : List Step). over (played f) (over (played f) d l) (turns straight_pass)) (map_join (step_of sizes) (flat_map (items_of f loop_pass) (numbered f)) (flat_map (items_of f arc_pass) (numbered f)))
    ∙ ap (λ (c : Drawn). over (played f) c (turns straight_pass)) (over_join (played f) d (turns loop_pass) (turns arc_pass)))

slots_run : (f : Frame) (s : Scene) (l : List (Option Geometry)) (ts : List Step)
    → (over (played f) (drawn_with s l) ts).slots ≡ over store l (zip_by (drawn_step f) ts (Run.run (more f) (cost f) (scene_after f) s ts))
unfolding over played zip_by Run.run
slots_run f s l [] = refl
slots_run f s l (t ∷ ts) = slots_run f (scene_after f s t (taken_in f s t)) (store l (drawn_step f t (taken_in f s t))) ts

-- after the three passes, each drawing is stored in its slot, in the order of the turns
pub passes-store : (f : Frame) (sizes : List BlockSize) (l : List (Option Geometry))
    → (passed f sizes straight_pass (passed f sizes arc_pass (passed f sizes loop_pass (drawn_with (first_scene f) l)))).slots ≡ over store l (drawing f sizes)
unfolding drawing
passes-store f sizes l = ap (λ (d : Drawn). d.slots) (run-passes f sizes (drawn_with (first_scene f) l)) ∙ slots_run f (first_scene f) l (steps f sizes)

-- ---- each kept arrow is drawn once

pub drawn_edge : (f : Frame) (i : Item) (z : BlockSize) (j : ℕ) → (drawn_by f i z j).edge ≡ edge_of i
unfolding loop_at labelled
drawn_edge f (loop a) z j = refl
drawn_edge f (label r) z j = refl

edges_run : (f : Frame) (s : Scene) (ts : List Step)
    → map (λ g. g.edge) (zip_by (drawn_step f) ts (Run.run (more f) (cost f) (scene_after f) s ts)) ≡ map (λ t. edge_of t.item) ts
unfolding zip_by Run.run
edges_run f s [] = refl
edges_run f s (t ∷ ts) = ap₂ (λ (x : ℕ) (y : List ℕ). x ∷ y) (drawn_edge f t.item t.size (taken_in f s t)) (edges_run f (scene_after f s t (taken_in f s t)) ts)

-- the drawings have the numbers of the turns
pub edges_drawn : (f : Frame) (sizes : List BlockSize) → map (λ g. g.edge) (drawing f sizes) ≡ map edge_of (order f)
unfolding drawing
edges_drawn f sizes = edges_run f (first_scene f) (steps f sizes) ∙ map-map (λ t. edge_of t.item) (step_of sizes) (order f)

own_item : (k : ℕ) (b : Bool) (i : Item) → filter_by (λ j. eqb (edge_of j) k) (cond b (i ∷ []) []) ≡ cond (eqb (edge_of i) k) (cond b (i ∷ []) []) []
unfolding filter_by
own_item k true i = refl
own_item k false i = by_bool (eqb (edge_of i) k) (λ t. rw t) (λ t. rw t)

own_items : (k : ℕ) (p : Pass) (f : Frame) (a : Numbered) → filter_by (λ i. eqb (edge_of i) k) (items_of f p a) ≡ cond (is_number k a) (items_of f p a) []
unfolding items_of
own_items k loop_pass f a = own_item k (in_pass f loop_pass a) (loop a)
own_items k arc_pass f a = own_item k (in_pass f arc_pass a) (label (route_of f a))
own_items k straight_pass f a = own_item k (in_pass f straight_pass a) (label (route_of f a))

-- the turns of arrow k in a pass
own_pass : (f : Frame) (p : Pass) (k : ℕ) → filter_by (is_turn k) (flat_map (items_of f p) (numbered f)) ≡ flat_map (items_of f p) (filter_by (is_number k) (numbered f))
own_pass f p k =
    filter_flat (is_turn k) (items_of f p) (numbered f)
    ∙ flat_same _ _ (numbered f) (own_items k p f)
    ∙ sym (flat_filter (items_of f p) (is_number k) (numbered f))

pass-items : (f : Frame) (p : Pass) (k : ℕ) → k < length f.arrows → filter_by (is_turn k) (flat_map (items_of f p) (numbered f)) ≡ items_of f p (numbered_at f k)
pass-items f p k h =
    own_pass f p k ∙ ap (flat_map (items_of f p)) (number_one f k h)
    ∙ unfold flat_map in append-nil (items_of f p (numbered_at f k))

one_turn : (f : Frame) (a : Numbered) → items_of f loop_pass a ++ items_of f arc_pass a ++ items_of f straight_pass a ≡ cond (is_kept_in f a) (item_for f a ∷ []) []
unfolding items_of in_pass
one_turn f a = go (is_kept_in f a) (is_loop a) (is_arc (route_of f a))
  where
    go : (k l c : Bool)
        → cond (k && l) (loop a ∷ []) []
        ++ cond ((k && not l) && c) (label (route_of f a) ∷ []) []
        ++ cond ((k && not l) && not c) (label (route_of f a) ∷ []) [] ≡ cond k (cond l (loop a) (label (route_of f a)) ∷ []) []
    go true true c = refl
    go true false true = refl
    go true false false = refl
    go false l c = refl

own_passes : (f : Frame) (k : ℕ)
    → filter_by (is_turn k) (order f) ≡ filter_by (is_turn k) (flat_map (items_of f loop_pass) (numbered f)) ++ filter_by (is_turn k) (flat_map (items_of f arc_pass) (numbered f))
    ++ filter_by (is_turn k) (flat_map (items_of f straight_pass) (numbered f))
own_passes f k =
    ap (filter_by (is_turn k)) (order-passes f)
    ∙ filter_join (is_turn k) (flat_map (items_of f loop_pass) (numbered f) ++ flat_map (items_of f arc_pass) (numbered f)) (flat_map (items_of f straight_pass) (numbered f))
    ∙ ap (λ (l : List Item). l ++ filter_by (is_turn k) (flat_map (items_of f straight_pass) (numbered f)))
    (filter_join (is_turn k) (flat_map (items_of f loop_pass) (numbered f)) (flat_map (items_of f arc_pass) (numbered f)))

-- "Each arrow of the records has one turn; a left-out arrow has none"
pub own_turn : (f : Frame) (k : ℕ) → k < length f.arrows
    → filter_by (is_turn k) (order f) ≡ cond (is_kept_in f (numbered_at f k)) (item_for f (numbered_at f k) ∷ []) []
own_turn f k l =
    own_passes f k
    ∙ ap₂ (λ (x y : List Item). x ++ y) (ap₂ (λ (x y : List Item). x ++ y) (pass-items f loop_pass k l) (pass-items f arc_pass k l)) (pass-items f straight_pass k l)
    ∙ one_turn f (numbered_at f k)

pub own_none : (f : Frame) (k : ℕ) → length f.arrows ≤ k → filter_by (is_turn k) (order f) ≡ []
own_none f k l = own_passes f k ∙ ap₂ (λ (x y : List Item). x ++ y) (ap₂ (λ (x y : List Item). x ++ y) (none loop_pass) (none arc_pass)) (none straight_pass)
  where
    none : (p : Pass) → filter_by (is_turn k) (flat_map (items_of f p) (numbered f)) ≡ []
    none p = own_pass f p k ∙ ap (flat_map (items_of f p)) (number_none f k l) ∙ unfold flat_map in refl

-- the numbers of the drawings of arrow k, as of its turns
pub edges_own : (f : Frame) (sizes : List BlockSize) (k : ℕ) → map (λ g. g.edge) (filter_by (λ g. eqb g.edge k) (drawing f sizes)) ≡ map edge_of (filter_by (is_turn k) (order f))
edges_own f sizes k =
    sym (filter_map (λ e. eqb e k) (λ g. g.edge) (drawing f sizes)) ∙ ap (filter_by (λ e. eqb e k)) (edges_drawn f sizes) ∙ filter_map (λ e. eqb e k) edge_of (order f)

pub drawn_once : (f : Frame) (sizes : List BlockSize) (k : ℕ) → k < length f.arrows
    → map (λ g. g.edge) (drawn_for (drawing f sizes) (numbered_at f k)) ≡ cond (is_kept_in f (numbered_at f k)) (k ∷ []) []
drawn_once f sizes k l =
    edges_own f sizes k ∙ ap (map edge_of) (own_turn f k l) ∙ go (is_kept_in f (numbered_at f k)) (is_loop (numbered_at f k))
  where
    go : (b c : Bool) → map edge_of (cond b (cond c (loop (numbered_at f k)) (label (route_of f (numbered_at f k))) ∷ []) []) ≡ cond b (k ∷ []) []
    go true true = refl
    go true false = refl
    go false c = refl

-- ---- a record for each kept arrow, in arrow order

-- the records by all arrows
pub records-each : (f : Frame) (sizes : List BlockSize) → records f sizes ≡ flat_map (λ a. cond (is_kept_in f a) (drawn_for (drawing f sizes) a) []) (numbered f)
unfolding records kept
records-each f sizes = flat_filter (drawn_for (drawing f sizes)) (is_kept_in f) (numbered f)

pub records_edges : (f : Frame) (sizes : List BlockSize) → map (λ g. g.edge) (records f sizes) ≡ map (λ a. a.edge) (kept f)
records_edges f sizes =
    ap (map (λ g. g.edge)) (records-each f sizes)
    ∙ map_flat (λ g. g.edge) (λ a. cond (is_kept_in f a) (drawn_for (drawing f sizes) a) []) (numbered f)
    ∙ flat_numbered _ (λ a. cond (is_kept_in f a) (a.edge ∷ []) []) f
    (λ k l. go k (is_kept_in f (numbered_at f k)) (drawn_for (drawing f sizes) (numbered_at f k)) (drawn_once f sizes k l))
    ∙ sym (flat_filter (λ a. a.edge ∷ []) (is_kept_in f) (numbered f))
    ∙ sym (map_flat_one (λ a. a.edge) (filter_by (is_kept_in f) (numbered f)))
    ∙ unfold kept in refl
  where
    go : (k : ℕ) (b : Bool) (gs : List Geometry) → map (λ g. g.edge) gs ≡ cond b (k ∷ []) [] → map (λ g. g.edge) (cond b gs []) ≡ cond b (k ∷ []) []
    go k true gs e = e
    go k false gs e = refl

pub records-length : (f : Frame) (sizes : List BlockSize) → length (records f sizes) ≡ length (kept f)
records-length f sizes = sym (length-map (records f sizes) (λ g. g.edge)) ∙ ap length (records_edges f sizes) ∙ length-map (kept f) (λ a. a.edge)

abbrev latest : Option Geometry → Geometry → Option Geometry
latest p g = Some g

-- slot k has what was stored there last
slot-last : (k : ℕ) (l : List (Option Geometry)) (gs : List Geometry) → k < length l → get_or (over store l gs) k None ≡ over latest (get_or l k None) (filter_by (is_edge k) gs)
unfolding over filter_by
slot-last k l [] h = refl
slot-last k l (g ∷ gs) h =
    let room : k < length (store l g) = omega (arith, length-set l g.edge (Some g)) in
    let go : get_or (over store (store l g) gs) k None ≡ over latest (get_or (store l g) k None) (filter_by (is_edge k) gs) = slot-last k (store l g) gs room in
    by_bool (is_edge k g)
    (λ t. rw t
    (go
    ∙ ap (λ (p : Option Geometry). over latest p (filter_by (is_edge k) gs))
    (ap (λ (m : ℕ). get_or (set l m (Some g)) k None) (eqb-true g.edge k t) ∙ get_or-set_same l k (Some g) None h)))
    (λ t. rw t (go ∙ ap (λ (p : Option Geometry). over latest p (filter_by (is_edge k) gs)) (get_or-set_other l g.edge k (Some g) None (λ q. eqb-false g.edge k t (sym q)))))

length-store : (l : List (Option Geometry)) (gs : List Geometry) → length (over store l gs) ≡ length l
unfolding over
length-store l [] = refl
length-store l (g ∷ gs) = length-store (store l g) gs ∙ length-set l g.edge (Some g)

-- the slot of an arrow that is drawn once, or not at all
slot_one : (k : ℕ) (b : Bool) (gs : List Geometry) → map (λ g. g.edge) gs ≡ cond b (k ∷ []) [] → shown (over latest None gs) ≡ cond b gs []
unfolding over
slot_one k true [] e = absurd (omega (arith, ap length e))
slot_one k true (g ∷ []) e = refl
slot_one k true (g ∷ h ∷ gs) e = absurd (omega (arith, ap length e))
slot_one k false [] e = refl
slot_one k false (g ∷ gs) e = absurd (omega (arith, ap length e))

-- slots that show what each arrow has, and nothing past the last arrow
flat_slots : (h : Numbered → List Geometry) (l : List (Option Geometry)) (n : ℕ) (es : List Ends) → length es ≤ length l
    → ((k : ℕ) → k < length es → shown (get_or l k None) ≡ h (numbered_by (n + k) (get_or es k no_ends)))
    → ((k : ℕ) → length es ≤ k → shown (get_or l k None) ≡ []) → flat_map shown l ≡ flat_map h (numbered_from n es)
unfolding flat_map numbered_from
flat_slots h [] n [] r a z = refl
flat_slots h [] n (e ∷ es) r a z = absurd (omega arith)
flat_slots h (x ∷ l) n [] r a z =
    ap (λ (y : List Geometry). y ++ flat_map shown l) (z 0 (omega arith))
    ∙ flat_slots h l n [] (omega arith) (λ k i. absurd (omega arith)) (λ k i. z (suc k) (omega arith))
flat_slots h (x ∷ l) n (e ∷ es) r a z =
    ap₂ (λ (p q : List Geometry). p ++ q)
    (a 0 (omega arith) ∙ ap (λ (m : ℕ). h (numbered_by m e)) (add-zero n))
    (flat_slots h l (suc n) es (omega arith)
    (λ k i.
    let q : n + suc k ≡ suc n + k = omega arith in
    a (suc k) (omega arith) ∙ ap (λ (m : ℕ). h (numbered_by m (get_or es k no_ends))) q)
    (λ k i. z (suc k) (omega arith)))

slots_gathered : (f : Frame) (sizes : List BlockSize) (l : List (Option Geometry)) → length f.arrows ≤ length l → ((k : ℕ) → get_or l k None ≡ None)
    → gathered (over store l (drawing f sizes)) ≡ records f sizes
unfolding gathered
slots_gathered f sizes l room none =
    flat_slots (λ a. cond (is_kept_in f a) (drawn_for (drawing f sizes) a) []) (over store l (drawing f sizes)) 0 f.arrows
    (omega (arith, length-store l (drawing f sizes)))
    (λ k i.
    last k (omega arith) ∙ slot_one k (is_kept_in f (numbered_at f k)) (filter_by (is_edge k) (drawing f sizes)) (drawn_once f sizes k i)
    ∙ ap (λ (m : ℕ). cond (is_kept_in f (numbered_by m (get_or f.arrows k no_ends))) (drawn_for (drawing f sizes) (numbered_by m (get_or f.arrows k no_ends))) []) (sym (zero-add k)))
    (λ k i.
    by_lt k (length l)
    (λ h. last k h ∙ slot_one k false (filter_by (is_edge k) (drawing f sizes)) (edges_own f sizes k ∙ ap (map edge_of) (own_none f k i)))
    (λ h. ap shown (get_or-eq_default (over store l (drawing f sizes)) None (omega (arith, length-store l (drawing f sizes))))))
    ∙ sym (records-each f sizes)
  where
    last : (k : ℕ) → k < length l → shown (get_or (over store l (drawing f sizes)) k None) ≡ shown (over latest None (filter_by (is_edge k) (drawing f sizes)))
    last k h = ap shown (slot-last k l (drawing f sizes) h ∙ ap (λ (p : Option Geometry). over latest p (filter_by (is_edge k) (drawing f sizes))) (none k))

-- what the three passes leave, gathered: the records
pub passes-gathered : (f : Frame) (sizes : List BlockSize) (l : List (Option Geometry)) → length f.arrows ≤ length l → ((k : ℕ) → get_or l k None ≡ None)
    → gathered (passed f sizes straight_pass (passed f sizes arc_pass (passed f sizes loop_pass (drawn_with (first_scene f) l)))).slots ≡ records f sizes
passes-gathered f sizes l room none = ap gathered (passes-store f sizes l) ∙ slots_gathered f sizes l room none
