-- The order of the turns is the three passes over all arrows, and the first scene has each arrow's own trace. Assumes nothing.
use Rattle.std.specs.Prelude.{◌≡◌, refl, Bool, true, false, not, cond, ◌&&◌}
use Rattle.std.proofs.Common.{ap, ap₂, ◌∙◌}
use mathlib.Core.List.{List, [], ◌∷◌, ◌++◌, map, flat_map}
use Rattle.laws.specs.Cases.{by_bool}
use Rattle.laws.specs.Filter.{filter_by}
use Rattle.laws.specs.Joined.{map_flat_one, flat_filter, filter_flat, flat_same, map_flat}
use Rattle.trace.specs.Traces.{Trace}
use Rattle.scene.specs.Scene.{scene_of}
use Rattle.routing.specs.Routing.{Frame, Numbered, numbered, is_kept_in, is_loop, kept, loops, crossing, Route, route_of, routes, start_traces, route_trace, first_scene, Item, loop, label, is_arc, order}
use Rattle.routing_laws.specs.Passes.{is_crossing, loop_pass, arc_pass, straight_pass, in_pass, items_of, traces_of}
use Rattle.routing_laws.specs.Order.{routes_of}

one_route : (k l : Bool) (r : Route) → cond k (cond (not l) (r ∷ []) []) [] ≡ cond (k && not l) (r ∷ []) []
one_route true l r = refl
one_route false l r = refl

pub routes-each : (f : Frame) → routes f ≡ flat_map (routes_of f) (numbered f)
unfolding routes kept
routes-each f =
    map_flat_one (route_of f) (crossing f)
    ∙ flat_filter (λ a. route_of f a ∷ []) (λ a. not (is_loop a)) (kept f)
    ∙ flat_filter (λ a. cond (not (is_loop a)) (route_of f a ∷ []) []) (is_kept_in f) (numbered f)
    ∙ flat_same _ (routes_of f) (numbered f) (λ a. one_route (is_kept_in f a) (is_loop a) (route_of f a))

-- ---- the three passes

loop_items : (k l : Bool) (i : Item) → cond k (cond l (i ∷ []) []) [] ≡ cond (k && l) (i ∷ []) []
loop_items true l i = refl
loop_items false l i = refl

label_items : (p : Route → Bool) (c : Bool) (r : Route) → map label (filter_by p (cond c (r ∷ []) [])) ≡ cond (c && p r) (label r ∷ []) []
unfolding filter_by
label_items p true r = by_bool (p r) (λ t. rw t) (λ t. rw t)
label_items p false r = refl

loops-pass : (f : Frame) → map loop (loops f) ≡ flat_map (items_of f loop_pass) (numbered f)
unfolding kept items_of in_pass
loops-pass f =
    map_flat_one loop (loops f)
    ∙ flat_filter (λ a. loop a ∷ []) is_loop (kept f)
    ∙ flat_filter (λ a. cond (is_loop a) (loop a ∷ []) []) (is_kept_in f) (numbered f)
    ∙ flat_same _ (items_of f loop_pass) (numbered f) (λ a. loop_items (is_kept_in f a) (is_loop a) (loop a))

-- what one test leaves of the routes, as turns
labels-pass : (f : Frame) (p : Route → Bool) (g : Numbered → List Item) → ((a : Numbered) → map label (filter_by p (routes_of f a)) ≡ g a)
    → map label (filter_by p (routes f)) ≡ flat_map g (numbered f)
labels-pass f p g e =
    ap (λ (l : List Route). map label (filter_by p l)) (routes-each f)
    ∙ ap (map label) (filter_flat p (routes_of f) (numbered f))
    ∙ map_flat label (λ a. filter_by p (routes_of f a)) (numbered f)
    ∙ flat_same _ g (numbered f) e

arcs_pass : (f : Frame) → map label (filter_by is_arc (routes f)) ≡ flat_map (items_of f arc_pass) (numbered f)
unfolding items_of in_pass
arcs_pass f = labels-pass f is_arc (items_of f arc_pass) (λ a. label_items is_arc (is_crossing f a) (route_of f a))

straights_pass : (f : Frame) → map label (filter_by (λ r. not (is_arc r)) (routes f)) ≡ flat_map (items_of f straight_pass) (numbered f)
unfolding items_of in_pass
straights_pass f =
    labels-pass f (λ r. not (is_arc r)) (items_of f straight_pass) (λ a. label_items (λ r. not (is_arc r)) (is_crossing f a) (route_of f a))

-- loops, then arcs, then straight arrows: three passes over all arrows
pub order-passes : (f : Frame)
    → order f ≡ flat_map (items_of f loop_pass) (numbered f) ++ flat_map (items_of f arc_pass) (numbered f) ++ flat_map (items_of f straight_pass) (numbered f)
unfolding order
order-passes f =
    ap₂ (λ (x y : List Item). x ++ y) (ap₂ (λ (x y : List Item). x ++ y) (loops-pass f) (arcs_pass f)) (straights_pass f)

-- ---- the first scene

one_trace : (c : Bool) (r : Route) → map route_trace (cond c (r ∷ []) []) ≡ cond c (route_trace r ∷ []) []
one_trace true r = refl
one_trace false r = refl

pub route_traces : (f : Frame) → map route_trace (routes f) ≡ flat_map (traces_of f) (numbered f)
unfolding traces_of
route_traces f =
    ap (map route_trace) (routes-each f)
    ∙ map_flat route_trace (routes_of f) (numbered f)
    ∙ flat_same _ (traces_of f) (numbered f) (λ a. one_trace (is_crossing f a) (route_of f a))

pub first_scene_lem : (f : Frame) → first_scene f ≡ scene_of f.centres (flat_map (traces_of f) (numbered f) ++ start_traces f.flags f.centres) []
unfolding first_scene
first_scene_lem f = ap (λ (l : List Trace). scene_of f.centres (l ++ start_traces f.flags f.centres) []) (route_traces f)
