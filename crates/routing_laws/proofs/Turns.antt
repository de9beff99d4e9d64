-- One turn as the code runs it: the turn of a loop is `looped`, that of a label `placed_arrow`. Assumes nothing.
use Rattle.std.specs.Prelude.{◌≡◌, true, false, List, suc, ◌-◌, ◌<◌}
use Rattle.std.proofs.Common.{ap, ◌∙◌, arith}
use Rattle.laws.specs.Best.{best}
use Rattle.laws.specs.Loops.{over}
use Rattle.scene.specs.Scene.{Scene}
use Rattle.scene.specs.Turn as Place
use Rattle.self_loop.specs.Looped.{direction_cost, loop_taken, looped}
use Rattle.routing.specs.Routing.{Frame, BlockSize, Numbered, Route, route_of, Item, loop, label, step_of, loop_turn, label_turn, listed_by, drawn_step}
use Rattle.routing_laws.specs.Demand.{step_with}
use Rattle.routing_laws.proofs.Demand.{listed_some}
use Rattle.routing_laws.specs.Passes.{Pass, loop_pass, in_pass, item_of, items_of, Drawn, taken_in, played, turned}
use Rattle.routing_laws.specs.Turns.{size_for, step_drawn, with_loop, with_label, loop_draws, label_draws}

-- ---- the place taken

all_listed : (f : Frame) (i : Item) → suc (listed_by f i - 1) ≡ listed_by f i
all_listed f i = let h : 0 < listed_by f i = listed_some f i in omega arith

pub taken_loop : (f : Frame) (s : Scene) (a : Numbered) (z : BlockSize) → taken_in f s (step_with (loop a) z) ≡ loop_taken s (loop_turn f a z)
unfolding loop_taken
taken_loop f s a z = ap (best (direction_cost s (loop_turn f a z))) (all_listed f (loop a))

pub taken_label : (f : Frame) (s : Scene) (r : Route) (z : BlockSize) → taken_in f s (step_with (label r) z) ≡ Place.taken s (label_turn r z)
unfolding Place.taken Place.box_at
taken_label f s r z = ap (best (Place.place_cost s (label_turn r z))) (all_listed f (label r))

pub drawn_loop : (f : Frame) (s : Scene) (a : Numbered) (z : BlockSize) → step_drawn f s (step_with (loop a) z) ≡ looped s (loop_turn f a z)
drawn_loop f s a z = ap (drawn_step f (step_with (loop a) z)) (taken_loop f s a z)

pub drawn_label : (f : Frame) (s : Scene) (r : Route) (z : BlockSize) → step_drawn f s (step_with (label r) z) ≡ Place.placed_arrow s (label_turn r z)
drawn_label f s r z = ap (drawn_step f (step_with (label r) z)) (taken_label f s r z)

pub played_loop : (f : Frame) (sizes : List BlockSize) (d : Drawn) (a : Numbered) → played f d (step_of sizes (loop a)) ≡ with_loop d (loop_draws f sizes d.scene a)
unfolding played
played_loop f sizes d a = ap (with_loop d) (drawn_loop f d.scene a (size_for sizes a.edge))

pub played_label : (f : Frame) (sizes : List BlockSize) (d : Drawn) (r : Route) → played f d (step_of sizes (label r)) ≡ with_label d (label_draws sizes d.scene r)
unfolding played
played_label f sizes d r = ap (with_label d) (drawn_label f d.scene r (size_for sizes r.from.edge))

-- ---- an arrow in a pass

-- in its own: one turn
turned_one : (f : Frame) (sizes : List BlockSize) (p : Pass) (d : Drawn) (a : Numbered) → in_pass f p a ≡ true
    → turned f sizes p d a ≡ played f d (step_of sizes (item_of f p a))
unfolding turned items_of over
turned_one f sizes p d a e = rw e

pub turned_loop : (f : Frame) (sizes : List BlockSize) (d : Drawn) (a : Numbered) → in_pass f loop_pass a ≡ true
    → turned f sizes loop_pass d a ≡ with_loop d (loop_draws f sizes d.scene a)
turned_loop f sizes d a e = turned_one f sizes loop_pass d a e ∙ played_loop f sizes d a

pub turned_label : (f : Frame) (sizes : List BlockSize) (p : Pass) (d : Drawn) (a : Numbered) → item_of f p a ≡ label (route_of f a)
    → in_pass f p a ≡ true → turned f sizes p d a ≡ with_label d (label_draws sizes d.scene (route_of f a))
turned_label f sizes p d a i e =
    turned_one f sizes p d a e ∙ ap (λ (t : Item). played f d (step_of sizes t)) i ∙ played_label f sizes d (route_of f a)

-- in another: none
pub turned-other : (f : Frame) (sizes : List BlockSize) (p : Pass) (d : Drawn) (a : Numbered) → in_pass f p a ≡ false → turned f sizes p d a ≡ d
unfolding turned items_of over
turned-other f sizes p d a e = rw e
