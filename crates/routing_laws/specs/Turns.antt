-- One turn as the code runs it; proofs/Turns shows that the turn of a loop is `looped`, that of a label `placed_arrow`.
use Rattle.std.specs.Prelude.{List, ℕ, get_or}
use Rattle.label_spots.specs.declared.Geometry.{Geometry}
use Rattle.scene.specs.Scene.{Scene, with_box, with_trace}
use Rattle.scene.specs.Turn as Place
use Rattle.self_loop.specs.Looped.{trace_by, looped}
use Rattle.routing.specs.Routing.{Frame, BlockSize, no_size, Numbered, Route, Step, loop_turn, label_turn, drawn_step}
use Rattle.routing_laws.specs.Passes.{Drawn, drawn_with, store, taken_in}

-- the size of the label of arrow k
abbrev pub size_for : List BlockSize → ℕ → BlockSize
size_for sizes k = get_or sizes k no_size

-- ---- what is drawn

abbrev pub step_drawn : Frame → Scene → Step → Geometry
step_drawn f s t = drawn_step f t (taken_in f s t)

-- ---- the turn

-- a drawn loop more: its trace and its label's box go into the scene
abbrev pub with_loop : Drawn → Geometry → Drawn
with_loop d g = drawn_with (with_box (with_trace d.scene (trace_by g)) g.label_box) (store d.slots g)

-- a placed label more: its box goes into the scene
abbrev pub with_label : Drawn → Geometry → Drawn
with_label d g = drawn_with (with_box d.scene g.label_box) (store d.slots g)

abbrev pub loop_draws : Frame → List BlockSize → Scene → Numbered → Geometry
loop_draws f sizes s a = looped s (loop_turn f a (size_for sizes a.edge))

abbrev pub label_draws : List BlockSize → Scene → Route → Geometry
label_draws sizes s r = Place.placed_arrow s (label_turn r (size_for sizes r.from.edge))
