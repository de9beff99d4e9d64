-- What is drawn in lent space. Assumes nothing.
use Rattle.std.specs.Prelude.{◌≡◌, Option, None, get_or, ℕ, ◌≤◌}
use Rattle.std.proofs.Common.{ap, ◌∙◌, arith}
use Rattle.std.proofs.Common.{ap₂}
use lib.ListN.{replicate}
use mathlib.Core.List.{List, []}
use Rattle.std.specs.Prelude.{length}
use Rattle.shape.specs.declared.Rect.{Rect}
use Rattle.trace.specs.Traces.{Trace}
use Rattle.label_spots.specs.declared.Geometry.{Geometry}
use Rattle.scene.specs.Scene.{Scene, scene_of}
use Rattle.routing.specs.Routing.{Frame, BlockSize, first_scene, records}
use Rattle.routing_laws.specs.Passes.{Drawn, drawn_with, gathered}
use Rattle.routing_laws.proofs.Slots.{passes-gathered}
use Rattle.curves.specs.Lay.{first_traces}
use Rattle.turns.specs.Steps.{all_passed}
use Rattle.std.proofs.lemmas.List.{get_or-replicate, length-replicate}
use Rattle.std.proofs.Math.ListN.{get_or-eq_default}
use Rattle.laws.specs.Cases.{by_lt}

pub none_drawn : {A : Type 0} (n k : ℕ) → get_or {A = Option A} (replicate n None) k None ≡ None
none_drawn {A} n k =
    by_lt k n (λ h. get_or-replicate n k None None h) (λ h. get_or-eq_default (replicate {A = Option A} n None) None (omega (arith, length-replicate {A = Option A} n None)))

module _ (f : Frame) (ts : List Trace) (bs : List Rect) (t : ts ≡ first_traces f) (b : bs ≡ []) where
  scene_is : scene_of f.centres ts bs ≡ first_scene f
  unfolding first_scene
  scene_is = ap₂ (λ (x : List Trace) (y : List Rect). scene_of f.centres x y) t b

  pub all_gathered : (sizes : List BlockSize) (slots : List (Option Geometry)) (d : Drawn) → d ≡ all_passed f sizes (drawn_with (scene_of f.centres ts bs) slots)
      → length f.arrows ≤ length slots → ((k : ℕ) → get_or slots k None ≡ None) → gathered d.slots ≡ records f sizes
  all_gathered sizes slots d e room none =
      ap (λ (x : Drawn). gathered x.slots) e
      ∙ ap (λ (s : Scene). gathered (all_passed f sizes (drawn_with s slots)).slots) scene_is
      ∙ passes-gathered f sizes slots room none
