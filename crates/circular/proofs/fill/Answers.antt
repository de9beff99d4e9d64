-- `circular::fill` meets its contract.
use mathlib.Core.Path.{◌≡◌, refl, ap, ap₂, ◌∙◌}
use Prim.Native.Nat.{ℕ}
use native.Mathlib.Omega.{arith}
use lib.ListN.{length}
use lib.Ieee.{Float}
use Rattle.laws.specs.Flat.{table}
use Rattle.laws.specs.Filled.{table-fill, table_full}
use Rattle.float.specs.Ops.{◌⊗◌}
use Rattle.float.specs.Standins.{sin, cos}
use Rattle.shape.specs.Plane.{vec}
use Rattle.circular.specs.Ring.{ring_place, place_angle}
use Rattle.circular.proofs.Laws.{on_ring, ring_filled}
use Rattle.circular.proofs.fill.Goals as goal

pub loop-i-init : goal.loop-i-init
unfolding table
loop-i-init c = refl

pub loop-i-preserved : goal.loop-i-preserved
loop-i-preserved c = let r : Float = c.args.r in
    let n : ℕ = length c.args.centres.now in
    let i : ℕ = c.loop-i.i in
    let a : c.place_angle-a.result ≡ place_angle n (ring_place n c.args.start i) = c.place_angle-a.ensures
    ∙ ap (place_angle n) c.ring_place.ensures.0 in
    table-fill (on_ring n c.args.start r) c.loop-i.centres i c.new.result (omega arith) c.loop-i.invariant
    (c.new.ensures ∙ ap₂ (λ (x y : Float). vec (r ⊗ x) (r ⊗ y)) (c.cos.ensures ∙ ap cos a) (c.sin.ensures ∙ ap sin a))

pub returns : goal.returns
returns c = let n : ℕ = length c.args.centres.now in
    table_full (on_ring n c.args.start c.args.r) c.loop-i.centres c.loop-i.i n (omega arith) (omega arith) c.loop-i.invariant
    ∙ ring_filled n c.args.start c.args.r
