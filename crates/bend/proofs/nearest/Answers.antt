-- `bend::nearest` meets its contract. The invariant: the fold over the states to come, from here, is the whole fold.
use mathlib.Core.Path.{refl, ap, ◌∙◌}
use Prim.Native.Nat.{◌+◌}
use lib.ListN.{drop}
use lib.Ieee.{Float}
use Rattle.laws.specs.Loops.{over}
use Rattle.shape.specs.declared.«V».{«V»}
use Rattle.shape.specs.Plane.{vec}
use Rattle.free.specs.Chords.{others_from}
use Rattle.bend.specs.Clear.{beside, nearer, nearest}
use Rattle.bend.specs.Steps.{beside-step, beside_end}
use Rattle.laws.specs.Lists.{get_d_any}
use Rattle.float.specs.Constants.{f0}
use Rattle.bend.proofs.nearest.Goals as goal

pub loop-k-init : goal.loop-k-init
unfolding nearest
loop-k-init c = (c.requires.good_near, refl)

pub beside-r-requires : goal.beside-r-requires
beside-r-requires c = c.loop-k.invariant.0

pub loop-k-preserved : goal.loop-k-preserved
loop-k-preserved c = let a = c.args in
    let l = c.loop-k in
    let ps = a.nodes.now in
    let h = c.loop-k-test.true in (
      c.beside-r.ensures.good,
      ap (λ (m : Float). over (nearer a.p) m (others_from a.c (l.k + 1) (drop (l.k + 1) ps))) (c.beside-r.ensures.is ∙ ap (λ (v : «V»). beside a.c l.k v a.p l.r.room) (get_d_any ps l.k _ (vec f0 f0) h))
          ∙ beside-step a.c ps a.p l.k l.r.room h
          ∙ l.invariant.1,
    )

pub returns : goal.returns
returns c = let a = c.args in
    let l = c.loop-k in
    record { good = l.invariant.0; is = beside_end a.c a.nodes.now a.p l.k l.r.room c.loop-k-test.false ∙ l.invariant.1 }
