-- `bend::clearance` meets its contract. The invariant: the points to come, from the clearance so far, give the whole clearance.
use mathlib.Core.Path.{sym, ap, ap₂, ◌∙◌}
use native.Mathlib.Omega.{arith}
use lib.Ieee.{Float}
use Rattle.laws.specs.Loops.{up, up_step, up_done}
use Rattle.shape.specs.declared.«V».{«V»}
use Rattle.shape.specs.declared.Curve.TheVariants.{Quad}
use Rattle.free.specs.Chords.{other_states}
use Rattle.bend.specs.Clear.{nearest, sampled, clearance}
use Rattle.bend.specs.Farther.{start-near}
use Rattle.bend.proofs.clearance.Goals as goal

pub loop-k-init : goal.loop-k-init
unfolding clearance
loop-k-init c = let a = c.args in (
  start-near c.infinity-most.result c.infinity-most.ensures,
  ap₂ (λ (v : «V») (m : Float). up (sampled (other_states a.c a.nodes.now) (Quad a.c.a v a.c.b)) 1 16 m) c.control.ensures c.infinity-most.ensures,
)

pub nearest-r-requires : goal.nearest-r-requires
nearest-r-requires c = record { good_near = c.loop-k.invariant.0 }

pub loop-k-preserved : goal.loop-k-preserved
loop-k-preserved c = let a = c.args in
    let os = other_states a.c a.nodes.now in (
      c.nearest-r.ensures.good,
      rw (c.nearest-r.ensures.is ∙ ap (λ (v : «V»). nearest os v c.loop-k.r.room) c.at.ensures)
          (sym (up_step _ _ _ _ (omega arith)) ∙ c.loop-k.invariant.1),
    )

pub returns : goal.returns
returns c = sym (up_done _ _ _ _ (omega arith)) ∙ c.loop-k.invariant.1
