-- `clutter::collisions` meets its contract.
use Rattle.std.proofs.Common.{◌∙◌, ◌+◌, arith, add-zero, sym, refl, get_or, take, ◌++◌, List, ap, map, cond, Bool}
use Rattle.trace.specs.Form.{trace_in}
use Rattle.label_spots.specs.declared.Geometry.{Geometry}
use Rattle.clutter.specs.Clutter.{collides}
use Rattle.std.proofs.lemmas.List.{take_rest}
use Rattle.clutter.proofs.Laws.{no_geometry, collisions-step, collisions-end}
use Rattle.clutter.proofs.collisions.Goals.{then-collides, else-collides}
use Rattle.clutter.proofs.collisions.Goals as goal

pub loop-i-preserved : goal.loop-i-preserved
loop-i-preserved c = let a = c.args in
    let l = c.loop-i in (
      collisions-step a.nodes.now (map trace_in a.traces.now) a.drawn.now l.i (get_or a.drawn.now l.i no_geometry) no_geometry c.collides.result l.sum c.if-collides.sum c.loop-i-test.true (c.collides.ensures ∙ ap (λ (q : List Geometry). collides a.nodes.now (map trace_in a.traces.now) (take l.i a.drawn.now ++ q) (get_or a.drawn.now l.i no_geometry)) (take_rest a.drawn.now (l.i + 1))) refl
          (elim c.if-collides.branch [
            | then-collides w ↦ w.sum-is ∙ ap (λ (t : Bool). l.sum + cond t 1 0) (sym w.if-collides.true)
            | else-collides w ↦ w.sum-is ∙ sym (add-zero l.sum) ∙ ap (λ (t : Bool). l.sum + cond t 1 0) (sym w.if-collides.false)
          ]) ∙ l.invariant.0,
      elim c.if-collides.branch [ then-collides w ↦ omega (arith, w.sum-is, l.invariant.1) | else-collides w ↦ omega (arith, w.sum-is, l.invariant.1) ],
    )

pub returns : goal.returns
returns c = let a = c.args in
    let l = c.loop-i in (collisions-end a.nodes.now (map trace_in a.traces.now) a.drawn.now l.i l.sum c.loop-i-test.false ∙ l.invariant.0, omega (arith, l.invariant.1))
