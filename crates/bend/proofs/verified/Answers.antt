-- `bend::verified` meets its contract. The invariant: the choice among the bows to come is the choice among all.
use mathlib.Core.Path.{sym, ap, ◌∙◌}
use Prim.Native.Nat.{◌+◌}
use native.Mathlib.Omega.{arith}
use lib.ListN.{drop, get_or}
use lib.Ieee.{Float, nan}
use Rattle.float.specs.Ops.{◌⊗◌, le, neg}
use Rattle.float.specs.Constants.{full_clearance, f0_5}
use Rattle.bend.specs.declared.Best.{Best}
use Rattle.bend.specs.Clear.{clearance}
use Rattle.bend.specs.Choice.{best_of, better, choose, choose_is, clearance_num}
use Rattle.bend.specs.Steps.{choose_hit, choose_miss, choose-end}
use Rattle.bend.proofs.verified.Goals as goal

pub loop-h-init : goal.loop-h-init
loop-h-init c = let a = c.args in
    let ps = a.nodes.now in
    let keeps = clearance a.c ps in
    ap (λ (m : Float). choose keeps (best_of (neg m) (get_or a.bows.now 0 nan)) a.bows.now) c.infinity.ensures ∙ choose_is keeps (clearance_num a.c ps) a.bows.now

pub returns-then-m : goal.returns-then-m
returns-then-m c = let a = c.args in
    let keeps = clearance a.c a.nodes.now in
    choose_hit keeps c.loop-h.b a.bows.now c.loop-h.h-index (omega arith) (ap (λ (m : Float). le (full_clearance ⊗ f0_5) m) (sym c.clearance-m.ensures) ∙ c.if-m.true) ∙ c.loop-h.invariant

pub loop-h-preserved : goal.loop-h-preserved
loop-h-preserved c = let a = c.args in
    let keeps = clearance a.c a.nodes.now in
    let h = get_or a.bows.now c.loop-h.h-index nan in
    ap (λ (b : Best). choose keeps b (drop (c.loop-h.h-index + 1) a.bows.now)) (c.better-b.ensures ∙ ap (λ (m : Float). better c.loop-h.b m h) c.clearance-m.ensures)
    ∙ choose_miss keeps c.loop-h.b a.bows.now c.loop-h.h-index (omega arith) (ap (λ (m : Float). le (full_clearance ⊗ f0_5) m) (sym c.clearance-m.ensures) ∙ c.if-m.false)
    ∙ c.loop-h.invariant

pub returns : goal.returns
returns c = let a = c.args in
    let keeps = clearance a.c a.nodes.now in
    choose-end keeps c.loop-h.b a.bows.now c.loop-h.h-index (omega arith) ∙ c.loop-h.invariant
