-- `bend::beside` meets its contract.
use mathlib.Core.Path.{ap, sym, ◌∙◌}
use lib.Ieee.{Float}
use Rattle.float.specs.Ops.{◌⊖◌}
use Rattle.float.specs.Constants.{node_radius}
use Rattle.bend.specs.Farther.{step_end, step-far, step-near, step_same}
use Rattle.bend.proofs.beside.Goals as goal

pub returns-then-is_end : goal.returns-then-is_end
returns-then-is_end c = let a = c.args in step_end a.c a.k a.o a.p a.r c.requires (sym c.is_end.ensures ∙ c.if-is_end.true)

pub returns-then-r-q : goal.returns-then-r-q
returns-then-r-q c = let a = c.args in step-far a.c a.k a.o a.p a.r c.requires (sym c.is_end.ensures ∙ c.if-is_end.false) c.dist_squared-q.result c.dist_squared-q.ensures c.if-r-q.true

pub returns-then-room-r : goal.returns-then-room-r
returns-then-room-r c = let a = c.args in step-near a.c a.k a.o a.p a.r c.requires (sym c.is_end.ensures ∙ c.if-is_end.false) c.dist_squared-q.result c.dist_squared-q.ensures (c.root-room.result ⊖ node_radius) (ap (λ (z : Float). z ⊖ node_radius) c.root-room.ensures) c.if-room-r.true

pub returns : goal.returns
returns c = let a = c.args in step_same a.c a.k a.o a.p a.r c.requires (sym c.is_end.ensures ∙ c.if-is_end.false) c.dist_squared-q.result c.dist_squared-q.ensures (c.root-room.result ⊖ node_radius) (ap (λ (z : Float). z ⊖ node_radius) c.root-room.ensures) c.if-room-r.false
