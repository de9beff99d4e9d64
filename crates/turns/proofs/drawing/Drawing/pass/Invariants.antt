-- `turns::Drawing::pass` meets its contract.
use Rattle.std.proofs.Common.{◌≡◌, take, drop}
use Rattle.laws.specs.Loops.{over}
use Rattle.routing.specs.Routing.{numbered}
use Rattle.routing_laws.specs.Passes.{turned, passed}
use Rattle.curves.specs.Lay.{frame_in}
use Rattle.turns.specs.Steps.{Grown, drawn_in, pass_of, many_of, more}
use Rattle.turns.proofs.drawing.Drawing.pass.Given as goal

abbrev pub invariant-loop-i : goal.invariant-loop-i
invariant-loop-i g l =
    Grown l.initial.self l.self (many_of l.sort (take l.i l.laying.laid.now)) (more l.sort (many_of l.sort (take l.i l.laying.laid.now)))
    × (over (turned (frame_in l.laying.frame) l.sizes (pass_of l.sort)) (drawn_in (frame_in l.laying.frame) l.self) (drop l.i (numbered (frame_in l.laying.frame)))
    ≡ passed (frame_in l.laying.frame) l.sizes (pass_of l.sort) (drawn_in (frame_in l.laying.frame) l.initial.self))
