-- `curves::Frame::lay_arrows` meets its contract.
use Rattle.std.proofs.Common.{◌≡◌, ◌++◌, ◌+◌, length, map, drop}
use Rattle.curves.specs.Lay.{frame_in, laid_by}
use Rattle.curves.proofs.frame.Frame.lay_arrows.Given as goal

abbrev pub invariant-loop-e : goal.invariant-loop-e
invariant-loop-e g l =
    (length l.laid ≡ length l.initial.laid + l.e-index)
    × (l.laid ++ map (laid_by (frame_in l.self)) (drop l.e-index l.self.arrows.now) ≡ l.initial.laid ++ map (laid_by (frame_in l.self)) l.self.arrows.now)
