-- `curves::Frame::rim` meets its contract.
use mathlib.Core.Path.{sym, ◌∙◌}
use Rattle.curves.specs.Lay.{frame_in}
use Rattle.curves.proofs.Laws.{rim_start, rim_other}
use Rattle.curves.proofs.frame.Frame.rim.Goals as goal

pub returns-then-is_start : goal.returns-then-is_start
returns-then-is_start c = let a = c.args in
    rim_start (frame_in a.self.now) a.k _ _ a.laid.now c.requires.all c.requires.none c.meet.ensures.all _ (sym c.is_start.ensures ∙ c.if-is_start.true) c.push.ensures

pub returns-else-is_start : goal.returns-else-is_start
returns-else-is_start c = let a = c.args in
    rim_other (frame_in a.self.now) a.k _ _ a.laid.now c.requires.all c.requires.none c.meet.ensures.all (sym c.is_start.ensures ∙ c.if-is_start.false)
