-- `fit::fit` meets its contract.
use mathlib.Core.Path.{◌≡◌, ap}
use Rattle.shape.specs.declared.Rect.{Rect}
use Rattle.fit.specs.Fit.{drawing_bounds, rect_size}
use Rattle.fit.proofs.Laws.{all-covered, fitted}
use Rattle.fit.proofs.fit.Goals as goal

pub returns : goal.returns
returns c = let cs = c.args.centres.now in
    let flags = c.args.flags.now in
    let gs = c.args.drawn.now in
    let b : Rect = c.cover_all-b.result in
    let e : b ≡ drawing_bounds flags cs gs =
    all-covered flags cs gs c.empty.result c.cover_states-states.result b c.empty.ensures c.cover_states-states.ensures c.cover_all-b.ensures in (
      ap rect_size e,
      fitted flags cs gs b c.new.result c.shift.new.centres e c.new.ensures c.shift.ensures,
    )
