-- `turns::Drawing::turn_at` meets its contract.
use Rattle.std.proofs.Common.{sym, ap, ◌∙◌, arith, ◌<◌, length}
use Rattle.laws.specs.Lists.{get_d_any}
use Rattle.curves.specs.Lay.{frame_in}
use Rattle.turns.specs.Steps.{drawn_in}
use Rattle.turns.proofs.Laws.{laid_at, turn_sort, turn_other}
use Rattle.std.proofs.lemmas.List.{length-map}
use Rattle.curves.specs.Lay.{laid_by}
use Rattle.turns.proofs.drawing.Drawing.turn_at.Goals as goal

pub returns-then-is_sort-clause-turned : goal.returns-then-is_sort-clause-turned
returns-then-is_sort-clause-turned g c = let a = c.args in
    let f = frame_in a.laying.now.frame in
    let k : a.i < length a.laying.now.laid.now = omega (arith, ap length a.laying.now.all, length-map f.arrows (laid_by f), c.requires.arrow.0) in
    c.turn.ensures.turned
    ∙ turn_sort f a.i a.sizes.now (drawn_in f a.self.now) _ a.sort (laid_at f a.i a.laying.now.laid.now _ a.laying.now.all c.requires.arrow.0 k) _
    (get_d_any a.sizes.now a.i _ _ (omega (arith, c.requires.sized, c.requires.arrow.0))) (sym c.is_sort.ensures ∙ c.if-is_sort.true)

pub returns-else-is_sort-clause-turned : goal.returns-else-is_sort-clause-turned
returns-else-is_sort-clause-turned g c = let a = c.args in
    let f = frame_in a.laying.now.frame in
    let k : a.i < length a.laying.now.laid.now = omega (arith, ap length a.laying.now.all, length-map f.arrows (laid_by f), c.requires.arrow.0) in
    turn_other f a.i a.sizes.now (drawn_in f a.self.now) _ a.sort (laid_at f a.i a.laying.now.laid.now _ a.laying.now.all c.requires.arrow.0 k) (sym c.is_sort.ensures ∙ c.if-is_sort.false)
