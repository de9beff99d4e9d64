-- `calls::list_by` meets its contract.
use Rattle.std.proofs.Common.{sym, ◌∙◌, length-take-le}
use Rattle.std.proofs.lemmas.List.{length-map}
use Rattle.std.proofs.lemmas.Result.{err_from_is_err_and}
use Rattle.laws.specs.Filled.{put_whole}
use Rattle.sheet.specs.Sheet.{states_of, meaning, flags_of}
use Rattle.draw.specs.Drawn.{xs_of, ys_of}
use Rattle.calls.proofs.Held.{drawing_held}
use Rattle.calls.proofs.Lists.{at-refused, at-drawn}
use Rattle.calls.proofs.list_by.Goals as goal

pub returns-in_err-drawn : goal.returns-in_err-drawn
returns-in_err-drawn c = let a = c.args in
    let p = err_from_is_err_and c.from_residual.result c.from_residual.ensures.1 in
    rw (p.1, p.2) (at-refused a.sheet.now a.m a.size.width a.size.height a.centres.now a.out.now _ c.in_err-drawn.ensures)

pub returns : goal.returns
returns c = let a = c.args in
    let q = c.requires in
    let s = a.sheet.now in
    let h = drawing_held s a.m (xs_of a.centres.now) (ys_of a.centres.now) q.limits.0 q.limits.1 _ c.in_ok-drawn.ensures in
    at-drawn s a.m a.size.width a.size.height a.centres.now a.out.now _ h _
    (c.flags_into.ensures ∙ put_whole _ (flags_of (meaning s)) (length-take-le _ _ q.states.1 ∙ sym q.states.0 ∙ sym (length-map (states_of s) (λ a. a.flags))))
    _ c.totals_of.ensures _ _ c.write_listing.ensures
