use Rattle.std.proofs.Common.{sym, ◌∙◌, length, List, Float, arith}
use Rattle.std.proofs.lemmas.Result.{err_from_is_err_and}
use Rattle.laws.specs.Put.{put}
use Rattle.sheet.specs.Sheet.{Graph, meaning}
use Rattle.sheet.specs.Accepted.{within-limits}
use Rattle.sheet.specs.Order.{check-refused, check_accepted}
use Rattle.routing.specs.Sheets.{records_of}
use Rattle.refusal.specs.Refused.{values, number}
use Rattle.draw.specs.Drawn.{xs_of, ys_of, centre_refusals}
use Rattle.draw.proofs.draw_at.Goals as goal

pub draw_accepted-requires-clause-small : goal.draw_accepted-requires-clause-small
draw_accepted-requires-clause-small c = let p = c.requires.small in
    let w = within-limits c.args.m c.args.s.now (sym c.in_ok-check_within.ensures) in
    (omega (arith, w.states, p.0), omega (arith, w.arrows, p.1))

pub returns-in_err-check_within : goal.returns-in_err-check_within
returns-in_err-check_within c = let a = c.args in
    let g : Graph = meaning a.s.now in
    let xs : List Float = xs_of a.centres.now in
    let ys : List Float = ys_of a.centres.now in
    let later = centre_refusals g xs ys in
    let drawn = records_of g xs ys in
    let e = c.in_err-check_within.ensures in
    let p = err_from_is_err_and c.from_residual.result c.from_residual.ensures.1 in
    rw (p.1, p.2) (
      check-refused a.m a.s.now later number (values (length drawn)) _ e,
      check-refused a.m a.s.now later (λ n. a.out.now) (put a.out.now 0 drawn) _ e,
    )

pub returns : goal.returns
returns c = let a = c.args in
    let g : Graph = meaning a.s.now in
    let xs : List Float = xs_of a.centres.now in
    let ys : List Float = ys_of a.centres.now in
    let later = centre_refusals g xs ys in
    let drawn = records_of g xs ys in
    let e = c.in_ok-check_within.ensures in (
      c.draw_accepted.ensures.0 ∙ check_accepted a.m a.s.now later number (values (length drawn)) e,
      c.draw_accepted.ensures.1 ∙ check_accepted a.m a.s.now later (λ n. a.out.now) (put a.out.now 0 drawn) e,
    )
