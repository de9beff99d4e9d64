use Rattle.std.proofs.Common.{rules, arith, take, sym, ap, ◌∙◌}
use Rattle.refusal.specs.Refused.{outcome}
use Rattle.listing.specs.Listing.{refused_text}
use Rattle.listing.specs.Laws.{listed-output, refused-output}
use Rattle.listing.proofs.output.Goals as goal

pub returns-in-Ok : goal.returns-in-Ok
returns-in-Ok c =
    let a = c.args in
    let l = rw c.main_screen.ensures at c.list.ensures in
    let p = listed-output (take a.n a.input.now) a.text.now (search rules) (ap outcome (sym c.in-Ok.is) ∙ l.0) l.1 in
    (search rules, omega (arith, c.list.auto), omega (arith, p.0), p.1)

pub returns-in-Err : goal.returns-in-Err
returns-in-Err c =
    let a = c.args in
    let l = rw c.main_screen.ensures at c.list.ensures in
    let k = c.list.auto in (
      search rules,
      omega (arith, c.put_refused.auto, k),
      omega (arith, c.put_refused.ensures.0, k),
      c.put_refused.ensures.1 ∙ ap refused_text c.into.ensures ∙ refused-output (take a.n a.input.now) a.text.now (search rules) (ap outcome (sym c.in-Err.is) ∙ l.0),
    )
