-- `calls::write_sheet` meets its contract.
use mathlib.Core.Path.{sym}
use Rattle.std.proofs.lemmas.Result.{err_from_is_err_and}
use Rattle.calls.proofs.Writes.{accepted_savable, write_refused, write_saved}
use Rattle.calls.proofs.write_sheet.Goals as goal

pub returns-in_err-check_within : goal.returns-in_err-check_within
returns-in_err-check_within c = let a = c.args in
    let p = err_from_is_err_and c.from_residual.result c.from_residual.ensures.1 in
    rw (p.1, p.2) (write_refused a.sheet.now a.limits a.out.now c.capped_limits.ensures.0 _ c.in_err-check_within.ensures)

pub write_accepted-requires : goal.write_accepted-requires
write_accepted-requires c = accepted_savable c.capped_limits.result c.args.sheet.now (sym c.in_ok-check_within.ensures)

pub returns : goal.returns
returns c = let a = c.args in
    write_saved a.sheet.now a.limits a.out.now c.capped_limits.ensures.0 _ _ c.in_ok-check_within.ensures c.write_accepted.ensures
