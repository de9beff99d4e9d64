-- `plan::plan` meets its contract.
use mathlib.Core.Path.{sym}
use native.Mathlib.Omega.{arith}
use Rattle.std.proofs.lemmas.Result.{err_from_is_err_and}
use Rattle.sheet.specs.Accepted.{within-limits}
use Rattle.plan.specs.Laws.{kind_within, plan_kind, plan-refused, plan_accepted}
use Rattle.plan.proofs.plan.Goals as goal

pub returns-in_err-kind : goal.returns-in_err-kind
returns-in_err-kind c = let a = c.args in
    let e = c.in_err-kind.ensures in
    let p = err_from_is_err_and c.from_residual.result c.from_residual.ensures.1 in
    rw (p.1, p.2, e.0) (plan_kind a.m a.kind a.s.now a.centres.now e.1)

pub returns-in_err-check_within : goal.returns-in_err-check_within
returns-in_err-check_within c = let a = c.args in
    let r = c.from_residual-in_err-check_within in
    let p = err_from_is_err_and r.result r.ensures.1 in
    rw (p.1, p.2) (plan-refused a.m a.kind a.s.now a.centres.now _ (kind_within _ c.in_ok-kind.ensures) c.in_err-check_within.ensures)

pub plan_accepted-requires : goal.plan_accepted-requires
plan_accepted-requires c = let a = c.args in
    let q = c.requires in
    let w = within-limits a.m a.s.now (sym c.in_ok-check_within.ensures) in
    (omega (arith, w.states, q.0), omega (arith, w.arrows, q.1), q.2)

pub returns : goal.returns
returns c = let a = c.args in
    let k = c.in_ok-kind.ensures in
    plan_accepted a.m a.kind a.s.now a.centres.now _ _ (kind_within _ k) c.in_ok-check_within.ensures (rw k at c.plan_accepted.ensures)
