use Rattle.std.proofs.Common.{◌≡◌, ◌+◌, ◌-◌, ℕ, ap, ◌∙◌, arith}
use Rattle.repair.specs.Marks.{mark_kept}
use Rattle.repair.specs.Steps.{kept_step, kept_done}
use Rattle.repair.proofs.keep_first_mark.Goals as goal

pub loop-k-preserved : goal.loop-k-preserved
loop-k-preserved c = let l = c.loop-k in
    let v = c.visit-marked in
    let e : c.args.n + 1 - (l.k + 1) ≡ c.args.n + 1 - l.k - 1 = omega arith in
    ap (λ (n : ℕ). mark_kept v.result (l.k + 1) n v.new.out) e ∙ kept_step l.marked l.k (c.args.n + 1 - l.k) l.out (λ z. omega arith) v.ensures.0 v.ensures.1 ∙ l.invariant

pub returns : goal.returns
returns c = let l = c.loop-k in kept_done l.marked l.k (c.args.n + 1 - l.k) l.out (omega arith) ∙ l.invariant
