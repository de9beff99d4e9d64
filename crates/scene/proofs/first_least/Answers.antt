-- `scene::first_least` meets its contract.
use Rattle.std.proofs.Common.{◌≡◌, ◌∙◌, ℕ, ◌+◌, ◌-◌, ap, arith}
use Rattle.laws.specs.Best.{search_from}
use Rattle.laws.specs.Search.{step-at, stop_at, search_end}
use Rattle.std.proofs.lemmas.Bool.{lt-ltb, le-ltb}
use Rattle.scene.proofs.first_least.Goals.{then-c-least, else-c-least}
use Rattle.scene.proofs.first_least.Goals as goal

pub returns-then-c-eq0 : goal.returns-then-c-eq0
returns-then-c-eq0 g c cut d = let l = c.loop-j in
    stop_at cut (c.args.places - l.j) l.j l.least l.place c.cost-c.result c.if-c-least.least c.if-c-least.place (omega (arith, c.loop-j-test.true))
    (d l.least l.j c.cost-c.result c.loop-j.invariant.1 c.loop-j-test.true c.cost-c.ensures)
    (elim c.if-c-least.branch [ then-c-least w ↦ rw (lt-ltb _ _ w.if-c-least.true) w.least-is | else-c-least w ↦ rw (le-ltb _ _ w.if-c-least.false) w.least-is ])
    (elim c.if-c-least.branch [ then-c-least w ↦ rw (lt-ltb _ _ w.if-c-least.true) w.place-is | else-c-least w ↦ rw (le-ltb _ _ w.if-c-least.false) w.place-is ])
    c.if-c-eq0.true ∙ l.invariant.0 cut d

pub loop-j-preserved : goal.loop-j-preserved
loop-j-preserved g c = let l = c.loop-j in
    let n = c.args.places in (
      λ cut d.
          let less : n - (l.j + 1) ≡ n - l.j - 1 = omega arith in
          ap (λ (k : ℕ). search_from cut k (l.j + 1) c.if-c-least.least c.if-c-least.place) less
          ∙ step-at cut (n - l.j) l.j l.least l.place c.cost-c.result c.if-c-least.least c.if-c-least.place (omega (arith, c.loop-j-test.true))
          (d l.least l.j c.cost-c.result c.loop-j.invariant.1 c.loop-j-test.true c.cost-c.ensures)
          (elim c.if-c-least.branch [ then-c-least w ↦ rw (lt-ltb _ _ w.if-c-least.true) w.least-is | else-c-least w ↦ rw (le-ltb _ _ w.if-c-least.false) w.least-is ])
          (elim c.if-c-least.branch [ then-c-least w ↦ rw (lt-ltb _ _ w.if-c-least.true) w.place-is | else-c-least w ↦ rw (le-ltb _ _ w.if-c-least.false) w.place-is ])
          c.if-c-eq0.false ∙ l.invariant.0 cut d,
      elim c.if-c-least.branch [ then-c-least w ↦ omega (arith, w.least-is, w.if-c-least.true, l.invariant.1) | else-c-least w ↦ omega (arith, w.least-is, l.invariant.1) ],
    )

pub returns : goal.returns
returns g c cut d = let l = c.loop-j in
    search_end cut (c.args.places - l.j) l.j l.least l.place (omega (arith, c.loop-j-test.false)) ∙ l.invariant.0 cut d
