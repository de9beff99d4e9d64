-- `curves::start_curve` meets its contract.
use mathlib.Core.Path.{ap, ap₂, ◌∙◌}
use Rattle.shape.specs.declared.«V».{«V»}
use Rattle.shape.specs.declared.Curve.TheVariants.{Line}
use Rattle.shape.specs.Plane.{sub}
use Rattle.curves.proofs.start_curve.Goals as goal

pub returns : goal.returns
returns c = let tip = c.sub-tip.ensures ∙ ap (sub c.args.c) c.new.ensures in
    ap₂ (λ (p q : «V»). Line p q) (c.sub-tail.ensures ∙ ap₂ (λ (p q : «V»). sub p q) tip c.new-2.ensures) tip
