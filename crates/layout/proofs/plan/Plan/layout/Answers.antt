-- `layout::Plan::layout` meets its contract.
use Rattle.std.proofs.Common.{rules, ◌∙◌}
use Rattle.std.proofs.Math.Path.{refl}
use Rattle.layout.specs.Layout.{kind_number}
use Rattle.layout.specs.Lent.{plan_in, placing_of}
use Rattle.layout.specs.Laws.{placed_points, left_none, left_chosen}
use Rattle.layout.proofs.plan.Plan.layout.Goals as goal

pub returns-then-is_empty : goal.returns-then-is_empty
returns-then-is_empty c =
    left_none (kind_number c.args.kind) (plan_in c.args.self.now) _ c.args.centres.now (search rules) c.requires.level refl refl

pub returns : goal.returns
returns c = let p = plan_in c.args.self.now in
    left_chosen (kind_number c.args.kind) p (placing_of c.place.new.centres) c.fit.result c.fit.new.centres (search rules)
    (placed_points c.choose-placement.result p c.place.new.centres c.place.ensures ∙ c.choose-placement.ensures) c.fit.ensures
