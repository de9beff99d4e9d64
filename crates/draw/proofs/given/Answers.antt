-- `draw::given` meets its contract.
use Rattle.std.proofs.Common.{rules, ◌∙◌, sym}
use Rattle.shape.specs.Plane.{vec}
use Rattle.float.specs.Constants.{f0}
use Rattle.trace.proofs.Laws.{table_list}
use Rattle.trace.proofs.Made.{made_is}
use Rattle.draw.specs.Given.{number_given, given}
use Rattle.draw.proofs.given.Goals as goal

pub returns : goal.returns
unfolding given
returns c = let a = c.args in
    made_is _ _ (λ k. vec (number_given a.xs.now k) (number_given a.ys.now k)) (λ q i y k. search rules) c.from_fn.result 64 (vec f0 f0) c.from_fn.ensures.items
    ∙ sym (table_list _ 0 64)
