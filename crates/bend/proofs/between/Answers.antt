-- `bend::between` meets its contract.
use mathlib.Core.Path.{ap, ◌∙◌}
use Rattle.free.specs.declared.Chord.{Chord}
use Rattle.bend.specs.Bend.{bend}
use Rattle.bend.specs.Between.{with_bow, between}
use Rattle.bend.proofs.between.Goals as goal

pub returns : goal.returns
unfolding between
returns c = let a = c.args in
    c.with_bow.ensures
    ∙ ap (with_bow c.of-c.result) c.bend-h.ensures
    ∙ ap (λ (d : Chord). with_bow d (bend d a.nodes.now a.both_ways)) c.of-c.ensures
