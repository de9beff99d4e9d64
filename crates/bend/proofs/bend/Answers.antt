-- `bend::bend` meets its contract.
use Rattle.std.proofs.Common.{◌∙◌, ◌++◌, ap, List}
use Rattle.free.specs.declared.Span.{Span}
use Rattle.free.specs.Blocked.{blocked}
use Rattle.bend.specs.Bend.{bend, bend_past}
use Rattle.bend.proofs.bend.Goals as goal

pub returns : goal.returns
unfolding bend
returns c = let a = c.args in
    c.bend_past.ensures ∙ ap (λ (l : List Span). bend_past a.c a.nodes.now l a.both_ways) (c.as_slice.ensures.all ∙ c.blocked.ensures ∙ ap (λ (l : List Span). l ++ blocked a.c a.nodes.now) c.new-spans.ensures)
