-- The search for a free bow. "Leaving the search for a free bow happens in the first full pass that moves nothing."
use Rattle.std.specs.Prelude.{Bool, true, false, cond, ◌&&◌, List, ℕ, zero, suc, length, Float}
use Rattle.std.specs.List.{list_any, fold}
use Rattle.float.specs.Ops.{lt}
use Rattle.float.specs.Constants.{f0}
use Rattle.free.specs.declared.Span.{Span}
use Rattle.free.specs.declared.Pass.{Pass}
use Rattle.free.specs.declared.Search.{Search}
use Rattle.free.specs.declared.Search.TheVariants.{Up, Down}

-- the way of a direction: upwards where it is above 0
abbrev pub way_of : Float → Search
way_of dir = cond (lt f0 dir) Up Down

abbrev pub span_from : Float → Float → Span
span_from lo hi = record { lo = lo; hi = hi }

-- strictly inside
abbrev pub inside : Span → Float → Bool
inside s h = lt s.lo h && lt h s.hi

-- strictly inside one of them
abbrev pub inside_some : List Span → Float → Bool
inside_some l h = list_any (λ s. inside s h) l

-- where an interval sends a bow that is inside it: upwards to its upper end, downwards to its lower
abbrev pub sent_to : Search → Span → Float
sent_to Up s = s.hi
sent_to Down s = s.lo

unfoldable pub visit : Search → Pass → Span → Pass
visit way p s = cond (inside s p.h) (record { h = sent_to way s; moved = true }) p

abbrev pub pass_start : Float → Pass
pass_start h = record { h = h; moved = false }

-- one full pass over the intervals, in order
unfoldable pub pass : Search → List Span → Float → Pass
pass way l h = fold (visit way) (pass_start h) l

-- at most m passes, up to the first that moves nothing
unfoldable pub passes : Search → List Span → ℕ → Float → Float
passes way l zero h = h
passes way l (suc m) h =
    let s = pass way l h in
    let more = passes way l m s.h in
    cond s.moved more s.h

-- The first free bow. One pass more than there are intervals is enough: `moves_bound` of `Moves`.
unfoldable pub first_free : Search → List Span → Float → Float
first_free way l h = passes way l (suc (length l)) h
