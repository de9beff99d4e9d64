-- Refusal 9: "a two-way pair whose first free bow exceeds 10^9".
use Rattle.std.specs.Prelude.{Bool, not, ◌&&◌, List, length}
use Rattle.laws.specs.Any.{any_of}
use Rattle.float.specs.Ops.{lt}
use Rattle.float.specs.Constants.{f1e9}
use Rattle.shape.specs.declared.«V».{«V»}
use Rattle.free.specs.declared.Chord.{Chord}
use Rattle.free.specs.Chords.{chord}
use Rattle.free.specs.Blocked.{blocked}
use Rattle.bend.specs.Bend.{pair_up}
use Rattle.bend.specs.Leads.{Ends, leads}
use Rattle.directions.specs.Rims.{is_between}
use Rattle.routing.specs.Routing.{Frame, Numbered, is_kept_in, is_loop, crossing, is_paired}

-- the first free bow of a pair along a chord, past the states at these centres
abbrev pub pair_beyond : Chord → List «V» → Bool
pair_beyond c ps = lt f1e9 (pair_up c (blocked c ps))

-- an arrow between different states that has a reverse arrow
unfoldable pub is_beyond : Frame → Numbered → Bool
is_beyond f a = is_paired f a && pair_beyond (chord f.centres a.ends.source a.ends.target) f.centres

-- some arrow of the drawing
unfoldable pub beyond : Frame → Bool
beyond f = any_of (is_beyond f) (crossing f)

-- ---- as the code decides it

-- of any arrow, by its ends
abbrev pub ends_refused : Frame → Ends → Bool
ends_refused f e = is_between (length f.flags) e.source e.target && (leads f.arrows e.target e.source && pair_beyond (chord f.centres e.source e.target) f.centres)

-- and by its number
abbrev pub is_refused : Frame → Numbered → Bool
is_refused f a = is_kept_in f a && (not (is_loop a) && is_beyond f a)
