-- What stands before any label is placed: "It begins with the states and traces that `geometry` has before any label."
use Rattle.std.specs.Prelude.{Bool, true, false, cond, ℕ, suc, eqb, length, Float}
use Rattle.laws.specs.Counting.{how_many, worth}
use mathlib.Core.List.{List, [], ◌∷◌, ◌++◌, map}
use Rattle.shape.specs.Centres.{centre}
use Rattle.sheet.specs.Meaning.{ends_below}
use Rattle.trace.specs.Traces.{Trace, arrow, trace_of}
use Rattle.bend.specs.Leads.{leads}
use Rattle.bend.specs.Between.{between}
use Rattle.directions.specs.Rims.{leave_angle, reach_angle}
use Rattle.routing.specs.Routing.{Frame, Ends, first_scene}
use Rattle.curves.specs.declared.frame.Frame.{Frame as Lent}
use Rattle.curves.specs.declared.Crossing.{Crossing}
use Rattle.curves.specs.declared.Laid.{Laid}
use Rattle.curves.specs.declared.Laid.TheVariants.{LeftOut, Loop, Between}

-- the frame that is lent
abbrev pub frame_in : Lent → Frame
frame_in f = record { flags = f.flags.now; centres = f.centres.now; arrows = f.arrows.now }

-- an arrow between different states, and where it meets their rims
abbrev pub crossing_by : Frame → Ends → Crossing
crossing_by f e =
    let r = between f.centres e.source e.target (leads f.arrows e.target e.source) in
    record { routed = r; leave = leave_angle r.curve (centre f.centres e.source); reach = reach_angle r.curve (centre f.centres e.target) }

-- what is known of an arrow
unfoldable pub laid_by : Frame → Ends → Laid
laid_by f e = cond (ends_below (length f.flags) e.source e.target) (cond (eqb e.source e.target) Loop (Between (crossing_by f e))) LeftOut

abbrev pub laid_of : Frame → List Laid
laid_of f = map (laid_by f) f.arrows

-- the traces of the arrows from number k on
abbrev pub traces_laid : ℕ → Laid → List Trace
traces_laid k LeftOut = []
traces_laid k Loop = []
traces_laid k (Between c) = trace_of (arrow k) c.routed.curve ∷ []

unfoldable pub laid_traces : ℕ → List Laid → List Trace
laid_traces k [] = []
laid_traces k (l ∷ ls) = traces_laid k l ++ laid_traces (suc k) ls

-- how many arrows have one
abbrev pub is_crossing : Laid → Bool
is_crossing LeftOut = false
is_crossing Loop = false
is_crossing (Between c) = true

abbrev pub crosses : Laid → ℕ
crosses l = worth is_crossing 1 l

abbrev pub crossings : List Laid → ℕ
crossings ls = how_many is_crossing ls

-- those of the first scene
abbrev pub first_traces : Frame → List Trace
first_traces f = (first_scene f).traces

-- ---- rims

-- the angle at which an arrow between different states meets the rim of state k
abbrev pub met_by : ℕ → Ends → Laid → List Float
met_by k e LeftOut = []
met_by k e Loop = []
met_by k e (Between c) = cond (eqb e.source k) (c.leave ∷ []) (cond (eqb e.target k) (c.reach ∷ []) [])

unfoldable pub all_met : ℕ → List Ends → List Laid → List Float
all_met k [] ls = []
all_met k (e ∷ es) [] = []
all_met k (e ∷ es) (l ∷ ls) = met_by k e l ++ all_met k es ls
