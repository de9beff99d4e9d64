-- The offset of an arrow's control point.
use Rattle.std.specs.Prelude.{Bool, cond, List, [], ◌∷◌, Float}
use Rattle.float.specs.Ops.{◌⊕◌, ◌⊗◌, lt, neg}
use Rattle.float.specs.Constants.{f0, f24, f28, f48, f64_0, f160, f0_3, f1_5, eps}
use Rattle.float.specs.Standins.{abs, max, clamp, copysign}
use Rattle.shape.specs.declared.«V».{«V»}
use Rattle.free.specs.declared.Chord.{Chord}
use Rattle.free.specs.declared.Span.{Span}
use Rattle.free.specs.declared.Search.TheVariants as Search
use Rattle.free.specs.Blocked.{blocked}
use Rattle.free.specs.Free.{inside_some, first_free}
use Rattle.bend.specs.Clear.{clearance, verified}

-- ---- the cap, for single arrows only

-- at most 1.5 times the distance, or 160 where that is more
abbrev pub cap : Chord → Float
cap c = max (f1_5 ⊗ c.len) f160

abbrev pub capped : Float → Float → Float
capped most h = cond (lt most (abs h)) (copysign most h) h

-- ---- two states joined in both directions

-- 0.3 of the distance, from 28 to 64
abbrev pub base : Chord → Float
base c = clamp (f0_3 ⊗ c.len) f28 f64_0

-- the first free bow, upwards
abbrev pub pair_up : Chord → List Span → Float
pair_up c l = first_free Search.Up l (base c)

-- the three candidates of a two-way pair
abbrev pub pair_bows : Float → List Float
pair_bows h = h ∷ (h ⊕ f24) ∷ (h ⊕ f48) ∷ []

-- each arrow bends to its left, past what is blocked
unfoldable pub pair_bow : Chord → List «V» → List Span → Float
pair_bow c ps l = verified (clearance c ps) (pair_bows (pair_up c l))

-- ---- a single arrow

-- the first free bow upwards from 24, and downwards from −24
abbrev pub single_up : List Span → Float
single_up l = first_free Search.Up l f24

abbrev pub single_down : List Span → Float
single_down l = first_free Search.Down l (neg f24)

-- down comes first where it is smaller by more than 1e-9
abbrev pub down_first : List Span → Bool
down_first l = lt (abs (single_down l) ⊕ eps) (abs (single_up l))

abbrev pub single_bows : Chord → List Span → List Float
single_bows c l =
    let high = capped (cap c) (single_up l) in
    let low = capped (cap c) (single_down l) in
    cond (down_first l) (low ∷ high ∷ []) (high ∷ low ∷ [])

unfoldable pub single_bow : Chord → List «V» → List Span → Float
single_bow c ps l = verified (clearance c ps) (single_bows c l)

-- ---- all arrows

-- an arrow is straight where it has no reverse arrow and 0 is not blocked: `straight_exactly` of `Exactly`
abbrev pub bend_past : Chord → List «V» → List Span → Bool → Float
bend_past c ps l bothWays = cond bothWays (pair_bow c ps l) (cond (inside_some l f0) (single_bow c ps l) f0)

unfoldable pub bend : Chord → List «V» → Bool → Float
bend c ps bothWays = bend_past c ps (blocked c ps) bothWays
