-- The bows that the other states block. On an arc with bow h the point at distance s along the chord lies 2t(1 − t)·h to the left of it, t = s / len.
-- A state at distance s, q to the left, blocks the bows with which the arc passes nearer than its radius 22 and the clearance 10.
use Rattle.std.specs.Prelude.{Bool, cond, ◌||◌, List, [], ◌∷◌, ℕ, Float}
use Rattle.float.specs.Ops.{◌⊕◌, ◌⊖◌, ◌⊗◌, ◌⊘◌, le}
use Rattle.float.specs.Constants.{f0, f1, f2, full_clearance, node_radius}
use Rattle.shape.specs.declared.«V».{«V»}
use Rattle.shape.specs.Plane.{sub, dot, left}
use Rattle.free.specs.declared.Chord.{Chord}
use Rattle.free.specs.declared.Span.{Span}
use Rattle.free.specs.Chords.{is_end, other_states}
use Rattle.free.specs.Free.{span_from}

-- how far along the chord a point lies, from its start
abbrev pub distance : Chord → «V» → Float
distance c p = dot (sub p c.a) c.along

-- a state blocks nothing at or before the chord's start, at its end or beyond
abbrev pub off_chord : Chord → «V» → Bool
off_chord c p = le (distance c p) f0 || le c.len (distance c p)

-- the distance that the centre of a state keeps from the arc
abbrev pub need : Float
need = node_radius ⊕ full_clearance

abbrev pub rise : Float → Float
rise t = f2 ⊗ t ⊗ (f1 ⊖ t)

abbrev pub across : Chord → «V» → Float
across c p = dot (sub p c.a) (left c.along)

abbrev pub span_of : Chord → «V» → Span
span_of c p = let r = rise (distance c p ⊘ c.len) in span_from ((across c p ⊖ need) ⊘ r) ((across c p ⊕ need) ⊘ r)

-- the intervals of these states, in order
unfoldable pub intervals : Chord → List «V» → List Span
intervals c [] = []
intervals c (p ∷ ps) = let rest = intervals c ps in cond (off_chord c p) rest (span_of c p ∷ rest)

-- the blocked intervals of an arrow
abbrev pub blocked : Chord → List «V» → List Span
blocked c ps = intervals c (other_states c ps)

-- the interval of state k at p, where it has one
abbrev pub blocked_by : Chord → ℕ → «V» → List Span
blocked_by c k p = cond (is_end c k) [] (cond (off_chord c p) [] (span_of c p ∷ []))
