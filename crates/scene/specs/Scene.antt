-- What is drawn already while labels are placed, and the full cost of a label box in it.
use Rattle.std.specs.Prelude.{Bool, List, [], ◌∷◌, ◌++◌, ℕ, ◌+◌, ◌*◌, length, map}
use Rattle.laws.specs.Counting.{how_many}
use Rattle.float.specs.Ops.{◌⊕◌, ◌⊖◌, lt}
use Rattle.float.specs.Constants.{keep, label_char_width, node_radius}
use Rattle.shape.specs.declared.«V».{«V»}
use Rattle.shape.specs.declared.Rect.{Rect}
use Rattle.shape.specs.Plane.{rect, grown, overlaps, box_dist}
use Rattle.trace.specs.Traces.{Trace}
use Rattle.trace.specs.Form.{trace_in}
use Rattle.scene.specs.declared.Scene.{Scene as Lent}
-- a foreign trace that meets the box: "A foreign trace is one that the turn's arrow does not own."
unfoldable pub use Rattle.trace.specs.Traces.{struck}

-- "states and traces .. and what `geometry` adds": the labels placed so far, as boxes
pub record Scene : Type 0 where
  pub centres : List «V»
  pub traces : List Trace
  pub boxes : List Rect

abbrev pub scene_of : List «V» → List Trace → List Rect → Scene
scene_of cs ts bs = record { centres = cs; traces = ts; boxes = bs }

-- a box more, a trace more: "what `geometry` adds before the next turn"
abbrev pub with_box : Scene → Rect → Scene
with_box s b = scene_of s.centres s.traces (s.boxes ++ (b ∷ []))

abbrev pub with_trace : Scene → Trace → Scene
with_trace s t = scene_of s.centres (s.traces ++ (t ∷ [])) s.boxes

-- ---- the full cost

-- nearer to the box than a state's radius and the room that is kept
unfoldable pub near26 : Rect → «V» → Bool
near26 b c = lt (box_dist b c) (node_radius ⊕ keep)

-- other arrows keep that room from a label, other labels too above and below, and a character's width to the side
abbrev pub wide : Rect → Rect
wide b = grown b keep

abbrev pub apart : Rect → Rect
apart b = rect (b.x0 ⊖ label_char_width) (b.y0 ⊖ keep) (b.x1 ⊕ label_char_width) (b.y1 ⊕ keep)

abbrev pub overlapping : Rect → Rect → Bool
overlapping b o = overlaps o b

-- "Full cost: 10 a state, 6 a label, 3 a foreign trace", "summed over the whole scene", "never cut"
unfoldable pub box_cost : Scene → ℕ → Rect → ℕ
box_cost s own b =
    10 * how_many (near26 b) s.centres
    + 6 * how_many (overlapping (apart b)) s.boxes
    + 3 * how_many (struck own (wide b)) s.traces

-- no cost is above this: every state, label and trace
abbrev pub most : Scene → ℕ
most s = 10 * length s.centres + 6 * length s.boxes + 3 * length s.traces

-- ---- the code's scene

abbrev pub scene_in : Lent → Scene
scene_in s = scene_of s.states.now (map trace_in s.traces.now) s.boxes.now
