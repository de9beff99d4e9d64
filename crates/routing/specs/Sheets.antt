-- Routing a sheet's graph at given centres.
use Rattle.std.specs.Prelude.{◌≡◌, List, map, ℕ, ◌<◌, length, get_or, Float}
use Rattle.std.specs.Float.{nan, inf, fin}
use Rattle.laws.specs.Flat.{table}
use Rattle.float.specs.Constants.{f0}
use Rattle.shape.specs.declared.«V».{«V»}
use Rattle.shape.specs.Plane.{vec}
use Rattle.sheet.specs.Sheet.{State, Arrow, Graph, flags_of}
use Rattle.sheet.specs.Meaning.{no_arrow}
use Rattle.label.specs.Label.{block_width, block_height}
use Rattle.label_spots.specs.declared.Geometry.{Geometry}
use Rattle.routing.specs.Routing.{Ends, Frame, BlockSize, records}
pub use Rattle.bend.specs.Leads.{ends_by}

-- "Centres missing or not finite count as 0."
abbrev pub or_zero : Float → Float
or_zero nan = f0
or_zero (inf s) = f0
or_zero (fin s m e) = fin s m e

abbrev pub centre_at : List Float → List Float → ℕ → «V»
centre_at xs ys k = vec (or_zero (get_or xs k f0)) (or_zero (get_or ys k f0))

abbrev pub ends_of : Arrow → Ends
ends_of a = record { source = a.source; target = a.target }

abbrev pub block_size : List (List ℕ) → BlockSize
block_size lines = record { width = block_width lines; height = block_height (length lines) }

abbrev pub size_of : Arrow → BlockSize
size_of a = block_size a.lines

-- the centres of n states
abbrev pub centres_at : List Float → List Float → ℕ → List «V»
centres_at xs ys n = table (centre_at xs ys) 0 n

-- the states' flag bytes and centres, and the arrows' ends
abbrev pub frame_with : List ℕ → List «V» → List Ends → Frame
frame_with flags cs arrows = record { flags = flags; centres = cs; arrows = arrows }

unfoldable pub frame_of : Graph → List Float → List Float → Frame
frame_of g xs ys = frame_with (flags_of g) (centres_at xs ys (length g.states)) (map ends_of g.arrows)

abbrev pub sizes_of : Graph → List BlockSize
sizes_of g = map size_of g.arrows

-- the records, in arrow order
abbrev pub records_of : Graph → List Float → List Float → List Geometry
records_of g xs ys = records (frame_of g xs ys) (sizes_of g)

-- past the last state
abbrev pub no_state : State
no_state = record { flags = 0 }

-- "Two sheets have the same states if they have as many, with equal byte 1 at each number; the same arrow ends, if they have as many arrows, with equal from and to at each number."
pub record SameFrame (g h : Graph) : Type 0 where
  pub states : length g.states ≡ length h.states
  pub flags : (k : ℕ) → k < length g.states → (get_or g.states k no_state).flags ≡ (get_or h.states k no_state).flags
  pub many : length g.arrows ≡ length h.arrows
  pub sources : (k : ℕ) → k < length g.arrows → (get_or g.arrows k no_arrow).source ≡ (get_or h.arrows k no_arrow).source
  pub targets : (k : ℕ) → k < length g.arrows → (get_or g.arrows k no_arrow).target ≡ (get_or h.arrows k no_arrow).target
