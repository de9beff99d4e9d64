-- Path text by the SVG path grammar, on what `route` and `list` leave in the slices they are lent: each path is read as the curve, or the
-- arrowhead, that the record's own twenty numbers say, each finite coordinate rounded to hundredths, any other 0.
-- Here is what it says; `paths_read` of Proof proves it. What rounded is, `rounded` of svg's Reads says.
use Rattle.std.specs.Prelude.{◌≡◌, true, List, [], ◌∷◌, ℕ, ◌+◌, ◌*◌, ◌/◌, ◌≤◌, ◌<◌, length, get_or}
use Prim.Native.String.{String}
use Rattle.float.specs.Constants.{f0}
use Rattle.sheet.specs.Sheet.{meaning, flags_of}
use Rattle.shape.specs.declared.«V».{«V»}
use Rattle.svg.specs.Paths.{Command, curve_path, head_of, head_path, path_writable}
use Rattle.svg.specs.Reads.{ReadsAs}
use Rattle.shape.specs.Centres.{centres}
use Rattle.label_spots.specs.declared.Geometry.{Geometry}
use Rattle.records.specs.Records.{decode_geometry}
use Rattle.drawing_text.specs.Lines.{text_line, whole_field, word_field, body_text, ListedState, states_from, starts, start_tip}
use Rattle.demand3.specs.Demand.{Call, Answered, record_at, path_at, text_line_at}
use Rattle.listing_shows.specs.Shown.{Lent, ListAnswered, LayoutAnswered, xs_left, ys_left, route_call, out_left, record_line, arrow_number}

-- ---- what a text is read as

-- by the grammar these commands, with each coordinate's hundredths; and none of the coordinates is a number that 10 stops
pub record Path (text : List ℕ) (cs : List (Command «V»)) : Type 0 where
  pub reads : ReadsAs text cs
  pub writable : path_writable cs ≡ true

-- a line of a listing: its name, a whole number, and such a path
pub record PathLine (text : List ℕ) (name : String) (number : ℕ) (cs : List (Command «V»)) : Type 0 where
  pub path : List ℕ
  pub line : text ≡ body_text (text_line name (whole_field number ∷ word_field path ∷ []))
  pub read : Path path cs

-- ---- what a record says

-- record k that a call leaves, from its twenty numbers
abbrev pub record_in : Call → ℕ → Geometry
record_in c k = decode_geometry (record_at c k)

-- the commands of its curve
abbrev pub curve_in : Call → ℕ → List (Command «V»)
curve_in c k = curve_path (record_in c k).curve

-- those of the arrowhead at its tip and tip angle
abbrev pub head_in : Call → ℕ → List (Command «V»)
head_in c k = head_path (head_of (record_in c k).tip (record_in c k).tip_angle)

-- ---- the claim

-- for all sheets, limits, centres and lent slices: line k of the text that `route` leaves, and record k that it leaves
abbrev pub Routes : Type 0
Routes = (c : Call) (a : Answered c) (k : ℕ) → 20 * k + 20 ≤ a.numbers → Path (path_at c k) (curve_in c k)

-- for all sheets, limits, kinds and lent slices: the lines of the text that `list` leaves, and what `layout` and `route` give of the same sheet
module _ (c : Lent) (l : LayoutAnswered c) (r : Answered (route_call c l)) where
  -- "four lines a record": the first is `edge`, "arrow, path"
  abbrev pub Edges : Type 0
  Edges = (k : ℕ) → 20 * k + 20 ≤ r.numbers
      → PathLine (text_line_at (record_line l.states k) (out_left c)) "edge" (arrow_number (route_call c l) k) (curve_in (route_call c l) k)

  -- the third is `head`, "arrow, head"
  abbrev pub Heads : Type 0
  Heads = (k : ℕ) → 20 * k + 20 ≤ r.numbers
      → PathLine (text_line_at (record_line l.states k + 2) (out_left c)) "head" (arrow_number (route_call c l) k) (head_in (route_call c l) k)

  -- the start states, with their centres
  abbrev pub start_states : List ListedState
  start_states = starts (flags_of (meaning c.sheet)) (states_from 0 (centres (xs_left c l) (ys_left c l)))

  -- "then starts", behind the lines of the last record: `start`, "start state, head"; on the rim, from the left, and pointing to the right
  abbrev pub Starts : Type 0
  Starts = (j : ℕ) (s : ListedState) → j < length start_states
      → PathLine (text_line_at (record_line l.states (r.numbers / 20) + j) (out_left c)) "start" (get_or start_states j s).number
      (head_path (head_of (start_tip (get_or start_states j s).centre) f0))

pub record PathsRead : Type 0 where
  pub routes : Routes
  pub edges : (c : Lent) → ListAnswered c → (l : LayoutAnswered c) (r : Answered (route_call c l)) → Edges c l r
  pub heads : (c : Lent) → ListAnswered c → (l : LayoutAnswered c) (r : Answered (route_call c l)) → Heads c l r
  pub starts : (c : Lent) → ListAnswered c → (l : LayoutAnswered c) (r : Answered (route_call c l)) → Starts c l r
