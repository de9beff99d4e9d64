-- The text of a drawing: the paths of its records, and its listing.
use Rattle.std.specs.Prelude.{Bool, true, ℕ, suc, get_or, Float}
use mathlib.Core.List.{List, [], ◌∷◌, ◌++◌, map, flat_map}
use Prim.Native.Char.{code}
use Prim.Native.String.{String}
use Rattle.laws.specs.Filter.{filter_by}
use Rattle.laws.specs.Every.{every}
use Rattle.float.specs.Ops.{◌⊖◌}
use Rattle.float.specs.Constants.{f0, node_radius}
use Rattle.text.specs.Digits.{digits}
use Rattle.text.specs.Ascii.{ascii}
use Rattle.number.specs.Number.{num_text, writable}
use Rattle.shape.specs.declared.«V».{«V»}
use Rattle.shape.specs.Plane.{vec}
use Rattle.svg.specs.Paths.{Command, curve_path, head_of, head_path, path_text, path_writable}
use Rattle.label_spots.specs.declared.Anchor.{Anchor}
use Rattle.label_spots.specs.declared.Anchor.TheVariants.{Start, Middle, End}
use Rattle.label_spots.specs.declared.Geometry.{Geometry}
use Rattle.sheet.specs.Meaning.{is_start}
use Rattle.totals.specs.declared.Totals.{Totals}

-- ---- path text

-- "one path a record in record order": the commands of each
unfoldable pub paths_of : List Geometry → List (List (Command «V»))
paths_of gs = map (λ g. curve_path g.curve) gs

-- "each ended by a newline byte"
unfoldable pub path_line : List (Command «V») → List ℕ
path_line path = path_text path ++ ascii "\n"

-- the path text
unfoldable pub paths_text : List Geometry → List ℕ
paths_text gs = flat_map path_line (paths_of gs)

-- refusal 10: whether every coordinate of every path may be written
unfoldable pub paths_writable : List Geometry → Bool
paths_writable gs = every path_writable (paths_of gs)

-- ---- a line of the listing: its name and its fields

-- a whole number, a float, a path as its commands, a word
pub data Field : Type 0 where
  whole_field : ℕ → Field
  float_field : Float → Field
  path_field : List (Command «V») → Field
  word_field : List ℕ → Field

pub record TextLine : Type 0 where
  pub name : List ℕ
  pub fields : List Field

abbrev pub named : List ℕ → List Field → TextLine
named name fields = record { name = name; fields = fields }

abbrev pub text_line : String → List Field → TextLine
text_line name fields = named (ascii name) fields

-- ---- its text

-- "floats are written numbers"
unfoldable pub field_text : Field → List ℕ
field_text (whole_field n) = digits n
field_text (float_field v) = num_text v
field_text (path_field cs) = path_text cs
field_text (word_field w) = w

-- a blank before each
unfoldable pub fields_text : List Field → List ℕ
fields_text fs = flat_map (λ f. code " " ∷ field_text f) fs

-- without its newline
unfoldable pub body_text : TextLine → List ℕ
body_text l = l.name ++ fields_text l.fields

-- "Every line ends in a newline"
unfoldable pub line_text : TextLine → List ℕ
line_text l = body_text l ++ ascii "\n"

unfoldable pub lines_text : List TextLine → List ℕ
lines_text ls = flat_map line_text ls

-- ---- refusal 10: whether every float of it, and every coordinate of its paths, may be written

unfoldable pub field_writable : Field → Bool
field_writable (whole_field n) = true
field_writable (float_field v) = writable v
field_writable (path_field cs) = path_writable cs
field_writable (word_field w) = true

unfoldable pub fields_writable : List Field → Bool
fields_writable fs = every field_writable fs

unfoldable pub line_writable : TextLine → Bool
line_writable l = fields_writable l.fields

unfoldable pub lines_writable : List TextLine → Bool
lines_writable ls = every line_writable ls

-- ---- states by their numbers

pub record ListedState : Type 0 where
  pub number : ℕ
  pub centre : «V»

abbrev pub listed_state : ℕ → «V» → ListedState
listed_state k c = record { number = k; centre = c }

unfoldable pub states_from : ℕ → List «V» → List ListedState
states_from k [] = []
states_from k (c ∷ cs) = listed_state k c ∷ states_from (suc k) cs

-- its flag byte among those of all states
abbrev pub flag_of : List ℕ → ListedState → ℕ
flag_of flags s = get_or flags s.number 0

-- the start states
unfoldable pub starts : List ℕ → List ListedState → List ListedState
starts flags states = filter_by (λ s. is_start (flag_of flags s)) states

-- the tip of a start arrow: on the rim, from the left
abbrev pub start_tip : «V» → «V»
start_tip c = vec (c.x ⊖ node_radius) c.y

-- ---- "Fields: width, height; state, centre; arrow, path; arrow, tip, angle; arrow, head; arrow, label point, anchor; start state, head."

-- a point is two floats
abbrev pub point_fields : «V» → List Field
point_fields p = float_field p.x ∷ float_field p.y ∷ []

-- a head is the path of an arrowhead
abbrev pub head_field : «V» → Float → Field
head_field tip angle = path_field (head_path (head_of tip angle))

abbrev pub anchor_word : Anchor → List ℕ
anchor_word Start = ascii "start"
anchor_word Middle = ascii "middle"
anchor_word End = ascii "end"

-- "width, height"
abbrev pub size_line : Float → Float → TextLine
size_line width height = text_line "size" (float_field width ∷ float_field height ∷ [])

-- "state, centre"
abbrev pub state_line : ListedState → TextLine
state_line s = text_line "state" (whole_field s.number ∷ point_fields s.centre)

-- "arrow, path"
abbrev pub edge_line : Geometry → TextLine
edge_line g = text_line "edge" (whole_field g.edge ∷ path_field (curve_path g.curve) ∷ [])

-- "arrow, tip, angle"
abbrev pub tip_line : Geometry → TextLine
tip_line g = text_line "tip" (whole_field g.edge ∷ point_fields g.tip ++ (float_field g.tip_angle ∷ []))

-- "arrow, head"
abbrev pub head_line : Geometry → TextLine
head_line g = text_line "head" (whole_field g.edge ∷ head_field g.tip g.tip_angle ∷ [])

-- "arrow, label point, anchor"
abbrev pub label_line : Geometry → TextLine
label_line g = text_line "label" (whole_field g.edge ∷ point_fields g.label ++ (word_field (anchor_word g.anchor) ∷ []))

-- "start state, head"; the head points to the right
abbrev pub start_line : ListedState → TextLine
start_line s = text_line "start" (whole_field s.number ∷ head_field (start_tip s.centre) f0 ∷ [])

-- document 02, T-01: "a line `total`, then the numbers of straight arrows, arcs, loops, left-out arrows and label lines"
abbrev pub total_line : Totals → TextLine
total_line t =
    text_line "total"
    (whole_field t.straight ∷ whole_field t.arcs ∷ whole_field t.loops ∷ whole_field t.left_out ∷ whole_field t.lines ∷ [])

-- "four lines a record"
abbrev pub record_lines : Geometry → List TextLine
record_lines g = edge_line g ∷ tip_line g ∷ head_line g ∷ label_line g ∷ []

-- ---- the listing

-- "Order: size, states, then four lines a record, then starts."; document 02, T-01: "The listing ends with a line `total`"
unfoldable pub list_lines : Float → Float → List «V» → List ℕ → List Geometry → Totals → List TextLine
list_lines width height centres flags gs totals =
    let states = states_from 0 centres in
    size_line width height
    ∷ (map state_line states
    ++ (flat_map record_lines gs
    ++ (map start_line (starts flags states)
    ++ (total_line totals ∷ []))))

unfoldable pub list_text : Float → Float → List «V» → List ℕ → List Geometry → Totals → List ℕ
list_text width height centres flags gs totals = lines_text (list_lines width height centres flags gs totals)

-- refusal 10
unfoldable pub list_writable : Float → Float → List «V» → List ℕ → List Geometry → Totals → Bool
list_writable width height centres flags gs totals = lines_writable (list_lines width height centres flags gs totals)
