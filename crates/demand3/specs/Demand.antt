-- Demand 3 of document 01, 'Turns, places and costs': one claim over whole routings, on what `route` answers and leaves in the slices it is lent.
-- Here is what it says; `demand3` of proofs/Claim proves it.
use Rattle.std.specs.Prelude.{◌≡◌, cond, List, [], ◌∷◌, ℕ, zero, suc, ◌+◌, ◌*◌, ◌≤◌, ◌<◌, eqb, length, get_or, take, drop, Float}
use Prim.Native.Char.{code}
use Rattle.std.specs.Float.{nan}
use Rattle.laws.specs.Best.{FirstLeast}
use Rattle.laws.specs.Filter.{filter_by}
use Rattle.laws.specs.Flat.{part}
use Rattle.sheet.specs.Meaning.{arrow_at}
use Rattle.float.specs.Ops.{of_nat}
use Rattle.sheet.specs.Sheet.{Graph, meaning}
use Rattle.sheet.specs.declared.Limits.{Limits}
use Rattle.svg.specs.Paths.{curve_text}
use Rattle.label_spots.specs.declared.Geometry.{Geometry}
use Rattle.records.specs.Records.{fields}
use Rattle.scene.specs.Scene.{Scene}
use Rattle.routing.specs.Routing.{Frame, BlockSize, Item, Step, numbered, is_kept_in, kept, edge_of, order, step_of, listed_by, cost, drawn_step, places_taken, scene_at, numbered_at, is_turn, item_for, no_item}
use Rattle.routing.specs.Sheets.{frame_of, sizes_of, SameFrame}
use Rattle.calls.specs.Calls.{values, route, records_after, text_after}

-- ---- a call of `route`, what it answers and what it leaves

-- the bytes of a sheet, the limits, the centres, and the slices lent for records and for path text
pub record Call : Type 0 where
  pub sheet : List ℕ
  pub limits : Limits
  pub xs : List Float
  pub ys : List Float
  pub records : List Float
  pub text : List ℕ

-- it is not refused: it "returns two lengths: f64 numbers written and bytes written"
pub record Answered (c : Call) : Type 0 where
  pub numbers : ℕ
  pub bytes : ℕ
  pub answer : route c.sheet c.limits c.xs c.ys (length c.records) (length c.text) ≡ values (numbers, bytes)

-- the two slices afterwards
abbrev pub records_left : Call → List Float
records_left c = records_after c.sheet c.limits c.xs c.ys c.records (length c.text)

abbrev pub text_left : Call → List ℕ
text_left c = text_after c.sheet c.limits c.xs c.ys (length c.records) c.text

-- "Each record is written into its own twenty numbers of the lent slice": record k, its numbers from 20 · k on
abbrev pub record_at : Call → ℕ → List Float
record_at c k = part 20 k (records_left c)

-- the bytes before the first newline, and those behind it
unfoldable pub until_newline : List ℕ → List ℕ
until_newline [] = []
until_newline (b ∷ l) = let more = until_newline l in cond (eqb b (code "\n")) [] (b ∷ more)

unfoldable pub after_newline : List ℕ → List ℕ
after_newline [] = []
after_newline (b ∷ l) = let more = after_newline l in cond (eqb b (code "\n")) l more

-- line k of a text, from 0
unfoldable pub text_line_at : ℕ → List ℕ → List ℕ
text_line_at zero l = until_newline l
text_line_at (suc k) l = text_line_at k (after_newline l)

-- "path text, one path a record in record order, each ended by a newline byte": that of record k
abbrev pub path_at : Call → ℕ → List ℕ
path_at c k = text_line_at k (text_left c)

-- "A curve is a record's number of points, its eight coordinates and its path text."
abbrev pub curve_at : Call → ℕ → List Float × List ℕ
curve_at c k = (take 9 (drop 1 (record_at c k)), path_at c k)

-- tip x, y and tip angle
abbrev pub tip_at : Call → ℕ → List Float
tip_at c k = take 3 (drop 10 (record_at c k))

-- ---- "a plain run over sheet and centres alone": that of crate routing

abbrev pub graph : Call → Graph
graph c = meaning c.sheet

-- states, centres and arrow ends; "Centres missing or not finite count as 0."
abbrev pub frame : Call → Frame
frame c = frame_of (graph c) c.xs c.ys

-- the sizes of the label blocks
abbrev pub sizes : Call → List BlockSize
sizes c = sizes_of (graph c)

-- the turns in order
abbrev pub turns : Call → List Item
turns c = order (frame c)

-- turn t with the size of its label, and the number of its arrow
abbrev pub step_at : Call → ℕ → Step
step_at c t = step_of (sizes c) (get_or (turns c) t no_item)

abbrev pub turn_arrow : Call → ℕ → ℕ
turn_arrow c t = edge_of (get_or (turns c) t no_item)

-- the scene at turn t
abbrev pub scene : Call → ℕ → Scene
scene c t = scene_at (frame c) (sizes c) t

-- the full cost of listed place or direction j of turn t, in the scene of that turn
abbrev pub cost_at : Call → ℕ → ℕ → ℕ
cost_at c t j = cost (frame c) (scene c t) (step_at c t) j

-- "The first that no other undercuts is taken": the place or direction that the run takes at turn t
abbrev pub taken_at : Call → ℕ → ℕ
taken_at c t = get_or (places_taken (frame c) (sizes c)) t 0

-- how many are listed
abbrev pub listed_at : Call → ℕ → ℕ
listed_at c t = listed_by (frame c) (step_at c t).item

-- what is drawn there: curve, tip, tip angle, label point, anchor and box
abbrev pub drawn_at : Call → ℕ → ℕ → Geometry
drawn_at c t j = drawn_step (frame c) (step_at c t) j

-- ---- which record is whose

-- the number of arrow e's record: how many arrows before it have one. "An arrow with an end not below the number of states is .. left out of the records".
abbrev pub record_number : Frame → ℕ → ℕ
record_number f e = length (filter_by (is_kept_in f) (take e (numbered f)))

abbrev pub record_number_of : Call → ℕ → ℕ
record_number_of c e = record_number (frame c) e

-- the number of the record of turn t's arrow
abbrev pub turn_number : Call → ℕ → ℕ
turn_number c t = record_number_of c (turn_arrow c t)

-- ---- (1) cheapest

-- at turn t: of all listed places or directions none costs less than the one that the record holds, and none before it costs the same
pub record Held (c : Call) (a : Answered c) (t : ℕ) : Type 0 where
  -- the record stands within the numbers written
  pub inside : 20 * turn_number c t + 20 ≤ a.numbers
  pub place : ℕ
  pub least : FirstLeast (cost_at c t) (listed_at c t) place
  -- it is the one that the plain run takes
  pub taken : place ≡ taken_at c t
  -- its twenty numbers and its path text are those of what is drawn at that place: so its label point, anchor and box are that place's,
  -- and for a loop its curve, tip and tip angle are that direction's
  pub numbers : record_at c (turn_number c t) ≡ fields (drawn_at c t place)
  pub path : path_at c (turn_number c t) ≡ curve_text (drawn_at c t place).curve
  -- the first of the twenty is the arrow's number
  pub arrow : get_or (record_at c (turn_number c t)) 0 nan ≡ of_nat (turn_arrow c t)

-- record k is that of a turn
pub record HasTurn (f : Frame) (k : ℕ) : Type 0 where
  pub turn : ℕ
  pub inside : turn < length (order f)
  pub number : record_number f (edge_of (get_or (order f) turn no_item)) ≡ k

pub record Cheapest (c : Call) (a : Answered c) : Type 0 where
  -- "Each arrow of the records has one turn; a left-out arrow has none": the turns of arrow e
  pub one : (e : ℕ) → e < length (graph c).arrows
      → filter_by (is_turn e) (turns c) ≡ cond (is_kept_in (frame c) (numbered_at (frame c) e)) (item_for (frame c) (numbered_at (frame c) e) ∷ []) []
  -- twenty numbers for each arrow that is not left out, and each record is that of a turn
  pub many : a.numbers ≡ 20 * length (kept (frame c))
  pub each : (k : ℕ) → k < length (kept (frame c)) → HasTurn (frame c) k
  pub held : (t : ℕ) → t < length (turns c) → Held c a t

-- ---- two sheets

-- "the same states" and "the same arrow ends", at the same centres: those of the states, whatever else is lent. "Centres are the same .. bit for bit"
pub record Same (c d : Call) : Type 0 where
  pub ends : SameFrame (graph c) (graph d)
  pub centres : (frame c).centres ≡ (frame d).centres

-- "Label lines agree where an arrow has as many in both, with the same bytes in order": those of turn t's arrow
abbrev pub Agree : Call → Call → ℕ → Type 0
Agree c d t = (arrow_at (graph c) (turn_arrow c t)).lines ≡ (arrow_at (graph d) (turn_arrow d t)).lines

-- ---- (2) prefix

-- the records of turn t in two calls: alike in all twenty numbers, and so are their curves, path text included
pub record Alike (c d : Call) (t : ℕ) : Type 0 where
  pub numbers : record_at c (turn_number c t) ≡ record_at d (turn_number d t)
  pub curve : curve_at c (turn_number c t) ≡ curve_at d (turn_number d t)

pub record Prefix (c d : Call) : Type 0 where
  -- "two such sheets at the same centres have the same turns in the same order", and so the same record numbers
  pub order : turns c ≡ turns d
  pub numbers : (e : ℕ) → record_number_of c e ≡ record_number_of d e
  -- where label lines agree at a turn and at all before it, of a loop too, the records are alike
  pub alike : (t : ℕ) → t < length (turns c) → ((j : ℕ) → j ≤ t → Agree c d j) → Alike c d t

-- ---- (3) curves

-- arrow e leads from a state to another
pub record Between (g : Graph) (e : ℕ) : Type 0 where
  pub inside : e < length g.arrows
  pub source : (arrow_at g e).source < length g.states
  pub target : (arrow_at g e).target < length g.states
  pub apart : (arrow_at g e).source ≡ (arrow_at g e).target → ⊥

-- whatever the label lines, their curves are alike, and so are their tips and tip angles
pub record Curves (c d : Call) : Type 0 where
  pub curve : (e : ℕ) → Between (graph c) e → curve_at c (record_number_of c e) ≡ curve_at d (record_number_of d e)
  pub tip : (e : ℕ) → Between (graph c) e → tip_at c (record_number_of c e) ≡ tip_at d (record_number_of d e)

-- ---- the claim: for all sheets, all limits, all centres and all lent slices, two sheets each under limits of their own

pub record Demand3 : Type 0 where
  pub cheapest : (c : Call) (a : Answered c) → Cheapest c a
  pub prefix : (c d : Call) → Answered c → Answered d → Same c d → Prefix c d
  pub curves : (c d : Call) → Answered c → Answered d → Same c d → Curves c d
