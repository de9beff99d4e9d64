-- Document 01, 'Turns, places and costs': "A listing shows what routing gives at its layout's centres." On what `list`, `layout` and `route` answer and leave in the slices they are lent.
-- Here is what it says; `listing_shows` of Proof proves it.
use Rattle.std.specs.Prelude.{◌≡◌, List, [], ◌∷◌, ℕ, ◌+◌, ◌-◌, ◌*◌, ◌/◌, ◌≤◌, eqb, length, get_or, take, Float}
use Prim.Native.Char.{code}
use Rattle.std.specs.Float.{nan}
use Rattle.laws.specs.Counting.{how_many}
use Rattle.sheet.specs.Sheet.{meaning, flags_of}
use Rattle.sheet.specs.declared.Limits.{Limits}
use Rattle.records.specs.Whole.{whole_of}
use Rattle.shape.specs.Centres.{centres}
use Rattle.label_spots.specs.declared.Geometry.{Geometry}
use Rattle.records.specs.Records.{decode_records}
use Rattle.totals.specs.declared.Totals.{Totals}
use Rattle.totals.specs.Totals.{totals_of}
use Rattle.drawing_text.specs.Lines.{text_line, whole_field, word_field, body_text, total_line, list_text}
use Rattle.calls.specs.Calls.{values, onto, route, layout, xs_after, ys_after, list, list_after}
use Rattle.demand3.specs.Demand.{Call, Answered, records_left, record_at, path_at, text_line_at}

-- ---- the three calls over one sheet

-- the bytes of a sheet, the limits and a layout kind; the slices lent to `layout` for the centres, to `route` for records and path text, and to `list` for its text
pub record Lent : Type 0 where
  pub sheet : List ℕ
  pub limits : Limits
  pub kind : ℕ
  pub xs : List Float
  pub ys : List Float
  pub records : List Float
  pub text : List ℕ
  pub out : List ℕ

-- `list` is not refused: it answers with the bytes written
pub record ListAnswered (c : Lent) : Type 0 where
  pub bytes : ℕ
  pub answer : list c.sheet c.limits c.kind (length c.out) ≡ values bytes

-- `layout` is not refused: it answers with the number of states, width and height
pub record LayoutAnswered (c : Lent) : Type 0 where
  pub states : ℕ
  pub width : Float
  pub height : Float
  pub answer : layout c.sheet c.limits c.kind (length c.xs) (length c.ys) ≡ values (states, width, height)

-- "its layout's centres": one for each state, at the front of the two slices afterwards
abbrev pub xs_left : (c : Lent) → LayoutAnswered c → List Float
xs_left c l = take l.states (xs_after c.sheet c.limits c.kind c.xs (length c.ys))

abbrev pub ys_left : (c : Lent) → LayoutAnswered c → List Float
ys_left c l = take l.states (ys_after c.sheet c.limits c.kind (length c.xs) c.ys)

-- the call of `route` there
abbrev pub route_call : (c : Lent) → LayoutAnswered c → Call
route_call c l = record { sheet = c.sheet; limits = c.limits; xs = xs_left c l; ys = ys_left c l; records = c.records; text = c.text }

-- ---- what is shown

-- "what routing gives": the records that it leaves, read from their twenty numbers each
abbrev pub records_read : (r : Call) → Answered r → List Geometry
records_read r a = decode_records (a.numbers / 20) (records_left r)

-- document 02, T-01: the totals of the sheet and of those records
abbrev pub totals_read : (r : Call) → Answered r → Totals
totals_read r a = totals_of (meaning r.sheet) (records_read r a)

-- the listing's text, of the size and centres that `layout` gives, the sheet's flag bytes for the starts, the records that `route` gives, and the totals
abbrev pub shown : (c : Lent) (l : LayoutAnswered c) → Answered (route_call c l) → List ℕ
shown c l r =
    list_text l.width l.height (centres (xs_left c l) (ys_left c l)) (flags_of (meaning c.sheet))
    (records_read (route_call c l) r) (totals_read (route_call c l) r)

-- the slice lent to `list`, afterwards
abbrev pub out_left : Lent → List ℕ
out_left c = list_after c.sheet c.limits c.kind c.out

-- what `list` wrote of it
abbrev pub list_wrote : (c : Lent) → ListAnswered c → List ℕ
list_wrote c a = take a.bytes (out_left c)

-- "Every line ends in a newline": the last line of such a text
abbrev pub last_line : List ℕ → List ℕ
last_line t = text_line_at (how_many (eqb (code "\n")) t - 1) t

-- "Order: size, states, then four lines a record": the number of record k's first line, from 0
abbrev pub record_line : ℕ → ℕ → ℕ
record_line states k = 1 + states + 4 * k

-- the line `edge`: "arrow, path"
abbrev pub edge_text : ℕ → List ℕ → List ℕ
edge_text arrow path = body_text (text_line "edge" (whole_field arrow ∷ word_field path ∷ []))

-- the line `total`
abbrev pub total_text : Totals → List ℕ
total_text t = body_text (total_line t)

-- "arrow number", the first of record k's twenty
abbrev pub arrow_number : Call → ℕ → ℕ
arrow_number r k = whole_of (get_or (record_at r k) 0 nan)

pub record Shows (c : Lent) (a : ListAnswered c) (l : LayoutAnswered c) (r : Answered (route_call c l)) : Type 0 where
  pub bytes : a.bytes ≡ length (shown c l r)
  pub text : out_left c ≡ onto (shown c l r) c.out
  -- path text included: the edge line of record k has path k of the text that `route` leaves
  pub edge : (k : ℕ) → 20 * k + 20 ≤ r.numbers → text_line_at (record_line l.states k) (out_left c) ≡ edge_text (arrow_number (route_call c l) k) (path_at (route_call c l) k)
  -- the last line has the totals
  pub total : last_line (list_wrote c a) ≡ total_text (totals_read (route_call c l) r)

-- ---- the claim: for all byte lists, limits, kinds and lent slices

-- two lengths that are enough: with slices as long or longer `route` answers, and with these two lengths
pub record Enough (r : Call) : Type 0 where
  pub numbers : ℕ
  pub bytes : ℕ
  pub answers : (n m : ℕ) → numbers ≤ n → bytes ≤ m → route r.sheet r.limits r.xs r.ys n m ≡ values (numbers, bytes)

pub record ListingShows : Type 0 where
  -- where `list` answers so does `layout`, if its slices have room for a centre of each state
  pub lays : (c : Lent) → ListAnswered c → length (meaning c.sheet).states ≤ length c.xs → length (meaning c.sheet).states ≤ length c.ys → LayoutAnswered c
  -- and so does `route` at those centres, if its slices are long enough
  pub routes : (c : Lent) → ListAnswered c → (l : LayoutAnswered c) → Enough (route_call c l)
  -- and the listing shows what they give
  pub shows : (c : Lent) (a : ListAnswered c) (l : LayoutAnswered c) (r : Answered (route_call c l)) → Shows c a l r
