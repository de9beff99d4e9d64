-- Document 02, T-01: "Each number equals what a count over the sheet and the records gives. The first four add up to the sheet's arrows." On what `list` leaves in its slice, and what `route`
-- leaves at the layout's centres. Here is what it says; `listing-totals` of TotalsProof proves it.
use Rattle.std.specs.Prelude.{◌≡◌, Bool, cond, not, ◌&&◌, ◌||◌, List, ◌++◌, map, ℕ, ◌+◌, ◌*◌, ◌/◌, ltb, eqb, length, get_or, Float}
use Rattle.std.specs.Float.{nan}
use Rattle.laws.specs.Best.{total_from}
use Rattle.laws.specs.Counting.{how_many}
use Rattle.laws.specs.Flat.{table}
use Rattle.float.specs.Ops.{eq}
use Rattle.float.specs.Constants.{whole}
use Rattle.sheet.specs.Sheet.{Arrow, Graph, meaning}
use Rattle.sheet.specs.Meaning.{is_kept}
use Rattle.totals.specs.declared.Totals.{Totals}
use Rattle.drawing_text.specs.Lines.{line_text, total_line}
use Rattle.demand3.specs.Demand.{Call, Answered, record_at}
use Rattle.listing_shows.specs.Shown.{Lent, ListAnswered, LayoutAnswered, route_call, list_wrote, last_line, total_text}

-- ---- over the records that `route` leaves

-- document 01: "2, 3 or 4 points", the second of a record's twenty: that of each record
abbrev pub point_numbers : (r : Call) → Answered r → List Float
point_numbers r a = table (λ k. get_or (record_at r k) 1 nan) 0 (a.numbers / 20)

-- how many records have n points
abbrev pub records_with : (r : Call) → Answered r → ℕ → ℕ
records_with r a n = how_many (λ v. eq v (whole n)) (point_numbers r a)

-- ---- over the arrows of the sheet

-- an end that is no state
abbrev pub end_missing : Graph → Arrow → Bool
end_missing g a = not (ltb a.source (length g.states)) || not (ltb a.target (length g.states))

-- both ends the same state
abbrev pub ends_same : Graph → Arrow → Bool
ends_same g a = is_kept g a && eqb a.source a.target

-- two different states
abbrev pub ends_differ : Graph → Arrow → Bool
ends_differ g a = is_kept g a && not (eqb a.source a.target)

-- how many arrows of a sheet there are of a sort
abbrev pub arrows_with : Lent → (Graph → Arrow → Bool) → ℕ
arrows_with c test = how_many (test (meaning c.sheet)) (meaning c.sheet).arrows

-- the lines of an arrow; "Label lines of left-out arrows are not counted."
abbrev pub lines_of_kept : Graph → Arrow → ℕ
lines_of_kept g a = cond (end_missing g a) 0 (length a.lines)

-- their sum over all arrows
abbrev pub lines_in_all : Graph → ℕ
lines_in_all g = total_from 0 (map (lines_of_kept g) g.arrows)

-- ---- the claim: for all byte lists, limits, kinds and lent slices, where `list` answers

pub record Totalled (c : Lent) (a : ListAnswered c) : Type 0 where
  -- "The listing ends with a line `total`, then the numbers of straight arrows, arcs, loops, left-out arrows and label lines."
  pub totals : Totals
  pub before : List ℕ
  pub ends : list_wrote c a ≡ before ++ line_text (total_line totals)
  pub line : last_line (list_wrote c a) ≡ total_text totals
  -- over the sheet
  pub left_out : totals.left_out ≡ arrows_with c end_missing
  pub lines : totals.lines ≡ lines_in_all (meaning c.sheet)
  pub same_ends : totals.loops ≡ arrows_with c ends_same
  pub other_ends : totals.straight + totals.arcs ≡ arrows_with c ends_differ
  -- "The first four add up to the sheet's arrows."
  pub all : totals.straight + totals.arcs + totals.loops + totals.left_out ≡ length (meaning c.sheet).arrows
  -- over the records that `route` leaves at the layout's centres: straight arrows, arcs and loops by their points, and no others (with slices long enough both answer: `lays` and `routes` of ListingShows)
  pub straight : (l : LayoutAnswered c) (r : Answered (route_call c l)) → totals.straight ≡ records_with (route_call c l) r 2
  pub arcs : (l : LayoutAnswered c) (r : Answered (route_call c l)) → totals.arcs ≡ records_with (route_call c l) r 3
  pub loops : (l : LayoutAnswered c) (r : Answered (route_call c l)) → totals.loops ≡ records_with (route_call c l) r 4
  pub every_record : (l : LayoutAnswered c) (r : Answered (route_call c l)) → 20 * (totals.straight + totals.arcs + totals.loops) ≡ r.numbers

abbrev pub ListingTotals : Type 0
ListingTotals = (c : Lent) (a : ListAnswered c) → Totalled c a
