-- The drawings that document 01 marks with a star: one list, and one theorem over it. Numbers and layouts are stated on what the calls
-- answer and leave, layouts under all limits that allow the states, with every lent slice that is long enough. Assumes nothing.
use Rattle.std.specs.Prelude.{◌≡◌, refl, Bool, true, false, ℕ, ◌≤◌, T, length, Float}
use mathlib.Core.List.{List, [], ◌∷◌, ◌++◌, flat_map}
use Rattle.std.specs.Int.Count.{count_trailing_zeros}
use Rattle.std.specs.Float.Ieee.{of_bits, of_fields, to_bits, to_unsigned, is_nan, round, size, span, climb, units, odd, sum, of_int}
use Rattle.std.specs.Float.Ieee as Ieee
use Rattle.laws.specs.Loops.{down, over, up, steps_from, any_for, any_up}
use Rattle.laws.specs.Zip.{zip_by}
use Rattle.laws.specs.Sort.{sorted}
use Rattle.laws.specs.Any as LawsAny
use Rattle.laws.specs.Counting as Counting
use Rattle.laws.specs.Refusals.{decide}
use Rattle.laws.specs.Flat.{table}
use Rattle.laws.specs.Filter.{filter_by}
use Rattle.root.specs.Root.{root_bits, nearest_root, whole_root, try_digits, scale}
use Rattle.float.specs.Ops.{neg, same_bits}
use Rattle.float.specs.Constants.{whole, tenths, per, infinity, π}
use Rattle.float.specs.Standins as F
use Rattle.float.specs.Standins.{atan2}
use Rattle.text.specs.Digits as D
use Rattle.text.specs.Ascii.{ascii}
use Rattle.number.specs.Number.{num_text, decimal, rounded_size, minus_text, fraction}
use Rattle.sheet.specs.Sheet as Sheet
use Rattle.sheet.specs.Refusals as Refusals
use Rattle.sheet.specs.declared.Limits.{Limits}
use Rattle.sheet.specs.Records.{header, state_bytes}
use Rattle.sheet.specs.Examples.{empty_sheet}
use Rattle.shape.specs.declared.«V».{«V»}
use Rattle.shape.specs.declared.Rect.{Rect}
use Rattle.shape.specs.Plane.{vec, rect, overlaps, touches, spanning, unit_or, extended}
use Rattle.shape.specs.Clipping.{test, side, meets, segment_hits_rect}
use Rattle.trace.specs.Traces.{bounds_of}
use Rattle.free.specs.Chords.{chord, others_from}
use Rattle.free.specs.Blocked.{intervals}
use Rattle.free.specs.Free as Free
use Rattle.bend.specs.Bend.{bend, pair_bow}
use Rattle.bend.specs.Clear as Clear
use Rattle.routing.specs.Routing as Routing
use Rattle.clutter.specs.Clutter as Clutter
use Rattle.sheet.specs.Meaning as Meaning
use Rattle.circular.specs.Ring as Ring
use Rattle.columns.specs.Columns as Columns
use Rattle.sweep.specs.Sweeps as Sweeps
use Rattle.layered.specs.Layered as Layered
use Rattle.fit.specs.Fit as Fit
use Rattle.layout.specs.Layout as Layout
use Rattle.beyond.specs.Beyond as Beyond
use Rattle.plan.specs.Measured as Measured
use Rattle.calls.specs.Calls.{values, onto, write_num, write_num_after, layout, xs_after, ys_after}
use Rattle.starred.specs.Answered.{lays, number-written}

-- what a drawing is given, and what it must give
pub data StarredDrawing : Type 0 where
  laid_out : (sheet : List ℕ) (kind : ℕ) (xs ys : List Float) (width height : Float) → StarredDrawing
  written : (v : Float) (text : List ℕ) → StarredDrawing
  touching : Rect → Rect → Bool → StarredDrawing
  overlapping : Rect → Rect → Bool → StarredDrawing
  hitting : «V» → «V» → Rect → Bool → StarredDrawing
  pair : (distance bow : ℕ) → StarredDrawing
  arctangent : (y x angle : Float) → StarredDrawing

-- two states on a level, at this distance
abbrev pub two_states : ℕ → List «V»
two_states n = vec (whole 0) (whole 0) ∷ vec (whole n) (whole 0) ∷ []

-- what the call answers, under all limits that allow the states, and what stands in each lent slice that is long enough: "Longer outputs keep their tail."
abbrev pub drawing_holds : StarredDrawing → Type 0
drawing_holds (laid_out s kind xs ys width height) =
    (m : Limits) → length xs ≤ m.states → (x y : List Float) → length xs ≤ length x → length ys ≤ length y
    → (layout s m kind (length x) (length y) ≡ values (length xs, width, height))
    × (xs_after s m kind x (length y) ≡ onto xs x)
    × (ys_after s m kind (length x) y ≡ onto ys y)
drawing_holds (written v text) =
    (out : List ℕ) → length text ≤ length out
    → (write_num v out ≡ values (length text)) × (write_num_after v out ≡ onto text out)
drawing_holds (touching a b t) = touches a b ≡ t
drawing_holds (overlapping a b t) = overlaps a b ≡ t
drawing_holds (hitting a b r t) = segment_hits_rect a b r ≡ t
drawing_holds (pair n bow) = T (same_bits (bend (chord (two_states n) 0 1) (two_states n) true) (whole bow))
drawing_holds (arctangent y x angle) = T (same_bits (atan2 y x) angle)

abbrev pub all_hold : List StarredDrawing → Type 0
all_hold [] = Unit
all_hold (d ∷ ds) = drawing_holds d × all_hold ds

-- ---- the drawings

-- a sheet of one state with this flag byte
abbrev pub alone_sheet : ℕ → List ℕ
alone_sheet flag = header 1 1 0 ++ state_bytes flag 0

-- one state laid out by kind: its centre, and the drawing's size
abbrev pub centred : (flag kind x y width height : ℕ) → StarredDrawing
centred flag kind x y width height = laid_out (alone_sheet flag) kind (whole x ∷ []) (whole y ∷ []) (whole width) (whole height)

-- boxes 0..10 and 10..20 side by side
abbrev pub left_box : Rect
left_box = rect (whole 0) (whole 0) (whole 10) (whole 10)

abbrev pub right_box : Rect
right_box = rect (whole 10) (whole 0) (whole 20) (whole 10)

-- the segment (0,0)-(10,0) and a box x..20, −5..5
abbrev pub segment_and_box : Float → Bool → StarredDrawing
segment_and_box x = hitting (vec (whole 0) (whole 0)) (vec (whole 10) (whole 0)) (rect x (neg (whole 5)) (whole 20) (whole 5))

abbrev pub drawings : List StarredDrawing
drawings =
    -- "No states: 32, 32. One state, no start: 38, 38, size 76, 76. One start: 66, 38, size 104, 76.": by each kind
    laid_out empty_sheet 0 [] [] (whole 32) (whole 32)
    ∷ laid_out empty_sheet 1 [] [] (whole 32) (whole 32)
    ∷ laid_out empty_sheet 2 [] [] (whole 32) (whole 32)
    ∷ centred 0 0 38 38 76 76
    ∷ centred 0 1 38 38 76 76
    ∷ centred 0 2 38 38 76 76
    ∷ centred 1 0 66 38 104 76
    ∷ centred 1 1 66 38 104 76
    ∷ centred 1 2 66 38 104 76
    -- "−0.004 → `0`; 12.5 → `12.5`; infinity → `0`"
    ∷ written (neg (per 4 1000)) (ascii "0")
    ∷ written (tenths 125) (ascii "12.5")
    ∷ written infinity (ascii "0")
    -- "Boxes 0..10 and 10..20 side by side touch and do not overlap."
    ∷ touching left_box right_box true
    ∷ overlapping left_box right_box false
    -- "Segment (0,0)-(10,0) hits the box 10..20, −5..5; moved to 10.5..20 it does not."
    ∷ segment_and_box (whole 10) true
    ∷ segment_and_box (tenths 105) false
    -- "Two-way pair at length 140, no third state: bow 42; 50 gives 28; 300 gives 64."
    ∷ pair 140 42
    ∷ pair 50 28
    ∷ pair 300 64
    -- "atan2(−0, −1) = −PI."
    ∷ arctangent (neg (whole 0)) (neg (whole 1)) (neg π)
    ∷ []

infixr 4 ◌also◌
◌also◌ : {A B : Type 0} → A → B → A × B
a also b = (a, b)

pub starred : all_hold drawings
unfolding Refusals.check_of Routing.numbered_from Routing.kept Routing.joined Routing.routes Routing.first_scene Routing.rim Routing.order Routing.drawing Routing.records Clutter.crossings Clutter.near24 Clutter.collides Clutter.collisions Clutter.clutter_of Meaning.start_from Ring.largest Ring.around_ring Ring.ringed Columns.successors Columns.elem Columns.discover Columns.explore Columns.columns_after Columns.reached Columns.unreached Columns.concat Columns.columns Sweeps.centre_column Sweeps.other_end Sweeps.neighbours Sweeps.slot_total Sweeps.barycentre Sweeps.ordered_column Sweeps.arrange Sweeps.sweep_down Sweeps.sweep_up Sweeps.four_sweeps Sweeps.swept Layered.column_gap Layered.row Layered.column_of Layered.layered_xs Layered.layered_ys Fit.state_points Fit.states_points Fit.drawn_points Fit.covered Fit.drawing_bounds Fit.shifted Layout.layers Layout.ring Layout.clutter_at Layout.is_dense Layout.is_tangled Layout.chosen Layout.fitted Layout.layout_of filter_by table Counting.how_many sorted zip_by extended bounds_of flat_map atan2 F.quarter F.arctangent_of F.arc_series F.root F.root_of F.round root_bits nearest_root whole_root try_digits scale down over num_text decimal rounded_size minus_text fraction D.digits D.digits_by overlaps touches spanning unit_or test side meets segment_hits_rect chord others_from intervals Free.visit Free.pass Free.passes Free.first_free bend pair_bow Clear.verified Clear.first_that Clear.outdone Clear.nearest Clear.clearance up steps_from Ieee.add Ieee.sub Ieee.mul Ieee.div Ieee.neg Ieee.lt Ieee.le Ieee.eq Ieee.ne of_int round size span climb units odd sum of_bits of_fields to_bits to_unsigned count_trailing_zeros is_nan any_for any_up decide LawsAny.any_of Refusals.repeats Refusals.is_set Refusals.wrong_record Refusals.wrong_bytes Refusals.indices Refusals.wrong_chains Refusals.large_arrow Refusals.over_limits Refusals.ill_arrow Refusals.ill_formed Sheet.chain_by Sheet.met_line Sheet.met_arrow Sheet.met Sheet.line_of Sheet.lines_from Sheet.arrow_of Sheet.states_of Sheet.arrows_of Layout.takes_ring Beyond.is_beyond Beyond.beyond Measured.any_beyond Measured.measured Measured.layout_beyond
starred =
    lays empty_sheet 0 _ refl refl refl refl refl refl
    also lays empty_sheet 1 _ refl refl refl refl refl refl
    also lays empty_sheet 2 _ refl refl refl refl refl refl
    also lays (alone_sheet 0) 0 _ refl refl refl refl refl refl
    also lays (alone_sheet 0) 1 _ refl refl refl refl refl refl
    also lays (alone_sheet 0) 2 _ refl refl refl refl refl refl
    also lays (alone_sheet 1) 0 _ refl refl refl refl refl refl
    also lays (alone_sheet 1) 1 _ refl refl refl refl refl refl
    also lays (alone_sheet 1) 2 _ refl refl refl refl refl refl
    also number-written _ _ refl refl
    also number-written _ _ refl refl
    also number-written _ _ refl refl
    also refl
    also refl
    also refl
    also refl
    also tt
    also tt
    also tt
    also tt
    also tt
