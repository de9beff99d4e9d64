-- What each call answers and what it leaves in the slices it is lent, from its inputs alone.
use Rattle.std.specs.Prelude.{Bool, cond, not, ◌&&◌, ◌||◌, ℕ, ltb, length, Float}
use mathlib.Core.List.{List, [], ◌∷◌, ◌++◌}
use Rattle.laws.specs.Refusals.{Refusal, refusal, decide}
use Rattle.sheet.specs.Refusals.{refusals}
use Rattle.sheet.specs.Sheet.{meaning, flags_of}
use Rattle.encode.specs.Encode.{encode}
use Rattle.label.specs.Label.{label_refusals, cut, block_width, block_height}
use Rattle.number.specs.Number.{too_large, num_text}
use Rattle.label_spots.specs.declared.Geometry.{Geometry}
use Rattle.routing.specs.Sheets.{frame_of, records_of}
use Rattle.clutter.specs.Clutter.{clutter_of}
use Rattle.shape.specs.Centres.{centres}
use Rattle.beyond.specs.Beyond.{beyond}
use Rattle.totals.specs.Totals.{totals_of}
use Rattle.drawing_text.specs.Lines.{paths_text, paths_writable, list_text, list_writable}
use Rattle.draw.specs.Drawn.{far_centre, draw_refusals}
use Rattle.layout.specs.Layout.{Layout, plan_of, last_kind, layout_of}
use Rattle.plan.specs.Measured.{layout_beyond}
use Rattle.plan.specs.Planned.{plan_refusals}
use Rattle.sheet.specs.declared.Limits.{Limits}
pub use Rattle.sheet.specs.Refusals.{main_screen, service_panel}
pub use Rattle.refusal.specs.Refused.{Outcome, values, number}
pub use Rattle.outputs.specs.Answers.{short, onto, numbers_of}

-- ---- the limits that count: document 02, T-05, "The limits become a value given to every call that takes a sheet or a label block"

-- "Each limit above the main screen's counts as the main screen's": the smaller of the two
abbrev pub smaller : ℕ → ℕ → ℕ
smaller limit main = cond (ltb main limit) main limit

unfoldable pub capped_limits : Limits → Limits
capped_limits m = record {
  states = smaller m.states main_screen.states;
  arrows = smaller m.arrows main_screen.arrows;
  lines = smaller m.lines main_screen.lines;
}

-- ---- check, size a label block, write a number

-- "check a sheet (answer: accepted)"
unfoldable pub check : List ℕ → Limits → Outcome (Unit {0})
check s m = decide (refusals (capped_limits m) s) number (values tt)

-- "A label block is given text bytes and a list of line lengths; it meets only 5 (also where the lengths do not add up to the text) and 6."
unfoldable pub label_size : List ℕ → List ℕ → Limits → Outcome (Float × Float)
label_size text lengths m = decide (label_refusals (capped_limits m) text lengths) number (values (block_width (cut text lengths), block_height (length lengths)))

-- "a finite number of size 10^13 or more to be written" is 10; "a lent output shorter than the answer" 7; "Number 7 is last"
abbrev pub num_refusals : Float → List ℕ → List Refusal
num_refusals v out = refusal 10 (too_large v) ∷ refusal 7 (short (length out) (num_text v)) ∷ []

unfoldable pub write_num : Float → List ℕ → Outcome ℕ
write_num v out = decide (num_refusals v out) number (values (length (num_text v)))

-- a refused call leaves all as before
unfoldable pub write_num_after : Float → List ℕ → List ℕ
write_num_after v out = decide (num_refusals v out) (λ (n : ℕ). out) (onto (num_text v) out)

-- ---- route a sheet at given centres, count clutter, likewise

-- what is drawn for a sheet at given centres
abbrev pub drawn_of : List ℕ → List Float → List Float → List Geometry
drawn_of s xs ys = records_of (meaning s) xs ys

-- 1 to 6, 8 and 9; then 10 for the path text, and 7 for the records and for the path text
abbrev pub route_refusals : List ℕ → Limits → List Float → List Float → ℕ → ℕ → List Refusal
route_refusals s m xs ys room textRoom =
    let gs = drawn_of s xs ys in
    draw_refusals (capped_limits m) s xs ys
    ++ (refusal 10 (not (paths_writable gs))
    ∷ refusal 7 (short room (numbers_of gs) || short textRoom (paths_text gs))
    ∷ [])

-- "returns two lengths: f64 numbers written and bytes written"
unfoldable pub route : List ℕ → Limits → List Float → List Float → ℕ → ℕ → Outcome (ℕ × ℕ)
route s m xs ys room textRoom =
    let gs = drawn_of s xs ys in
    decide (route_refusals s m xs ys room textRoom) number (values (length (numbers_of gs), length (paths_text gs)))

-- "Routing fills records and path text, one path a record in record order, each ended by a newline byte"
unfoldable pub records_after : List ℕ → Limits → List Float → List Float → List Float → ℕ → List Float
records_after s m xs ys records textRoom = decide (route_refusals s m xs ys (length records) textRoom) (λ (n : ℕ). records) (onto (numbers_of (drawn_of s xs ys)) records)

unfoldable pub text_after : List ℕ → Limits → List Float → List Float → ℕ → List ℕ → List ℕ
text_after s m xs ys room text = decide (route_refusals s m xs ys room (length text)) (λ (n : ℕ). text) (onto (paths_text (drawn_of s xs ys)) text)

-- the clutter of what is drawn, with the states at their centres; nothing is lent and nothing written
unfoldable pub clutter : List ℕ → Limits → List Float → List Float → Outcome ℕ
clutter s m xs ys = decide (draw_refusals (capped_limits m) s xs ys) number (values (clutter_of (frame_of (meaning s) xs ys).centres (drawn_of s xs ys)))

-- ---- lay out a sheet by kind

-- the centres, width and height
abbrev pub layout_for : List ℕ → ℕ → Layout
layout_for s kind = layout_of kind (plan_of (meaning s))

-- 11, 1 to 6, and 9: "A layout is refused by 9 if any drawing it measures is"; then 7 for the centres' x and for their y
abbrev pub layout_refusals : List ℕ → Limits → ℕ → ℕ → ℕ → List Refusal
layout_refusals s m kind xRoom yRoom =
    let l = layout_for s kind in
    plan_refusals (capped_limits m) kind s ++ (refusal 7 (short xRoom l.xs || short yRoom l.ys) ∷ [])

unfoldable pub layout : List ℕ → Limits → ℕ → ℕ → ℕ → Outcome (ℕ × Float × Float)
layout s m kind xRoom yRoom =
    let l = layout_for s kind in
    decide (layout_refusals s m kind xRoom yRoom) number (values (length (meaning s).states, l.width, l.height))

unfoldable pub xs_after : List ℕ → Limits → ℕ → List Float → ℕ → List Float
xs_after s m kind xs yRoom = decide (layout_refusals s m kind (length xs) yRoom) (λ (n : ℕ). xs) (onto (layout_for s kind).xs xs)

unfoldable pub ys_after : List ℕ → Limits → ℕ → ℕ → List Float → List Float
ys_after s m kind xRoom ys = decide (layout_refusals s m kind xRoom (length ys)) (λ (n : ℕ). ys) (onto (layout_for s kind).ys ys)

-- ---- list a drawing, laid out by kind: "A listing shows what routing gives at its layout's centres."

-- document 02, T-01: each total "equals what a count over the sheet and the records gives"
abbrev pub listing : List ℕ → ℕ → List ℕ
listing s kind =
    let l = layout_for s kind in
    let gs = drawn_of s l.xs l.ys in
    list_text l.width l.height (centres l.xs l.ys) (flags_of (meaning s)) gs (totals_of (meaning s) gs)

abbrev pub listing_writable : List ℕ → ℕ → Bool
listing_writable s kind =
    let l = layout_for s kind in
    let gs = drawn_of s l.xs l.ys in
    list_writable l.width l.height (centres l.xs l.ys) (flags_of (meaning s)) gs (totals_of (meaning s) gs)

-- 11 and 1 to 6; 8 for a centre of the layout, if there is a layout; 9 for a drawing that the layout measures, or for the one at its centres; 10 and 7
abbrev pub list_refusals : List ℕ → Limits → ℕ → ℕ → List Refusal
list_refusals s m kind room =
    let g = meaning s in
    let l = layout_for s kind in
    refusal 11 (ltb last_kind kind)
    ∷ refusals (capped_limits m) s
    ++ (refusal 8 (not (layout_beyond kind (plan_of g)) && far_centre (length g.states) l.xs l.ys)
    ∷ refusal 9 (layout_beyond kind (plan_of g) || beyond (frame_of g l.xs l.ys))
    ∷ refusal 10 (not (listing_writable s kind))
    ∷ refusal 7 (short room (listing s kind))
    ∷ [])

unfoldable pub list : List ℕ → Limits → ℕ → ℕ → Outcome ℕ
list s m kind room = decide (list_refusals s m kind room) number (values (length (listing s kind)))

unfoldable pub list_after : List ℕ → Limits → ℕ → List ℕ → List ℕ
list_after s m kind out = decide (list_refusals s m kind (length out)) (λ (n : ℕ). out) (onto (listing s kind) out)

-- ---- write a sheet: document 02, T-04

-- "From an accepted sheet it writes a fresh one": the sheet of what the given one means
abbrev pub fresh_sheet : List ℕ → List ℕ
fresh_sheet s = encode (meaning s)

-- 1 to 6; "A lent buffer too small is answered with 7, as it is for other calls."
abbrev pub write_refusals : List ℕ → Limits → ℕ → List Refusal
write_refusals s m room = refusals (capped_limits m) s ++ (refusal 7 (short room (fresh_sheet s)) ∷ [])

unfoldable pub write_sheet : List ℕ → Limits → ℕ → Outcome ℕ
write_sheet s m room = decide (write_refusals s m room) number (values (length (fresh_sheet s)))

unfoldable pub write_sheet_after : List ℕ → Limits → List ℕ → List ℕ
write_sheet_after s m out = decide (write_refusals s m (length out)) (λ (n : ℕ). out) (onto (fresh_sheet s) out)
