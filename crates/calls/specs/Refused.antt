-- What each call refuses and in which order, when a number is given, and that a refused call leaves every lent slice as it was. Assumes nothing.
use Rattle.std.specs.Prelude.{◌≡◌, refl, List, [], ◌∷◌, ℕ, length, Float}
use Rattle.laws.specs.Filter.{filter_by}
use Rattle.laws.specs.Refusals.{Refusal, decide, refusal_order, numbers_in, order_but, Clear, First}
use Rattle.sheet.specs.Sheet.{meaning}
use Rattle.sheet.specs.Refusals.{refusals}
use Rattle.sheet.specs.Order.{sheet_order}
use Rattle.sheet.specs.declared.Limits.{Limits}
use Rattle.label.specs.Label.{label_refusals, cut, block_width, block_height}
use Rattle.number.specs.Number.{num_text}
use Rattle.routing.specs.Sheets.{frame_of}
use Rattle.clutter.specs.Clutter.{clutter_of}
use Rattle.drawing_text.specs.Lines.{paths_text}
use Rattle.draw.specs.Drawn.{draw_refusals}
use Rattle.calls.specs.Calls.{Outcome, values, number, capped_limits, check, label_size, num_refusals, write_num, write_num_after, drawn_of, numbers_of, route_refusals, route, records_after, text_after, clutter, layout_for, layout_refusals, layout, xs_after, ys_after, listing, list_refusals, list, list_after, fresh_sheet, write_refusals, write_sheet, write_sheet_after}
use Rattle.calls.specs.Decided.{number_exactly, values_exactly, refused_keeps}

-- ---- "Order: 11, 1, 2, 4, 3, 5, 6, 8, 9, 10, 7": of these a call has those that it can meet, each with its cause

pub check-order : (s : List ℕ) (m : Limits) → numbers_in (refusals (capped_limits m) s) ≡ order_but (11 ∷ 8 ∷ 9 ∷ 10 ∷ 7 ∷ [])
check-order s m = sheet_order (capped_limits m) s

-- 5 has three causes
pub label_order : (text lengths : List ℕ) (m : Limits) → numbers_in (label_refusals (capped_limits m) text lengths) ≡ 5 ∷ 5 ∷ 5 ∷ 6 ∷ []
label_order text lengths m = refl

pub num_order : (v : Float) (out : List ℕ) → numbers_in (num_refusals v out) ≡ order_but (11 ∷ 1 ∷ 2 ∷ 4 ∷ 3 ∷ 5 ∷ 6 ∷ 8 ∷ 9 ∷ [])
unfolding filter_by
num_order v out = refl

pub route-order : (s : List ℕ) (m : Limits) (xs ys : List Float) (a b : ℕ) → numbers_in (route_refusals s m xs ys a b) ≡ order_but (11 ∷ [])
unfolding filter_by
route-order s m xs ys a b = refl

pub clutter-order : (s : List ℕ) (m : Limits) (xs ys : List Float) → numbers_in (draw_refusals (capped_limits m) s xs ys) ≡ order_but (11 ∷ 10 ∷ 7 ∷ [])
unfolding filter_by
clutter-order s m xs ys = refl

pub layout-order : (s : List ℕ) (m : Limits) (kind a b : ℕ) → numbers_in (layout_refusals s m kind a b) ≡ order_but (8 ∷ 10 ∷ [])
unfolding filter_by
layout-order s m kind a b = refl

pub list-order : (s : List ℕ) (m : Limits) (kind a : ℕ) → numbers_in (list_refusals s m kind a) ≡ refusal_order
list-order s m kind a = refl

pub write_order : (s : List ℕ) (m : Limits) (a : ℕ) → numbers_in (write_refusals s m a) ≡ order_but (11 ∷ 8 ∷ 9 ∷ 10 ∷ [])
unfolding filter_by
write_order s m a = refl

-- ---- each number is given under its cause only and whenever no earlier cause holds, the values exactly where no cause holds

pub record GivenExactly {A : Type 0} (rs : List Refusal) (a : A) (r : Outcome A) : Type 0 where
  pub numbers : (n : ℕ) → (r ≡ number n → First rs n) × (First rs n → r ≡ number n)
  pub answer : (r ≡ values a → Clear rs) × (Clear rs → r ≡ values a)

answered : {A : Type 0} (rs : List Refusal) (a : A) → GivenExactly rs a (decide rs number (values a))
answered rs a = record { numbers = number_exactly rs a; answer = values_exactly rs a }

pub check-answered : (s : List ℕ) (m : Limits) → GivenExactly (refusals (capped_limits m) s) tt (check s m)
unfolding check
check-answered s m = answered (refusals (capped_limits m) s) tt

pub label_answered : (text lengths : List ℕ) (m : Limits) → GivenExactly (label_refusals (capped_limits m) text lengths) (block_width (cut text lengths), block_height (length lengths)) (label_size text lengths m)
unfolding label_size
label_answered text lengths m = answered (label_refusals (capped_limits m) text lengths) (block_width (cut text lengths), block_height (length lengths))

pub num_answered : (v : Float) (out : List ℕ) → GivenExactly (num_refusals v out) (length (num_text v)) (write_num v out)
unfolding write_num
num_answered v out = answered (num_refusals v out) (length (num_text v))

pub route-answered : (s : List ℕ) (m : Limits) (xs ys : List Float) (a b : ℕ) → GivenExactly (route_refusals s m xs ys a b) (length (numbers_of (drawn_of s xs ys)), length (paths_text (drawn_of s xs ys))) (route s m xs ys a b)
unfolding route
route-answered s m xs ys a b = answered (route_refusals s m xs ys a b) (length (numbers_of (drawn_of s xs ys)), length (paths_text (drawn_of s xs ys)))

pub clutter-answered : (s : List ℕ) (m : Limits) (xs ys : List Float) → GivenExactly (draw_refusals (capped_limits m) s xs ys) (clutter_of (frame_of (meaning s) xs ys).centres (drawn_of s xs ys)) (clutter s m xs ys)
unfolding clutter
clutter-answered s m xs ys = answered (draw_refusals (capped_limits m) s xs ys) (clutter_of (frame_of (meaning s) xs ys).centres (drawn_of s xs ys))

pub layout-answered : (s : List ℕ) (m : Limits) (kind a b : ℕ) → GivenExactly (layout_refusals s m kind a b) (length (meaning s).states, (layout_for s kind).width, (layout_for s kind).height) (layout s m kind a b)
unfolding layout
layout-answered s m kind a b = answered (layout_refusals s m kind a b) (length (meaning s).states, (layout_for s kind).width, (layout_for s kind).height)

pub list-answered : (s : List ℕ) (m : Limits) (kind a : ℕ) → GivenExactly (list_refusals s m kind a) (length (listing s kind)) (list s m kind a)
unfolding list
list-answered s m kind a = answered (list_refusals s m kind a) (length (listing s kind))

pub write_answered : (s : List ℕ) (m : Limits) (a : ℕ) → GivenExactly (write_refusals s m a) (length (fresh_sheet s)) (write_sheet s m a)
unfolding write_sheet
write_answered s m a = answered (write_refusals s m a) (length (fresh_sheet s))

-- ---- left as before: all

pub num_kept : (v : Float) (out : List ℕ) (n : ℕ) → write_num v out ≡ number n → write_num_after v out ≡ out
unfolding write_num write_num_after
num_kept v out n e = refused_keeps (num_refusals v out) (length (num_text v)) n out _ e

pub route-kept : (s : List ℕ) (m : Limits) (xs ys records : List Float) (text : List ℕ) (n : ℕ) → route s m xs ys (length records) (length text) ≡ number n
    → (records_after s m xs ys records (length text) ≡ records) × (text_after s m xs ys (length records) text ≡ text)
unfolding route records_after text_after
route-kept s m xs ys records text n e =
    let rs = route_refusals s m xs ys (length records) (length text) in
    let a : ℕ × ℕ = (length (numbers_of (drawn_of s xs ys)), length (paths_text (drawn_of s xs ys))) in
    (refused_keeps rs a n records _ e, refused_keeps rs a n text _ e)

pub layout-kept : (s : List ℕ) (m : Limits) (kind : ℕ) (xs ys : List Float) (n : ℕ) → layout s m kind (length xs) (length ys) ≡ number n
    → (xs_after s m kind xs (length ys) ≡ xs) × (ys_after s m kind (length xs) ys ≡ ys)
unfolding layout xs_after ys_after
layout-kept s m kind xs ys n e =
    let rs = layout_refusals s m kind (length xs) (length ys) in
    let a : ℕ × Float × Float = (length (meaning s).states, (layout_for s kind).width, (layout_for s kind).height) in
    (refused_keeps rs a n xs _ e, refused_keeps rs a n ys _ e)

pub list-kept : (s : List ℕ) (m : Limits) (kind : ℕ) (out : List ℕ) (n : ℕ) → list s m kind (length out) ≡ number n → list_after s m kind out ≡ out
unfolding list list_after
list-kept s m kind out n e = refused_keeps (list_refusals s m kind (length out)) (length (listing s kind)) n out _ e

pub write_kept : (s : List ℕ) (m : Limits) (out : List ℕ) (n : ℕ) → write_sheet s m (length out) ≡ number n → write_sheet_after s m out ≡ out
unfolding write_sheet write_sheet_after
write_kept s m out n e = refused_keeps (write_refusals s m (length out)) (length (fresh_sheet s)) n out _ e
