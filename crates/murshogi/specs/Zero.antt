-- A call that returns 0 has answered values: no refusal has the number 0. Assumes nothing.
use Rattle.std.specs.Prelude.{◌≡◌, Bool, true, false, cond, ℕ, T, ltb, length, Float}
use Rattle.std.proofs.Math.Path.{refl}
use Rattle.std.proofs.Common.{sym, subst, arith, ltb-true}
use mathlib.Core.List.{List, [], ◌∷◌}
use Rattle.laws.specs.Refusals.{Refusal, decide}
use Rattle.sheet.specs.Refusals.{refusals}
use Rattle.label.specs.Label.{label_refusals, cut, block_width, block_height}
use Rattle.number.specs.Number.{num_text}
use Rattle.draw.specs.Drawn.{draw_refusals}
use Rattle.drawing_text.specs.Lines.{paths_text}
use Rattle.routing.specs.Sheets.{frame_of}
use Rattle.sheet.specs.Sheet.{meaning}
use Rattle.sheet.specs.declared.Limits.{Limits}
use Rattle.clutter.specs.Clutter.{clutter_of}
use Rattle.calls.specs.Calls.{Outcome, values, number, capped_limits, check, label_size, drawn_of, numbers_of, route_refusals, route, clutter, num_refusals, write_num, layout_for, layout_refusals, layout, listing, list_refusals, list, fresh_sheet, write_refusals, write_sheet}
use Rattle.murshogi.specs.Exports.{returned}

-- every refusal of a list has a number above 0
abbrev pub all_numbered : List Refusal → Bool
all_numbered [] = true
all_numbered (r ∷ rs) = let rest = all_numbered rs in cond (ltb 0 r.number) rest false

each : (a b : Bool) → cond a b false ≡ true → (a ≡ true) × (b ≡ true)
each true b h = (refl, h)
each false b h = absurd (subst T (sym h) tt)

module _ {A : Type 0} (v : A) where
  step : (b : Bool) (n : ℕ) (o : Outcome A) → ltb 0 n ≡ true → (returned o ≡ 0 → o ≡ values v) → returned (cond b (number n) o) ≡ 0 → cond b (number n) o ≡ values v
  step true n o p f e = absurd (omega (arith, ltb-true 0 n p, e))
  step false n o p f e = f e

  pub zero_values : (rs : List Refusal) → all_numbered rs ≡ true → returned (decide rs number (values v)) ≡ 0 → decide rs number (values v) ≡ values v
  unfolding decide
  zero_values [] h e = refl
  zero_values (r ∷ rs) h e =
      let p = each (ltb 0 r.number) (all_numbered rs) h in
      step r.cause r.number (decide rs number (values v)) p.0 (zero_values rs p.1) e

pub check-zero : (s : List ℕ) (m : Limits) → returned (check s m) ≡ 0 → check s m ≡ values tt
unfolding check
check-zero s m e = zero_values tt (refusals (capped_limits m) s) refl e

pub label_zero : (text lengths : List ℕ) (m : Limits) → returned (label_size text lengths m) ≡ 0 → label_size text lengths m ≡ values (block_width (cut text lengths), block_height (length lengths))
unfolding label_size
label_zero text lengths m e = zero_values (block_width (cut text lengths), block_height (length lengths)) (label_refusals (capped_limits m) text lengths) refl e

pub layout-zero : (s : List ℕ) (m : Limits) (kind xRoom yRoom : ℕ) → returned (layout s m kind xRoom yRoom) ≡ 0 → layout s m kind xRoom yRoom ≡ values (length (meaning s).states, (layout_for s kind).width, (layout_for s kind).height)
unfolding layout
layout-zero s m kind xRoom yRoom e = zero_values (length (meaning s).states, (layout_for s kind).width, (layout_for s kind).height) (layout_refusals s m kind xRoom yRoom) refl e

pub route-zero : (s : List ℕ) (m : Limits) (xs ys : List Float) (room textRoom : ℕ) → returned (route s m xs ys room textRoom) ≡ 0 → route s m xs ys room textRoom ≡ values (length (numbers_of (drawn_of s xs ys)), length (paths_text (drawn_of s xs ys)))
unfolding route
route-zero s m xs ys room textRoom e = zero_values (length (numbers_of (drawn_of s xs ys)), length (paths_text (drawn_of s xs ys))) (route_refusals s m xs ys room textRoom) refl e

pub clutter-zero : (s : List ℕ) (m : Limits) (xs ys : List Float) → returned (clutter s m xs ys) ≡ 0 → clutter s m xs ys ≡ values (clutter_of (frame_of (meaning s) xs ys).centres (drawn_of s xs ys))
unfolding clutter
clutter-zero s m xs ys e = zero_values (clutter_of (frame_of (meaning s) xs ys).centres (drawn_of s xs ys)) (draw_refusals (capped_limits m) s xs ys) refl e

pub num_zero : (v : Float) (out : List ℕ) → returned (write_num v out) ≡ 0 → write_num v out ≡ values (length (num_text v))
unfolding write_num
num_zero v out e = zero_values (length (num_text v)) (num_refusals v out) refl e

pub list-zero : (s : List ℕ) (m : Limits) (kind room : ℕ) → returned (list s m kind room) ≡ 0 → list s m kind room ≡ values (length (listing s kind))
unfolding list
list-zero s m kind room e = zero_values (length (listing s kind)) (list_refusals s m kind room) refl e

pub write_zero : (s : List ℕ) (m : Limits) (room : ℕ) → returned (write_sheet s m room) ≡ 0 → write_sheet s m room ≡ values (length (fresh_sheet s))
unfolding write_sheet
write_zero s m room e = zero_values (length (fresh_sheet s)) (write_refusals s m room) refl e
