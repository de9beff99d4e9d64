-- A listing under the limits m at given centres, with this width and height: what refuses the drawing, then 10 and 7.
use Rattle.std.specs.Prelude.{List, ℕ, Float}
use Rattle.laws.specs.Refusals.{decide}
use Rattle.sheet.specs.Sheet.{meaning, flags_of}
use Rattle.sheet.specs.declared.Limits.{Limits}
use Rattle.shape.specs.declared.«V».{«V»}
use Rattle.totals.specs.Totals.{totals_of}
use Rattle.drawing_text.specs.Lines.{list_text, list_writable}
use Rattle.draw.specs.Drawn.{xs_of, ys_of, draw_refusals}
use Rattle.outputs.specs.Answers.{written_of, out_written}
use Rattle.refusal.specs.Refused.{Outcome, number}
use Rattle.calls.specs.Calls.{drawn_of}

abbrev pub listing_at : Limits → List ℕ → Float → Float → List «V» → ℕ → Outcome ℕ
listing_at m s w h cs room =
    let gs = drawn_of s (xs_of cs) (ys_of cs) in
    let totals = totals_of (meaning s) gs in
    decide (draw_refusals m s (xs_of cs) (ys_of cs)) number
    (written_of (list_writable w h cs (flags_of (meaning s)) gs totals) (list_text w h cs (flags_of (meaning s)) gs totals) room)

abbrev pub listed_after : Limits → List ℕ → Float → Float → List «V» → List ℕ → List ℕ
listed_after m s w h cs out =
    let gs = drawn_of s (xs_of cs) (ys_of cs) in
    let totals = totals_of (meaning s) gs in
    decide (draw_refusals m s (xs_of cs) (ys_of cs)) (λ (n : ℕ). out)
    (out_written (list_writable w h cs (flags_of (meaning s)) gs totals) (list_text w h cs (flags_of (meaning s)) gs totals) out)
