-- Routing and counting clutter, from what drawing a sheet gives. Assumes nothing.
use Rattle.std.specs.Prelude.{◌≡◌, List, ℕ, ◌≤◌, length, Float}
use Rattle.std.proofs.Common.{sym, ap, ap₂, ◌∙◌}
use Rattle.laws.specs.Refusals.{Refusal, Clear, First, first_decides, clear_decides, first-joined, clear-joined}
use Rattle.sheet.specs.Sheet.{meaning}
use Rattle.sheet.specs.declared.Limits.{Limits}
use Rattle.shape.specs.declared.«V».{«V»}
use Rattle.curves.specs.Counted.{counted}
use Rattle.label_spots.specs.declared.Geometry.{Geometry}
use Rattle.routing.specs.Sheets.{frame_of, centres_at}
use Rattle.clutter.specs.Clutter.{clutter_of}
use Rattle.drawing_text.specs.Lines.{paths_text}
use Rattle.draw.specs.Drawn.{draw_refusals}
use Rattle.draw.specs.Given.{given, centres_given}
use Rattle.calls.specs.Calls.{Outcome, number, values, capped_limits, drawn_of, numbers_of, onto, route, records_after, text_after, clutter}
use Rattle.calls.specs.Drawing.{drawing_at}
use Rattle.outputs.specs.Answers.{fill_refusals, FilledInto}
use Rattle.calls.proofs.Held.{DrawingHeld, draw_stopped}

-- the centres that are given, as they count
pub nodes_given : (xs ys : List Float) (cs : List «V») → cs ≡ given xs ys → (n : ℕ) → n ≤ 64 → counted cs n ≡ centres_at xs ys n
nodes_given xs ys cs e n h = ap (λ (ps : List «V»). counted ps n) e ∙ centres_given xs ys n h

module _ (s : List ℕ) (m : Limits) (xs ys : List Float) {k : Limits} (c : k ≡ capped_limits m) where
  abbrev drawing : List Refusal
  drawing = draw_refusals (capped_limits m) s xs ys

  -- by what drawing under the limits that count has answered
  counting : Clear (draw_refusals k s xs ys) → Clear drawing
  counting h = rw (← c) h

  refusing : (n : ℕ) → number n ≡ drawing_at k s xs ys → First drawing n
  refusing n e = rw (← c) (draw_stopped s k xs ys n e)

  module _ (records : List Float) (text : List ℕ) where
    -- r is answered, and a and b stand in the lent slices
    abbrev pub RouteLeaves : Outcome (ℕ × ℕ) → List Float → List ℕ → Type 0
    RouteLeaves r a b =
        (r ≡ route s m xs ys (length records) (length text))
        × (a ≡ records_after s m xs ys records (length text))
        × (b ≡ text_after s m xs ys (length records) text)

    abbrev filling : List Refusal
    filling = fill_refusals (drawn_of s xs ys) (length records) (length text)

    pub call_refused : (n : ℕ) → number n ≡ drawing_at k s xs ys → RouteLeaves (number n) records text
    unfolding route records_after text_after
    call_refused n e =
        let f : First drawing n = refusing n e in (
          sym (first-joined number _ drawing filling n f),
          sym (first-joined (λ j. records) _ drawing filling n f),
          sym (first-joined (λ j. text) _ drawing filling n f),
        )

    pub call_drawn : (drawn : List Geometry) → DrawingHeld s k xs ys drawn → (r : Outcome (ℕ × ℕ)) (a : List Float) (b : List ℕ)
        → FilledInto drawn records text r a b → RouteLeaves r a b
    unfolding route records_after text_after
    call_drawn drawn h r a b f =
        let gs = drawn_of s xs ys in
        let g : FilledInto gs records text r a b = rw h.whole at f in (
          g.0 ∙ sym (clear-joined number _ drawing filling (counting h.clear)),
          g.1 ∙ sym (clear-joined (λ j. records) (onto (numbers_of gs) records) drawing filling (counting h.clear)),
          g.2 ∙ sym (clear-joined (λ j. text) (onto (paths_text gs) text) drawing filling (counting h.clear)),
        )

  pub clutter-refused : (n : ℕ) → number n ≡ drawing_at k s xs ys → number n ≡ clutter s m xs ys
  unfolding clutter
  clutter-refused n e = sym (first_decides number _ drawing n (refusing n e))

  pub clutter-drawn : (drawn : List Geometry) → DrawingHeld s k xs ys drawn → (n : ℕ) (nodes : List «V») (j : ℕ)
      → n ≡ length (meaning s).states → nodes ≡ centres_at xs ys n → j ≡ clutter_of nodes drawn → values j ≡ clutter s m xs ys
  unfolding clutter frame_of
  clutter-drawn drawn h n nodes j i e f =
      ap (λ (i : ℕ). values i) (f ∙ ap₂ clutter_of (e ∙ ap (centres_at xs ys) i) h.whole)
      ∙ sym (clear_decides number _ drawing (counting h.clear))
