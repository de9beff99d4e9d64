-- A sheet's drawing, by what drawing the sheet answers: nothing refused it, and it is what is drawn. Assumes nothing.
use Rattle.std.specs.Prelude.{◌≡◌, List, [], ℕ, ◌≤◌, length, take, Float}
use Rattle.std.proofs.Common.{refl, sym, ap, ◌∙◌, arith}
use Rattle.std.proofs.lemmas.List.{length-map}
use Rattle.laws.specs.Filled.{front_is}
use Rattle.laws.specs.Refusals.{Clear, First, clear_none, clear_from, first_decides, clear_decides}
use Rattle.sheet.specs.Sheet.{meaning}
use Rattle.sheet.specs.Refusals.{refusals}
use Rattle.sheet.specs.Order.{accepted_exactly}
use Rattle.sheet.specs.Accepted.{Within, within-limits}
use Rattle.sheet.specs.declared.Limits.{Limits}
use Rattle.label_spots.specs.declared.Geometry.{Geometry}
use Rattle.routing.specs.Sheets.{ends_of, frame_of, sizes_of}
use Rattle.routing_laws.proofs.Decoded.{records_most}
use Rattle.draw.specs.Drawn.{draw_refusals, draw_of, draw_after}
use Rattle.calls.specs.Calls.{values, number, drawn_of}
use Rattle.calls.specs.Decided.{refused-first, answered-clear}
use Rattle.calls.specs.Drawing.{drawing_at}

-- drawn under the limits k
pub record DrawingHeld (s : List ℕ) (k : Limits) (xs ys : List Float) (drawn : List Geometry) : Type 0 where
  pub clear : Clear (draw_refusals k s xs ys)
  pub states : length (meaning s).states ≤ 64
  pub few : length drawn ≤ 256
  pub whole : drawn ≡ drawn_of s xs ys

module _ (s : List ℕ) (k : Limits) (xs ys : List Float) where
  pub draw_stopped : (n : ℕ) → number n ≡ drawing_at k s xs ys → First (draw_refusals k s xs ys) n
  draw_stopped n e = refused-first (draw_refusals k s xs ys) (drawn_of s xs ys) n e

  -- by what drawing has answered and left
  pub drawing_refused : (n : ℕ) → number n ≡ draw_of k s xs ys → number n ≡ drawing_at k s xs ys
  drawing_refused n e = sym (first_decides number _ _ n (refused-first (draw_refusals k s xs ys) (length (drawn_of s xs ys)) n e))

  module _ (few_states : k.states ≤ 64) (few_arrows : k.arrows ≤ 256) where
    accepted : Clear (draw_refusals k s xs ys) → Within k (meaning s)
    accepted c = within-limits k s ((accepted_exactly k s).1 (clear_from (refusals k s) [] (draw_refusals k s xs ys) clear_none c refl))

    few_drawn : Clear (draw_refusals k s xs ys) → length (drawn_of s xs ys) ≤ 256
    unfolding frame_of
    few_drawn c =
        let f = frame_of (meaning s) xs ys in
        let g : Within k (meaning s) = accepted c in
        let a : length f.arrows ≤ 256 = omega (arith, g.arrows, few_arrows, length-map (meaning s).arrows ends_of) in
        let b : length (drawn_of s xs ys) ≤ length f.arrows = records_most f (sizes_of (meaning s)) in
        omega arith

    pub drawing_held : (drawn : List Geometry) → values drawn ≡ drawing_at k s xs ys → DrawingHeld s k xs ys drawn
    drawing_held drawn e =
        let w = answered-clear (draw_refusals k s xs ys) (drawn_of s xs ys) drawn e in
        record {
          clear = w.0;
          states = omega (arith, (accepted w.0).states, few_states);
          few = rw w.1 (few_drawn w.0);
          whole = w.1;
        }

    -- so many are drawn, at the front of what was lent
    pub drawing_left : (count : ℕ) (before after : List Geometry) → 256 ≤ length before → values count ≡ draw_of k s xs ys
        → after ≡ draw_after k s xs ys before → (count ≤ 256) × (values (take count after) ≡ drawing_at k s xs ys)
    drawing_left count before after h e q =
        let rs = draw_refusals k s xs ys in
        let w = answered-clear rs (length (drawn_of s xs ys)) count e in
        let i : length (drawn_of s xs ys) ≤ 256 = few_drawn w.0 in
        let d = front_is before (drawn_of s xs ys) count after w.1 (omega arith) (q ∙ clear_decides (λ n. before) _ rs w.0) in
        (omega (arith, w.1), ap (λ (gs : List Geometry). values gs) d ∙ sym (clear_decides number _ rs w.0))
