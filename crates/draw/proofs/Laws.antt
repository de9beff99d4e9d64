-- Which centres are far, the frame read of a sheet, and what drawing answers. Assumes nothing.
use Rattle.std.specs.Prelude.{◌≡◌, Bool, true, false, ◌||◌, ℕ, zero, suc, ◌+◌, ◌-◌, ◌≤◌, ◌<◌, length, min, take, drop, replicate, Float}
use Rattle.std.specs.Float.Ieee.{of_bits}
use Rattle.std.specs.List.{list_any}
use Rattle.std.proofs.Math.Path.{refl, sym, ap, ap₂}
use Rattle.std.proofs.Common.{◌∙◌, take_at, arith}
use Rattle.std.proofs.lemmas.List.{length-map, take-replicate, drop-replicate}
use mathlib.Core.List.{List, [], ◌∷◌, ◌++◌, map}
use Rattle.laws.specs.Any.{any_of}
use Rattle.laws.specs.Flat.{table}
use Rattle.laws.specs.Put.{put}
use Rattle.laws.specs.Tables.{table-next}
use Rattle.float.specs.Constants.{f0}
use Rattle.laws.specs.Refusals.{decide, decide-first}
use Rattle.shape.specs.declared.«V».{«V»}
use Rattle.shape.specs.Plane.{vec}
use Rattle.sheet.specs.Sheet.{State, Graph, flags_of}
use Rattle.curves.specs.Counted.{counted, frame_from}
use Rattle.label_spots.specs.declared.Geometry.{Geometry}
use Rattle.routing.specs.Routing.{Ends, Frame, BlockSize, records}
use Rattle.routing.specs.Sheets.{centre_at, centres_at, ends_of, size_of, frame_with, frame_of, sizes_of}
use Rattle.beyond.specs.Beyond.{beyond}
use Rattle.draw.specs.Drawn.{xs_of, ys_of, far, far_centre, bow_refusals, draw_answer, left_by}
use Rattle.refusal.specs.Refused.{values, number}

-- ---- 8

or_middle : (a b c d : Bool) → ((a || b) || (c || d)) ≡ ((a || c) || (b || d))
or_middle true b c d = refl
or_middle false true true d = refl
or_middle false true false d = refl
or_middle false false c d = refl

-- x or y of one of the first n centres
pub far_either : (n : ℕ) (cs : List «V») → far_centre n (xs_of cs) (ys_of cs) ≡ list_any (λ c. far c.x || far c.y) (take n cs)
unfolding far_centre any_of
far_either zero cs = refl
far_either (suc n) [] = refl
far_either (suc n) (c ∷ cs) =
    or_middle (far c.x) (any_of far (take n (xs_of cs))) (far c.y) (any_of far (take n (ys_of cs)))
    ∙ ap (λ (b : Bool). (far c.x || far c.y) || b) (far_either n cs)

-- ---- what is drawn

-- what was stored in front of a lent slice of n
front : {A : Type 0} {l m : List A} {n : ℕ} (rest : List A) → l ≡ m → n ≡ length m → take n (l ++ rest) ≡ m
front {l = l} {n = n} rest e h = take_at l rest n (ap length e ∙ sym h) ∙ e

module _ (g : Graph) where
  pub sizes_read : {sizes : List BlockSize} {m : ℕ} (rest : List BlockSize)
      → sizes ≡ sizes_of g → m ≡ length g.arrows → take m (sizes ++ rest) ≡ sizes_of g
  sizes_read rest e h = front rest e (h ∙ sym (length-map g.arrows size_of))

  pub frame_read : (cs : List «V») {flags : List ℕ} {arrows : List Ends} {n m : ℕ} (after : List ℕ) (behind : List Ends)
      → flags ≡ flags_of g → arrows ≡ map ends_of g.arrows → n ≡ length g.states → m ≡ length g.arrows
      → frame_from (take n (flags ++ after)) cs (take m (arrows ++ behind)) ≡ frame_of g (xs_of cs) (ys_of cs)
  unfolding frame_of
  frame_read cs after behind e h i j =
      let many = length-map g.states (λ (t : State). t.flags) in
      let flags_front = front after e (i ∙ sym many) in
      let arrows_front = front behind h (j ∙ sym (length-map g.arrows ends_of)) in
      rw (flags_front, arrows_front) (ap (λ (k : ℕ). frame_with (flags_of g) (counted cs k) (map ends_of g.arrows)) many)

module _ (g : Graph) (xs ys : List Float) {f : Frame} (e : f ≡ frame_of g xs ys) where
  -- refused by 9
  pub draw_refused : (l : List Geometry) → beyond f ≡ true
      → (number 9 ≡ draw_answer (bow_refusals g xs ys) g xs ys) × (l ≡ left_by (bow_refusals g xs ys) g xs ys l)
  draw_refused l b =
      let t : beyond (frame_of g xs ys) ≡ true = ap beyond (sym e) ∙ b in
      (decide-first 9 _ [] _ _ t, decide-first 9 _ [] (λ n. l) _ t)

  pub draw_drawn : {sizes : List BlockSize} → sizes ≡ sizes_of g → (n : ℕ) (l m : List Geometry) → beyond f ≡ false
      → n ≡ length (records f sizes) → m ≡ put l 0 (records f sizes)
      → (values n ≡ draw_answer (bow_refusals g xs ys) g xs ys) × (m ≡ left_by (bow_refusals g xs ys) g xs ys l)
  unfolding decide
  draw_drawn {sizes} z n l m b r w =
      let t : beyond (frame_of g xs ys) ≡ false = ap beyond (sym e) ∙ b in
      let same : records f sizes ≡ records (frame_of g xs ys) (sizes_of g) = ap₂ records e z in
      rw t (ap values (r ∙ ap length same), w ∙ ap (put l 0) same)
