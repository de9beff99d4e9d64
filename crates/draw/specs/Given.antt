-- Centres whose x and y are given apart: "Centres missing or not finite count as 0." What is drawn at these centres is what is drawn at
-- the numbers that are given. Assumes nothing.
use Rattle.std.specs.Prelude.{◌≡◌, Bool, false, ◌||◌, ℕ, zero, suc, ◌+◌, ◌≤◌, ◌<◌, length, get_or, take, Float}
use Rattle.std.specs.Float.Ieee.{of_bits, lt}
use Rattle.std.proofs.Math.Path.{refl, sym, ap, ap₂}
use Rattle.std.proofs.Common.{◌∙◌, arith, zero-add}
use mathlib.Core.List.{List, [], ◌∷◌, ◌++◌, map}
use Rattle.laws.specs.Any.{any_of}
use Rattle.laws.specs.Flat.{table}
use Rattle.laws.specs.Put.{put}
use Rattle.laws.specs.Tables.{table_at, table-next, table-take, map-table}
use Rattle.laws.specs.Refusals.{Refusal, refusal, decide}
use Rattle.laws.specs.Zip.{map_zip_first, map_zip_second}
use Rattle.float.specs.Constants.{f0}
use Rattle.shape.specs.declared.«V».{«V»}
use Rattle.shape.specs.Plane.{vec}
use Rattle.shape.specs.Centres.{centres}
use Rattle.sheet.specs.Sheet.{Graph, meaning, flags_of}
use Rattle.sheet.specs.Refusals.{refusals, check_of}
use Rattle.sheet.specs.declared.Limits.{Limits}
use Rattle.sheet.specs.Accepted.{within-limits}
use Rattle.sheet.specs.Order.{check-refused}
use Rattle.label_spots.specs.declared.Geometry.{Geometry}
use Rattle.routing.specs.Routing.{Frame, records}
use Rattle.routing.specs.Sheets.{centre_at, centres_at, ends_of, frame_with, frame_of, sizes_of, records_of}
use Rattle.beyond.specs.Beyond.{beyond}
use Rattle.refusal.specs.Refused.{Outcome, values, number}
use Rattle.draw.specs.Drawn.{xs_of, ys_of, far, some_far, far_centre, centre_refusals, draw_of, draw_after}

-- 0 for a missing one
abbrev pub number_given : List Float → ℕ → Float
number_given l k = get_or l k f0

-- the centres of 64 states
unfoldable pub given : List Float → List Float → List «V»
given xs ys = table (λ k. vec (number_given xs k) (number_given ys k)) 0 64

-- ---- their numbers

xs_given : (xs ys : List Float) → xs_of (given xs ys) ≡ table (number_given xs) 0 64
unfolding given
xs_given xs ys = map-table (λ k. vec (number_given xs k) (number_given ys k)) (λ c. c.x) 0 64

ys_given : (xs ys : List Float) → ys_of (given xs ys) ≡ table (number_given ys) 0 64
unfolding given
ys_given xs ys = map-table (λ k. vec (number_given xs k) (number_given ys k)) (λ c. c.y) 0 64

-- ---- 8: a missing number is not far

none_given : (k n : ℕ) → any_of far (table (number_given []) k n) ≡ false
unfolding any_of table of_bits lt
none_given k zero = refl
none_given k (suc n) = none_given (suc k) n

far_given : (l : List Float) (n : ℕ) → any_of far (table (number_given l) 0 n) ≡ any_of far (take n l)
unfolding any_of table
far_given l zero = refl
far_given [] (suc n) = none_given 0 (suc n)
far_given (x ∷ l) (suc n) =
    ap (λ (b : Bool). far x || b)
    (ap (any_of far) (table-next (number_given (x ∷ l)) (number_given l) 0 n (λ j. refl)) ∙ far_given l n)

far_table : (l : List Float) (n : ℕ) → n ≤ 64 → some_far n (table (number_given l) 0 64) ≡ some_far n l
far_table l n h = ap (any_of far) (table-take (number_given l) 0 n 64 h) ∙ far_given l n

-- ---- the frame

-- two functions that agree below k + n
table_below : {A : Type 0} (f g : ℕ → A) (k n : ℕ) → ((j : ℕ) → j < k + n → f j ≡ g j) → table f k n ≡ table g k n
unfolding table
table_below f g k zero h = refl
table_below {A} f g k (suc n) h =
    ap₂ (λ (x : A) (l : List A). x ∷ l) (h k (omega arith)) (table_below f g (suc k) n (λ j i. h j (omega arith)))

given_at : (l : List Float) (k : ℕ) → k < 64 → number_given (table (number_given l) 0 64) k ≡ number_given l k
given_at l k h = table_at (number_given l) 0 64 k f0 h ∙ ap (number_given l) (zero-add k)

module _ (xs ys : List Float) where
  pub centres_given : (n : ℕ) → n ≤ 64 → centres_at (xs_of (given xs ys)) (ys_of (given xs ys)) n ≡ centres_at xs ys n
  centres_given n h =
      rw (xs_given xs ys, ys_given xs ys)
      (table_below _ (centre_at xs ys) 0 n (λ j l. rw (given_at xs j (omega arith), given_at ys j (omega arith))))

  module _ (g : Graph) (few : length g.states ≤ 64) where
    frame_given : frame_of g (xs_of (given xs ys)) (ys_of (given xs ys)) ≡ frame_of g xs ys
    unfolding frame_of
    frame_given = ap (λ (cs : List «V»). frame_with (flags_of g) cs (map ends_of g.arrows)) (centres_given (length g.states) few)

    far_same : far_centre (length g.states) (xs_of (given xs ys)) (ys_of (given xs ys)) ≡ far_centre (length g.states) xs ys
    unfolding far_centre
    far_same =
        rw (xs_given xs ys, ys_given xs ys)
        (ap₂ (λ (a b : Bool). a || b) (far_table xs (length g.states) few) (far_table ys (length g.states) few))

    refusals_given : centre_refusals g (xs_of (given xs ys)) (ys_of (given xs ys)) ≡ centre_refusals g xs ys
    refusals_given = ap₂ (λ (b : Bool) (f : Frame). refusal 8 b ∷ refusal 9 (beyond f) ∷ []) far_same frame_given

-- ---- the call

-- what is made of the records of a sheet that is not refused
module _ {A : Type 0} (refuse : ℕ → A) (answer : List Geometry → A) (m : Limits) (s : List ℕ) (xs ys : List Float) where
  abbrev pub decided : List Float → List Float → A
  decided us vs = decide (refusals m s ++ centre_refusals (meaning s) us vs) refuse (answer (records_of (meaning s) us vs))

  refused_at : (us vs : List Float) (n : ℕ) → number n ≡ check_of m s → refuse n ≡ decided us vs
  refused_at us vs = check-refused m s (centre_refusals (meaning s) us vs) refuse (answer (records_of (meaning s) us vs))

  by_outcome : m.states ≤ 64 → (o : Outcome (Unit {0})) → o ≡ check_of m s
      → decided (xs_of (given xs ys)) (ys_of (given xs ys)) ≡ decided xs ys
  by_outcome few (number n) e = sym (refused_at (xs_of (given xs ys)) (ys_of (given xs ys)) n e) ∙ refused_at xs ys n e
  by_outcome few (values u) e =
      let g = meaning s in
      let w : length g.states ≤ 64 = omega (arith, (within-limits m s (sym e)).states, few) in
      ap₂ (λ (rs : List Refusal) (f : Frame). decide (refusals m s ++ rs) refuse (answer (records f (sizes_of g))))
      (refusals_given xs ys g w) (frame_given xs ys g w)

  pub decided_given : m.states ≤ 64 → decided (xs_of (given xs ys)) (ys_of (given xs ys)) ≡ decided xs ys
  decided_given few = by_outcome few (check_of m s) refl

module _ (m : Limits) (s : List ℕ) (xs ys : List Float) (few : m.states ≤ 64) where
  pub draw_given : draw_of m s (xs_of (given xs ys)) (ys_of (given xs ys)) ≡ draw_of m s xs ys
  draw_given = decided_given number (λ gs. values (length gs)) m s xs ys few

  pub after_given : (l : List Geometry) → draw_after m s (xs_of (given xs ys)) (ys_of (given xs ys)) l ≡ draw_after m s xs ys l
  after_given l = decided_given (λ n. l) (put l 0) m s xs ys few

-- centres whose numbers are given: those numbers
module _ (xs ys : List Float) (level : length ys ≡ length xs) where
  pub xs_centres : xs_of (centres xs ys) ≡ xs
  xs_centres = map_zip_first vec (λ c. c.x) (λ a b. refl) xs ys level

  pub ys_centres : ys_of (centres xs ys) ≡ ys
  ys_centres = map_zip_second vec (λ c. c.y) (λ a b. refl) xs ys level
