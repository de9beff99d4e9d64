-- What one thing adds to a cost, by the code's tests; the costs in a scene of so many things. Assumes nothing.
use Rattle.std.proofs.Common.{drop, get_or, drop-cons, drop_of_length-le, add-one, add-zero, ◌≤◌, true, false, [], ◌∷◌, map}
use Rattle.std.proofs.lemmas.Bool.{lt-leb, le-leb}
use mathlib.Core.Path.{◌≡◌, refl, sym, ap, subst, ◌∙◌}
use mathlib.Core.Bool.{Bool}
use mathlib.Core.List.{List}
use Prim.Native.Nat.{ℕ, ◌+◌, ◌<◌}
use native.Mathlib.Omega.{arith}
use lib.ListN.{length}
use lib.Ieee.{Float, binary64, of_bits, round, size, span, climb, units, odd, sum}
use lib.Ieee as Ieee
use Rattle.laws.specs.Best.{search_from, cut_total}
use Rattle.laws.specs.Counting.{worth}
use Rattle.float.specs.Ops.{◌⊕◌, lt}
use Rattle.float.specs.Constants.{keep, node_radius}
use Rattle.shape.specs.declared.«V».{«V»}
use Rattle.shape.specs.declared.Rect.{Rect}
use Rattle.shape.specs.Plane.{box_dist, box_dist_squared}
use Rattle.root.specs.Worked.{first_26}
use Rattle.shape.specs.Squares.{box_near_squared}
use Rattle.label_spots.specs.declared.Turn.{Turn}
use Rattle.label_spots.specs.Spots.{spot_count, spot-count}
use Rattle.scene.specs.Scene.{Scene, near26, box_cost, most}
use Rattle.scene.specs.Turn.{places, box_at, taken, taken_least}
use Rattle.scene.specs.Cut.{cut_cost, cost-le, cut_full, early}

-- ---- a state: below 26 by the squares

bound : node_radius ⊕ keep ≡ of_bits binary64 0x403a000000000000
unfolding of_bits Ieee.add round size span climb units odd sum
bound = refl

pub near26_is : (b : Rect) (c : «V») (q : Float) (t : Bool) → q ≡ box_dist_squared b c → lt q (of_bits binary64 0x4085200000000000) ≡ t → t ≡ near26 b c
unfolding near26
near26_is b c q t e f =
    sym f ∙ ap (λ (v : Float). lt v (of_bits binary64 0x4085200000000000)) e
    ∙ sym (ap (lt (box_dist b c)) bound ∙ box_near_squared 0x4085200000000000 0x403a000000000000 first_26 b c)

-- ---- a limit that is above every cost cuts nothing

module _ (s : Scene) (big : ℕ) (below : most s < big) where
  pub full_is : (own : ℕ) (b : Rect) (r : ℕ) → r ≡ cut_cost s own big b → r ≡ box_cost s own b
  full_is own b r e = e ∙ cut_full s own big b (omega (arith, cost-le s own b, below))

  pub early_is : (t : Turn) (n : ℕ) → n ≡ places t → search_from (λ l j. cut_cost s t.edge l (box_at t j)) n 0 big 0 ≡ taken s t
  early_is t n e = early s t n big e below

-- ---- places

pub count_is : (t : Turn) (n : ℕ) → n ≡ spot_count t.arrow.shape → n ≡ places t
count_is t n e = e ∙ sym (spot-count t.arrow.curve t.arrow.shape)

pub taken_inside : (s : Scene) (t : Turn) (j : ℕ) → j ≡ taken s t → j < spot_count t.arrow.shape
taken_inside s t j e = rw e (subst (λ (n : ℕ). taken s t < n) (spot-count t.arrow.curve t.arrow.shape) (taken_least s t).inside)

-- ---- a step of a sum that stops at a limit, and its end

module _ {A : Type 0} (f : A → ℕ) (l a k : ℕ) (xs : List A) where
  pub cut_more : (b : ℕ) (x d : A) → k < length xs → get_or xs k d ≡ x → a < l → b ≡ a + f x
      → cut_total l b (map f (drop (k + 1) xs)) ≡ cut_total l a (map f (drop k xs))
  unfolding cut_total
  cut_more b x d h e m q = rw (drop-cons xs k d h, e, q, add-one, lt-leb _ _ m)

  pub cut_stops : l ≤ a → a ≡ cut_total l a (map f (drop k xs))
  unfolding cut_total
  cut_stops h = go (drop k xs)
    where
      go : (ys : List A) → a ≡ cut_total l a (map f ys)
      go [] = refl
      go (y ∷ ys) = rw (le-leb _ _ h)

  pub cut_ends : length xs ≤ k → a ≡ cut_total l a (map f (drop k xs))
  unfolding cut_total
  cut_ends h = rw (drop_of_length-le xs h)

module _ {A : Type 0} (p : A → Bool) (m a s : ℕ) (x : A) where
  pub worth_yes : p x ≡ true → s ≡ a + m → s ≡ a + worth p m x
  worth_yes t e = rw t e

  pub worth_no : p x ≡ false → s ≡ a → s ≡ a + worth p m x
  worth_no t e = rw t (e ∙ sym (add-zero a))

pub worth_map : {A B : Type 0} (p : B → Bool) (f : A → B) (m : ℕ) (l : List A) → map (worth (λ x. p (f x)) m) l ≡ map (worth p m) (map f l)
worth_map p f m [] = refl
worth_map p f m (x ∷ l) = ap (λ (r : List ℕ). worth p m (f x) ∷ r) (worth_map p f m l)
