-- Nothing that a drawing covers lies outside its bounds. Assumes nothing.
use Rattle.std.specs.Prelude.{◌≡◌, refl, false, List, [], ◌∷◌, map, ℕ, zero, suc, ◌<◌, T, length, get_or, Float}
use Rattle.std.proofs.Common.{ap, ◌∙◌, ⊎_elim, arith}
use Rattle.std.proofs.lemmas.List.{length-map}
use Rattle.std.proofs.Math.ListN.{get_or-map}
use Rattle.std.specs.Float.{nan, inf, fin}
use Rattle.std.specs.Float.Ieee as Ieee
use Rattle.laws.specs.Cases.{by_bool, holds, fails, not-both}
use Rattle.std.specs.List.{fold}
use Rattle.laws.specs.Order.{float_lt_trans, lt-itself}
use Rattle.laws.specs.Between.{lt-between}
use Rattle.float.specs.Ops.{lt, ne, neg}
use Rattle.float.specs.Constants.{infinity}
use Rattle.float.specs.Standins.{min, max}
use Rattle.laws.specs.Nan.{is_nan_lem}
use Rattle.float.specs.Laws.{min-first, min-second, max-first, max-second}
use Rattle.shape.specs.declared.«V».{«V»}
use Rattle.shape.specs.declared.Rect.{Rect}
use Rattle.shape.specs.Plane.{no_bounds, extended}
use Rattle.trace.specs.Traces.{bounds_of}
use Rattle.label_spots.specs.declared.Geometry.{Geometry}
use Rattle.fit.specs.Fit.{covered, drawing_bounds}

-- ---- no number is below NaN, and NaN below none

nan_below : (x : Float) → lt nan x ≡ false
unfolding Ieee.lt
nan_below x = refl

below_nan : (x : Float) → lt x nan ≡ false
unfolding Ieee.lt
below_nan nan = refl
below_nan (inf s) = refl
below_nan (fin s m e) = refl

-- ---- the least and the most of numbers: none is below the one, or above the other

least_first : (a : Float) (l : List Float) → lt a (fold min a l) ≡ false
least_first a [] = fails (lt a a) (lt-itself a)
least_first a (x ∷ l) =
    by_bool (ne a a) (λ e. ap (λ (v : Float). lt v (fold min (min a x) l)) (is_nan_lem a e) ∙ nan_below (fold min (min a x) l))
    (λ e. by_bool (lt x a)
    (λ t. ap (λ (v : Float). lt a (fold min v l)) (min-second a x t) ∙ fails (lt a (fold min x l)) (λ u. not-both (float_lt_trans x a (fold min x l) (holds t) u) (least_first x l)))
    (λ t. ap (λ (v : Float). lt a (fold min v l)) (min-first a x e t) ∙ least_first a l))

least : (a : Float) (l : List Float) (k : ℕ) (d : Float) → k < length l → lt (get_or l k d) (fold min a l) ≡ false
least a [] k d h = absurd (omega arith)
least a (x ∷ l) (suc k) d h = least (min a x) l k d (omega arith)
least a (x ∷ l) zero d h =
    by_bool (ne a a) (λ e. rw e (least_first x l))
    (λ e. by_bool (lt x a)
    (λ t. ap (λ (v : Float). lt x (fold min v l)) (min-second a x t) ∙ least_first x l)
    (λ t. ap (λ (v : Float). lt x (fold min v l)) (min-first a x e t)
    ∙ fails (lt x (fold min a l)) (λ u. ⊎_elim (λ (y : T (lt x a)). not-both y t) (λ (y : T (lt a (fold min a l))). not-both y (least_first a l)) (lt-between x a (fold min a l) e u))))

most_first : (a : Float) (l : List Float) → lt (fold max a l) a ≡ false
most_first a [] = fails (lt a a) (lt-itself a)
most_first a (x ∷ l) =
    by_bool (ne a a) (λ e. ap (λ (v : Float). lt (fold max (max a x) l) v) (is_nan_lem a e) ∙ below_nan (fold max (max a x) l))
    (λ e. by_bool (lt a x)
    (λ t. ap (λ (v : Float). lt (fold max v l) a) (max-second a x t) ∙ fails (lt (fold max x l) a) (λ u. not-both (float_lt_trans (fold max x l) a x u (holds t)) (most_first x l)))
    (λ t. ap (λ (v : Float). lt (fold max v l) a) (max-first a x e t) ∙ most_first a l))

most : (a : Float) (l : List Float) (k : ℕ) (d : Float) → k < length l → lt (fold max a l) (get_or l k d) ≡ false
most a [] k d h = absurd (omega arith)
most a (x ∷ l) (suc k) d h = most (max a x) l k d (omega arith)
most a (x ∷ l) zero d h =
    by_bool (ne a a) (λ e. rw e (most_first x l))
    (λ e. by_bool (lt a x)
    (λ t. ap (λ (v : Float). lt (fold max v l) x) (max-second a x t) ∙ most_first x l)
    (λ t. ap (λ (v : Float). lt (fold max v l) x) (max-first a x e t)
    ∙ fails (lt (fold max a l) x) (λ u. ⊎_elim (λ (y : T (lt (fold max a l) a)). not-both y (most_first a l)) (λ (y : T (lt a x)). not-both y t) (lt-between (fold max a l) a x e u))))

-- ---- the sides of a box, each by itself

left_is : (r : Rect) (l : List «V») → (fold extended r l).x0 ≡ fold min r.x0 (map (λ (p : «V»). p.x) l)
unfolding extended
left_is r [] = refl
left_is r (p ∷ l) = left_is (extended r p) l

top_is : (r : Rect) (l : List «V») → (fold extended r l).y0 ≡ fold min r.y0 (map (λ (p : «V»). p.y) l)
unfolding extended
top_is r [] = refl
top_is r (p ∷ l) = top_is (extended r p) l

right_is : (r : Rect) (l : List «V») → (fold extended r l).x1 ≡ fold max r.x1 (map (λ (p : «V»). p.x) l)
unfolding extended
right_is r [] = refl
right_is r (p ∷ l) = right_is (extended r p) l

bottom_is : (r : Rect) (l : List «V») → (fold extended r l).y1 ≡ fold max r.y1 (map (λ (p : «V»). p.y) l)
unfolding extended
bottom_is r [] = refl
bottom_is r (p ∷ l) = bottom_is (extended r p) l

-- ---- inside

-- the point lies beyond no side of the box
pub record Inside (b : Rect) (p : «V») : Type 0 where
  pub left : lt p.x b.x0 ≡ false
  pub top : lt p.y b.y0 ≡ false
  pub right : lt b.x1 p.x ≡ false
  pub bottom : lt b.y1 p.y ≡ false

pub bounds_hold : (l : List «V») (k : ℕ) (d : «V») → k < length l → Inside (bounds_of l) (get_or l k d)
unfolding bounds_of
bounds_hold l k d h = record {
  left = rw (left_is no_bounds l, ← (get_or-map across l k d)) (least infinity (map across l) k d.x (rw (length-map l across) h));
  top = rw (top_is no_bounds l, ← (get_or-map along l k d)) (least infinity (map along l) k d.y (rw (length-map l along) h));
  right = rw (right_is no_bounds l, ← (get_or-map across l k d)) (most (neg infinity) (map across l) k d.x (rw (length-map l across) h));
  bottom = rw (bottom_is no_bounds l, ← (get_or-map along l k d)) (most (neg infinity) (map along l) k d.y (rw (length-map l along) h));
}
  where
    across : «V» → Float
    across p = p.x

    along : «V» → Float
    along p = p.y

-- the corners of each state, the start arrows, the points of each curve and the corners of each label box are inside the drawing
pub covered-inside : (flags : List ℕ) (cs : List «V») (gs : List Geometry) (k : ℕ) (d : «V») → k < length (covered flags cs gs)
    → Inside (drawing_bounds flags cs gs) (get_or (covered flags cs gs) k d)
unfolding drawing_bounds
covered-inside flags cs gs k d h = bounds_hold (covered flags cs gs) k d h
