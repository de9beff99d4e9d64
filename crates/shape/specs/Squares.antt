-- A distance is below a bound exactly where its square is below the bound's, also where the square is NaN and its root 0. Assumes nothing.
use Rattle.std.specs.Prelude.{◌≡◌, refl, true, false, cond, ℕ, T, Float}
use Rattle.std.proofs.Common.{sym, ap, ◌∙◌, subst, true≢false, arith}
use Rattle.std.specs.Float.{nan, inf, fin, binary64}
use Rattle.std.specs.Float.Ieee.{is_nan, of_bits, to_bits}
use Rattle.std.specs.Float.Ieee as Ieee
use Rattle.laws.specs.Cases.{by_bool}
use Rattle.laws.specs.Nan.{is_nan_lem, is_num}
use Rattle.root.specs.Plain.{Plain, FirstRoot, squares-plain, bits-plain, root_lt_first}
use Rattle.float.specs.Ops.{◌⊕◌, ◌⊗◌, lt, ne}
use Rattle.float.specs.Constants.{f0}
use Rattle.float.specs.Standins.{max, root, root_of}
use Rattle.float.specs.RootLaws.{root_is}
use Rattle.shape.specs.declared.«V».{«V»}
use Rattle.shape.specs.declared.Rect.{Rect}
use Rattle.shape.specs.Plane.{sub, dist, squares, dist_squared, outside, box_dist, box_dist_squared}

-- ---- of two points

sum_nan : (x : Float) → x ⊕ nan ≡ nan
unfolding Ieee.add
sum_nan nan = refl
sum_nan (inf s) = refl
sum_nan (fin s m e) = refl

nan_square : nan ⊗ nan ≡ nan
unfolding Ieee.mul
nan_square = refl

nan_first : (y : Float) → nan ⊗ nan ⊕ y ≡ nan
unfolding Ieee.mul Ieee.add
nan_first y = refl

other : ne nan nan ≡ false → ⊥
unfolding Ieee.ne Ieee.eq
other e = subst T e tt

numbers : (a b : Float) → ne (a ⊗ a ⊕ b ⊗ b) (a ⊗ a ⊕ b ⊗ b) ≡ false → (is_nan a ≡ false) × (is_nan b ≡ false)
numbers a b n = (by_bool (is_nan a) (λ e. absurd (first a b e n)) (λ e. e), by_bool (is_nan b) (λ e. absurd (second a b e n)) (λ e. e))
  where
    is : (a : Float) → is_nan a ≡ true → a ≡ nan
    is nan e = refl
    is (inf s) e = absurd (true≢false (sym (unfold is_nan in e)))
    is (fin s m x) e = absurd (true≢false (sym (unfold is_nan in e)))

    first : (a b : Float) → is_nan a ≡ true → ne (a ⊗ a ⊕ b ⊗ b) (a ⊗ a ⊕ b ⊗ b) ≡ false → ⊥
    first a b e n = let w : a ⊗ a ⊕ b ⊗ b ≡ nan = rw (is a e) (nan_first (b ⊗ b)) in other (rw w at n)

    second : (a b : Float) → is_nan b ≡ true → ne (a ⊗ a ⊕ b ⊗ b) (a ⊗ a ⊕ b ⊗ b) ≡ false → ⊥
    second a b e n = let w : a ⊗ a ⊕ b ⊗ b ≡ nan = rw (is b e) (ap (λ (z : Float). a ⊗ a ⊕ z) nan_square ∙ sum_nan (a ⊗ a)) in other (rw w at n)

zero-plain : Plain f0
zero-plain = bits-plain 0 (omega arith)

pub dist-plain : (p o : «V») → Plain (dist_squared p o)
dist-plain p o = by_bool (ne q q) (λ n. rw n zero-plain) (λ n. let k = numbers (sub p o).x (sub p o).y n in rw n (squares-plain (sub p o).x (sub p o).y k.0 k.1))
  where
    q : Float
    q = squares (sub p o)

root_nan : root nan ≡ root f0
unfolding root root_of is_nan of_bits Ieee.to_bits
root_nan = refl

pub dist-root : (p o : «V») → dist p o ≡ root (dist_squared p o)
dist-root p o = by_bool (ne q q) (λ n. rw n (ap root (is_nan_lem q n) ∙ root_nan)) (λ n. rw n)
  where
    q : Float
    q = squares (sub p o)

-- by what the code has: d the way from o to p
pub squared_none : (p o d : «V») → d ≡ sub p o → ne (squares d) (squares d) ≡ true → f0 ≡ dist_squared p o
squared_none p o d e t = sym (ap (λ (v : «V»). cond (ne (squares v) (squares v)) f0 (squares v)) (sym e) ∙ rw t)

pub squared_some : (p o d : «V») → d ≡ sub p o → ne (squares d) (squares d) ≡ false → squares d ≡ dist_squared p o
squared_some p o d e t = sym (ap (λ (v : «V»). cond (ne (squares v) (squares v)) f0 (squares v)) (sym e) ∙ rw t)

-- ---- of a point and a box

zero_num : is_nan f0 ≡ false
unfolding of_bits is_nan
zero_num = refl

above_zero : (x : Float) → is_nan (max x f0) ≡ false
above_zero x = by_bool (ne x x) (λ e. rw e zero_num) (λ e. by_bool (lt x f0) (λ l. rw (e, l) zero_num) (λ l. rw (e, l) (is_num x e)))

outside_num : (low high v : Float) → is_nan (outside low high v) ≡ false
unfolding outside
outside_num low high v = above_zero _

-- ---- below a bound: t is the bound's bits, and s those of its square

module _ (s t : ℕ) (f : FirstRoot s t) where
  pub near_squared : (p o : «V») → lt (dist p o) (of_bits binary64 t) ≡ lt (dist_squared p o) (of_bits binary64 s)
  near_squared p o = ap (λ (d : Float). lt d (of_bits binary64 t)) (dist-root p o) ∙ root_lt_first root root_is s t (dist_squared p o) (dist-plain p o) f

  pub box_near_squared : (r : Rect) (p : «V») → lt (box_dist r p) (of_bits binary64 t) ≡ lt (box_dist_squared r p) (of_bits binary64 s)
  box_near_squared r p =
      let x = outside r.x0 r.x1 p.x in
      let y = outside r.y0 r.y1 p.y in
      root_lt_first root root_is s t (x ⊗ x ⊕ y ⊗ y) (squares-plain x y (outside_num r.x0 r.x1 p.x) (outside_num r.y0 r.y1 p.y)) f
