-- The column that holds a state, a step of each loop over slices, and its end. Assumes nothing.
use mathlib.Core.Path.{◌≡◌, refl, sym, ap, ap₂, ◌∙◌}
use mathlib.Core.List.{List, [], ◌∷◌, map}
use Prim.Native.Nat.{ℕ, ◌+◌}
use native.Mathlib.Omega.{arith}
use lib.ListN.{get_or, drop, set, replicate}
use lib.Seq.{drop-drop, get_or-drop, drop-set-lt}
use lib.Ieee.{Float}
use Rattle.std.specs.List.{position_or_len}
use Rattle.laws.specs.Cases.{by_bool}
use Rattle.laws.specs.Loops.{over}
use Rattle.laws.specs.Zip.{zip_by}
use Rattle.float.specs.Constants.{f0}
use Rattle.float.specs.Ops.{◌⊗◌, of_nat}
use Rattle.shape.specs.declared.«V».{«V»}
use Rattle.shape.specs.Plane.{vec}
use Rattle.shape.specs.Centres.{centres}
use Rattle.sheet.specs.declared.Ends.{Ends}
use Rattle.columns.specs.Columns.{elem, state_numbers, columns}
use Rattle.sweep.specs.Sweeps.{Arranged, arranged, centre_column, four_sweeps, swept}
use Rattle.layered.specs.Layered.{column_of, column_gap, row, layered_xs, layered_ys}

-- ---- the column that holds a state
pub column_place : (v : ℕ) (cs : List (List ℕ)) → position_or_len (elem v) cs ≡ column_of cs v
unfolding column_of
column_place v [] = refl
column_place v (c ∷ cs) = by_bool (elem v c) (λ t. rw t) (λ t. rw t (omega (arith, column_place v cs)))

-- ---- what is still to be read is as it was
module _ {A : Type 0} (l l₀ : List A) (i : ℕ) where
  pub rest_read : (d : A) → drop i l ≡ drop i l₀ → get_or l i d ≡ get_or l₀ i d
  rest_read d e =
      let z : i ≡ i + 0 = omega arith in
      ap (λ (j : ℕ). get_or l j d) z ∙ sym (get_or-drop i l 0 d) ∙ ap (λ (r : List A). get_or r 0 d) e ∙ get_or-drop i l₀ 0 d
      ∙ ap (λ (j : ℕ). get_or l₀ j d) (sym z)

  pub rest-set : (x : A) → drop i l ≡ drop i l₀ → drop (i + 1) (set l i x) ≡ drop (i + 1) l₀
  rest-set x e = drop-set-lt (i + 1) l i x (omega arith) ∙ sym (drop-drop 1 i l) ∙ ap (drop 1) e ∙ drop-drop 1 i l₀

-- ---- the centres, by what each step leaves

-- x from f and y 0, then y from the slots
placed : (f : ℕ → Float) (r : Float) (vs : List ℕ) (ss : List Float)
    → zip_by (λ p s. vec p.x (s ⊗ r)) (map (λ v. vec (f v) f0) vs) ss ≡ centres (map f vs) (map (λ s. s ⊗ r) ss)
unfolding zip_by
placed f r [] ss = refl
placed f r (v ∷ vs) [] = refl
placed f r (v ∷ vs) (s ∷ ss) = ap (λ (l : List «V»). vec (f v) (s ⊗ r) ∷ l) (placed f r vs ss)

module _ (n start : ℕ) (arrows : List Ends) (cs : List (List ℕ)) (w h : Float) (c : cs ≡ columns n arrows start) where
  pub centres_are : (g r : Float) (ds : List (List ℕ)) (p q : List «V») (y : List Float) → g ≡ column_gap w → r ≡ row h
      → p ≡ map (λ v. vec (of_nat (column_of cs v) ⊗ g) f0) (state_numbers n)
      → arranged ds y ≡ four_sweeps n arrows (arranged cs (over centre_column (replicate n f0) cs))
      → q ≡ zip_by (λ a s. vec a.x (s ⊗ r)) p y → q ≡ centres (layered_xs n start arrows w) (layered_ys n start arrows h)
  unfolding layered_xs layered_ys swept
  centres_are g r ds p q y eg er ep ey eq =
      let z : y ≡ (four_sweeps n arrows
      (arranged (columns n arrows start) (over centre_column (replicate n f0) (columns n arrows start)))).slots =
      ap (λ (a : Arranged). a.slots) ey
      ∙ ap (λ (d : List (List ℕ)). (four_sweeps n arrows (arranged d (over centre_column (replicate n f0) d))).slots) c in
      eq ∙ ap (λ (l : List «V»). zip_by (λ a s. vec a.x (s ⊗ r)) l y) ep
      ∙ placed (λ v. of_nat (column_of cs v) ⊗ g) r (state_numbers n) y
      ∙ ap₂ centres (ap₂ (λ (d : List (List ℕ)) (x : Float). map (λ v. of_nat (column_of d v) ⊗ x) (state_numbers n)) c eg)
      (ap₂ (λ (x : Float) (l : List Float). map (λ s. s ⊗ x) l) er z)
