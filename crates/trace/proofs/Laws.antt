-- A curve's samples as a list of the library's, and traces whose bounds lie apart. Assumes nothing.
use Rattle.std.specs.Prelude.{◌≡◌, ℕ, zero, suc, Bool, true, false, ◌&&◌, List, ◌∷◌, map}
use Rattle.std.proofs.Common.{refl, ap, ◌∙◌, sym}
use Rattle.std.proofs.Math.Numerals.{add-one}
use Rattle.std.specs.List.{range_with_len}
use Rattle.laws.specs.Flat.{table}
use Rattle.shape.specs.declared.Rect.{Rect}
use Rattle.shape.specs.declared.Curve.{Curve}
use Rattle.shape.specs.Plane.{touches}
use Rattle.trace.specs.Traces.{Trace, sample, foreign, hits_rect, struck, crosses, crossed}

pub table_list : {A : Type 0} (f : ℕ → A) (k n : ℕ) → table f k n ≡ map f (range_with_len k n)
unfolding table
table_list {A} f k zero = refl
table_list {A} f k (suc n) = ap (λ (l : List A). f k ∷ l) (table_list f (suc k) n ∙ ap (λ (j : ℕ). map f (range_with_len j n)) (sym (add-one k)))

pub curve_samples : (c : Curve) → table (sample c) 0 17 ≡ map (sample c) (range_with_len 0 17)
curve_samples c = table_list (sample c) 0 17

and_false : (b : Bool) → (b && false) ≡ false
and_false true = refl
and_false false = refl

-- what the bounds of a trace do not touch it does not meet
pub apart_struck : (own : ℕ) (r : Rect) (t : Trace) → touches t.bounds r ≡ false → struck own r t ≡ false
unfolding struck hits_rect
apart_struck own r t e = rw e (and_false (foreign own t))

pub apart_crossed : (own : ℕ) (looped t : Trace) → touches t.bounds looped.bounds ≡ false → crossed own looped t ≡ false
unfolding crossed crosses
apart_crossed own looped t e = rw e (and_false (foreign own t))
