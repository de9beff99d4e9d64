-- What the calls write, one after the other, is the text of the definitions; tests in a row are their `and`. Assumes nothing.
use mathlib.Core.Path.{◌≡◌, refl, sym, ap, ◌∙◌}
use mathlib.Core.Bool.{Bool, true, false, ◌&&◌}
use mathlib.Core.List.{List, [], ◌∷◌, ◌++◌, append_assoc, append-nil}
use Prim.Native.Nat.{ℕ}
use lib.Ieee.{Float}
use Rattle.float.specs.Ops.{neg}
use Rattle.float.specs.Constants.{arrow_length, arrow_half_width}
use Rattle.number.specs.Number.{num_text}
use Rattle.shape.specs.declared.«V».{«V»}
use Rattle.shape.specs.declared.Curve.TheVariants.{Line, Quad, Cubic}
use Rattle.shape.specs.Plane.{vec, add, sub, mul, polar}
use Rattle.svg.specs.declared.Head.{Head}
use Rattle.svg.specs.Paths.{head_of, head_path, curve_path, point_text, points_text, more_text, path_text, curve_text, head_text, point_writable, points_writable, path_writable}

-- ---- a test and then another
two : (a b : Bool) → ((a && true) && ((b && true) && true)) ≡ (a && b)
two true true = refl
two true false = refl
two false b = refl

three : (a c b : Bool) → ((a && true) && ((c && (b && true)) && true)) ≡ ((a && c) && b)
three true true true = refl
three true true false = refl
three true false b = refl
three false c b = refl

four : (a c d b : Bool) → ((a && true) && ((c && (d && (b && true))) && true)) ≡ ((a && c) && (d && b))
four true true true true = refl
four true true true false = refl
four true true false b = refl
four true false d b = refl
four false c d b = refl

corners : (a b c : Bool) → ((a && true) && ((b && true) && ((c && true) && (true && true)))) ≡ ((a && b) && c)
corners true true true = refl
corners true true false = refl
corners true false c = refl
corners false b c = refl

pub line_writable : (a b : «V») → path_writable (curve_path (Line a b)) ≡ (point_writable a && point_writable b)
unfolding path_writable points_writable
line_writable a b = two (point_writable a) (point_writable b)

pub quad_writable : (a c b : «V») → path_writable (curve_path (Quad a c b)) ≡ ((point_writable a && point_writable c) && point_writable b)
unfolding path_writable points_writable
quad_writable a c b = three (point_writable a) (point_writable c) (point_writable b)

pub cubic_writable : (a c d b : «V») → path_writable (curve_path (Cubic a c d b))
    ≡ ((point_writable a && point_writable c) && (point_writable d && point_writable b))
unfolding path_writable points_writable
cubic_writable a c d b = four (point_writable a) (point_writable c) (point_writable d) (point_writable b)

pub head_writable : (h : Head) → path_writable (head_path h) ≡ ((point_writable h.tip && point_writable h.left) && point_writable h.right)
unfolding path_writable points_writable
head_writable h = corners (point_writable h.tip) (point_writable h.left) (point_writable h.right)

-- ---- the arrowhead
pub head_is : (tip ahead long base across side left right : «V») (angle : Float) → ahead ≡ polar angle → long ≡ mul ahead arrow_length → base ≡ sub tip long
    → across ≡ vec (neg ahead.y) ahead.x → side ≡ mul across arrow_half_width → left ≡ add base side → right ≡ sub base side
    → ◌≡◌ {A = Head} (record { tip = tip; left = left; right = right }) (head_of tip angle)
unfolding head_of
head_is tip ahead long base across side left right angle e1 e2 e3 e4 e5 e6 e7 = rw (e7, e6, e5, e4, e3, e2, e1)

-- ---- texts
pub point_is : (p : «V») → (32 ∷ []) ++ num_text p.x ++ (32 ∷ []) ++ num_text p.y ≡ point_text p
unfolding point_text
point_is p = append_assoc ((32 ∷ []) ++ num_text p.x) (32 ∷ []) (num_text p.y)

pub from_is : (a b : «V») (letter : ℕ) → (77 ∷ []) ++ point_text a ++ (32 ∷ letter ∷ []) ++ point_text b ≡ 77 ∷ point_text a ++ (32 ∷ letter ∷ point_text b)
from_is a b letter = append_assoc ((77 ∷ []) ++ point_text a) (32 ∷ letter ∷ []) (point_text b)

pub line_text_is : (a b : «V») → 77 ∷ point_text a ++ (32 ∷ 76 ∷ point_text b) ≡ curve_text (Line a b)
unfolding curve_text path_text more_text points_text
line_text_is a b =
    let p = point_text a in
    let q = point_text b in
    sym
    (ap (λ (l : List ℕ). 77 ∷ l ++ (32 ∷ 76 ∷ (q ++ [] ++ []))) (append-nil p)
    ∙ ap (λ (l : List ℕ). 77 ∷ p ++ (32 ∷ 76 ∷ l)) (append-nil (q ++ []) ∙ append-nil q))

pub quad_is : (a c b : «V») → (77 ∷ point_text a ++ (32 ∷ 81 ∷ point_text c)) ++ point_text b ≡ curve_text (Quad a c b)
unfolding curve_text path_text more_text points_text
quad_is a c b = simp (append_assoc, append-nil)

pub cubic_is : (a c d b : «V») → (77 ∷ point_text a ++ (32 ∷ 67 ∷ point_text c)) ++ point_text d ++ point_text b ≡ curve_text (Cubic a c d b)
unfolding curve_text path_text more_text points_text
cubic_is a c d b = simp (append_assoc, append-nil)

pub triangle_is : (tip : «V») (angle : Float) (h : Head) → h ≡ head_of tip angle
    → (77 ∷ point_text h.tip ++ (32 ∷ 76 ∷ point_text h.left)) ++ (32 ∷ 76 ∷ []) ++ point_text h.right ++ (32 ∷ 90 ∷ []) ≡ head_text tip angle
unfolding head_text
triangle_is tip angle h e = rw (← e) (go h)
  where
    go : (h : Head) → (77 ∷ point_text h.tip ++ (32 ∷ 76 ∷ point_text h.left)) ++ (32 ∷ 76 ∷ []) ++ point_text h.right ++ (32 ∷ 90 ∷ []) ≡ path_text (head_path h)
    go h = unfold path_text more_text points_text in (simp (append_assoc, append-nil))
