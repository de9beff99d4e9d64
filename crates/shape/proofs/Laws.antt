-- Four tests by their sum. Assumes nothing.
use mathlib.Core.Path.{◌≡◌, refl}
use mathlib.Core.Bool.{Bool, true, false, cond, ◌&&◌}
use Prim.Native.Nat.{ℕ, ◌+◌}
use lib.Dec.{eqb}
use Rattle.float.specs.Ops.{lt, le}
use Rattle.shape.specs.declared.Rect.{Rect}
use Rattle.shape.specs.Plane.{overlaps, touches}

-- four tests, each counted as 1 or 0
four_hold : (a b c d : Bool) → eqb (cond a 1 0 + cond b 1 0 + (cond c 1 0 + cond d 1 0)) 4 ≡ (a && b && c && d)
four_hold false false false false = refl
four_hold false false false true = refl
four_hold false false true false = refl
four_hold false false true true = refl
four_hold false true false false = refl
four_hold false true false true = refl
four_hold false true true false = refl
four_hold false true true true = refl
four_hold true false false false = refl
four_hold true false false true = refl
four_hold true false true false = refl
four_hold true false true true = refl
four_hold true true false false = refl
four_hold true true false true = refl
four_hold true true true false = refl
four_hold true true true true = refl

module _ (a b : Rect) (p q u v : ℕ) where
  pub overlaps_is : p ≡ cond (lt a.x0 b.x1) 1 0 → q ≡ cond (lt b.x0 a.x1) 1 0 → u ≡ cond (lt a.y0 b.y1) 1 0 → v ≡ cond (lt b.y0 a.y1) 1 0
      → eqb (p + q + (u + v)) 4 ≡ overlaps a b
  unfolding overlaps
  overlaps_is e f g h = rw (e, f, g, h) (four_hold (lt a.x0 b.x1) (lt b.x0 a.x1) (lt a.y0 b.y1) (lt b.y0 a.y1))

  pub touches_is : p ≡ cond (le a.x0 b.x1) 1 0 → q ≡ cond (le b.x0 a.x1) 1 0 → u ≡ cond (le a.y0 b.y1) 1 0 → v ≡ cond (le b.y0 a.y1) 1 0
      → eqb (p + q + (u + v)) 4 ≡ touches a b
  unfolding touches
  touches_is e f g h = rw (e, f, g, h) (four_hold (le a.x0 b.x1) (le b.x0 a.x1) (le a.y0 b.y1) (le b.y0 a.y1))
