-- The sign bit, and what it says of abs; finite numbers by their size. Assumes nothing.
use Rattle.std.specs.Prelude.{◌≡◌, true, false, ◌^◌, T, leb, Float}
use Rattle.std.proofs.Math.Path.{refl}
use Rattle.std.proofs.Common.{subst, arith, le-leb}
use Rattle.std.proofs.lemmas.Bool.{lt-leb}
use Rattle.std.specs.Float.{nan, inf, fin, binary64}
use Rattle.std.specs.Float.Ieee.{fits, to_bits, of_bits}
use Rattle.std.specs.Float.Ieee as Ieee
use Rattle.std.specs.Float.Ieee.Scale.{finite}
use Rattle.remainder.specs.Unique.{fits_sign, signed-bits, low_bits}
use Rattle.laws.specs.Between.{self_inf, self_num}
use Rattle.float.specs.Ops.{neg, lt, ne}
use Rattle.float.specs.Constants.{infinity}
use Rattle.float.specs.Standins.{negative, abs}

-- the sign bit is the highest
pub sign_bit : (v : Float) → T (fits binary64 v) → ne v v ≡ false → leb (2 ^ 63) (to_bits binary64 v) ≡ negative v
unfolding Ieee.ne Ieee.eq
sign_bit nan h e = absurd (subst T e tt)
sign_bit (inf true) h e = unfold to_bits in refl
sign_bit (inf false) h e = unfold to_bits in refl
sign_bit (fin true m x) h e = le-leb (2 ^ 63) (to_bits binary64 (fin true m x)) (omega (arith, signed-bits m x))
sign_bit (fin false m x) h e = lt-leb (2 ^ 63) (to_bits binary64 (fin false m x)) (low_bits m x (fits_sign false true m x h))

pub abs-negative : (v : Float) → negative v ≡ true → neg v ≡ abs v
unfolding Ieee.neg
abs-negative nan e = refl
abs-negative (inf s) e = rw e
abs-negative (fin s m x) e = rw e

pub abs-other : (v : Float) → negative v ≡ false → v ≡ abs v
abs-other nan e = refl
abs-other (inf s) e = rw e
abs-other (fin s m x) e = rw e

pub abs_num : (v a : Float) → a ≡ abs v → ne v v ≡ false → ne a a ≡ false
abs_num v a e h = rw e (go v h)
  where
    go : (v : Float) → ne v v ≡ false → ne (abs v) (abs v) ≡ false
    go nan h = h
    go (inf s) h = self_inf false
    go (fin s m x) h = self_num false m x

-- ---- finite, by the test against infinity
pub finite_test : (v : Float) → lt (abs v) infinity ≡ finite v
unfolding Ieee.lt of_bits
finite_test nan = refl
finite_test (inf s) = refl
finite_test (fin s m e) = refl
