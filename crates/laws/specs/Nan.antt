-- The test for NaN, of a float and of bits. Assumes nothing.
use Rattle.std.specs.Prelude.{◌≡◌, refl, true, false, not, ℕ, ◌*◌, ◌%◌, ◌^◌, ◌<◌, T, Float}
use Rattle.std.proofs.Common.{sym, subst, arith, le-ltb}
use Rattle.std.specs.Float.{nan, inf, fin, binary64}
use Rattle.std.specs.Float.Ieee.{up, down, is_nan, ne, eq, nan_bits}
use Rattle.std.specs.Float.Ieee.Bits.{nan_bits_above}
use Rattle.std.specs.Float.Ieee.Compare.{differs_from_itself}
use Rattle.laws.specs.Between.{level_self}

-- `v != v` is how the code tests for NaN
pub is_nan_lem : (v : Float) → ne v v ≡ true → v ≡ nan
is_nan_lem v e = differs_from_itself v (subst T (sym e) tt)

pub is_num : (v : Float) → ne v v ≡ false → is_nan v ≡ false
unfolding is_nan ne eq
is_num nan e = e
is_num (inf s) e = refl
is_num (fin s m x) e = refl

pub nan_test : (v : Float) → ne v v ≡ is_nan v
unfolding is_nan ne eq
nan_test nan = refl
nan_test (inf true) = refl
nan_test (inf false) = refl
nan_test (fin s m x) = rw (level_self s (m * up x * down x))

pub no_nan : (v : Float) → ne v v ≡ false → T (not (is_nan v))
no_nan v e = rw (is_num v e) tt

-- the bits of a finite number with the sign clear are no NaN's
pub no_nan_bits : (n : ℕ) → n < 2047 * 2 ^ 52 → T (not (nan_bits binary64 n))
no_nan_bits n h = rw (nan_bits_above binary64 n, le-ltb (2047 * 2 ^ 52) (n % 2 ^ 63) (omega arith)) tt
