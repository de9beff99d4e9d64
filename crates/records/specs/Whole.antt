-- A whole number as a float, and back. Assumes nothing.
use Rattle.std.specs.Prelude.{◌≡◌, ℕ, cond, ◌+◌, ◌*◌, ◌^◌, ◌<◌, ◌≤◌, true, false, T, pos, Float}
use Rattle.std.proofs.Common.{subst, mul-lt-mul_of_pos_right, arith, lt-ltb, le→leb}
use Rattle.std.specs.Float.{nan, inf, fin, binary64}
use Rattle.std.specs.Float.Ieee.{up, down, of_bits, of_int, round, in_float, to_unsigned}
use Rattle.std.specs.Float.Ieee as Ieee
use Rattle.std.specs.Float.Ieee.Exact.{HasValue}
use Rattle.std.specs.Float.Ieee.Fits.{down_pos}
use Rattle.std.specs.Float.Ieee.Back.{round_whole, unsigned_back}
use Rattle.float.specs.Ops.{lt, neg, of_nat}
use Rattle.float.specs.Constants.{f1, f2e64}

-- a float cut to a whole number; 0 outside −1 .. 2^64
unfoldable pub whole_of : Float → ℕ
whole_of v = cond (lt (neg f1) v) (cond (lt v f2e64) (to_unsigned 64 v) 0) 0

in_range_lem : (x : Float) (n : ℕ) → HasValue x false n 1 → n < 2 ^ 64 → (lt (neg f1) x ≡ true) × (lt x f2e64 ≡ true)
unfolding Ieee.lt Ieee.neg of_bits
in_range_lem nan n v h = absurd v
in_range_lem (inf s) n v h = absurd v
in_range_lem (fin true m e) n v h = absurd (subst T v.0 tt)
in_range_lem (fin false m e) n v h =
    let d : 0 < down e = down_pos e in
    (lt-ltb 0 (1 * up (pos 0) * down e + m * up e * down (pos 0)) (omega arith), lt-ltb (m * up e * down (pos 64)) (1 * up (pos 64) * down e) (omega (arith, v.1, mul-lt-mul_of_pos_right h d)))

pub whole_back : (n : ℕ) → n ≤ 65536 → whole_of (of_nat n) ≡ n
unfolding whole_of in_float of_int
whole_back n h =
    let r = in_range_lem (round binary64 false n 1) n (round_whole binary64 false n (omega arith)) (omega arith) in
    rw (r.0, r.1) (unsigned_back binary64 64 n (le→leb n (2 ^ 53) (omega arith)) (omega arith)).1
