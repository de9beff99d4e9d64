-- The square root of a binary64 that is finite and above zero, from exponent and significand bits, by comparing whole-number squares:
-- "the f64 nearest the exact square root of v, worked out from exponent and significand bits with whole numbers".
use Rattle.std.specs.Prelude.{cond, ℕ, zero, suc, ◌+◌, ◌-◌, ◌*◌, ◌/◌, ◌%◌, ◌^◌, leb, ltb, eqb}
use Rattle.root.specs.declared.Scaled.{Scaled}

-- The digit 2 ^ k joins q where the square then is at most n.
abbrev pub with_digit : ℕ → ℕ → ℕ → ℕ
with_digit n k q = cond (leb ((q + 2 ^ k) * (q + 2 ^ k)) n) (q + 2 ^ k) q

-- q, with each of the k lowest binary digits tried, the highest first
unfoldable pub try_digits : ℕ → ℕ → ℕ → ℕ
try_digits n zero q = q
try_digits n (suc k) q = try_digits n k (with_digit n k q)

-- The whole root: the largest q with q * q ≤ n, for n below 2 ^ 106 (`whole-root` of Nearest).
unfoldable pub whole_root : ℕ → ℕ
whole_root n = try_digits n 53 0

-- The whole number nearest to the exact root: up where q + 1/2 is at most that root. There is no tie: the odd square (2 q + 1) * (2 q + 1) is never 4 n (`no_tie` of Nearest).
unfoldable pub nearest_root : ℕ → ℕ
nearest_root n = let q = whole_root n in cond (leb ((2 * q + 1) * (2 * q + 1)) (4 * n)) (q + 1) q

-- `Scaled` is a significand s shifted up to 2 ^ 52 or more, and its exponent e, which falls along.
unfoldable pub scale : ℕ → ℕ → ℕ → Scaled
scale zero s e = record { s = s; e = e }
scale (suc k) s e = let more = scale k (2 * s) (e - 1) in cond (ltb s (2 ^ 52)) more (record { s = s; e = e })

-- The significand and the exponent of the bits b. Exponents count from 64 more than the field has, so that a subnormal number's stay above zero.
abbrev pub scaled : ℕ → Scaled
scaled b = cond (eqb (b / 2 ^ 52) 0) (scale 52 (b % 2 ^ 52) 65) (record { s = 2 ^ 52 + b % 2 ^ 52; e = b / 2 ^ 52 + 64 })

-- the significand that goes with an odd exponent, whose power of two then is a square
abbrev pub evened : Scaled → ℕ
evened c = cond (eqb (c.e % 2) 1) c.s (2 * c.s)

-- the exponent's field and the significand p, whose leading place adds one to the field
abbrev pub packed : ℕ → ℕ → ℕ
packed e p = ((e + 959) / 2 - 1) * 2 ^ 52 + p

-- The bits of the root from those of a number that is finite and above zero. That they are the nearest binary64's is `root_closest` of Closest.
unfoldable pub root_bits : ℕ → ℕ
root_bits b = let c = scaled b in packed c.e (nearest_root (evened c * 2 ^ 52))
