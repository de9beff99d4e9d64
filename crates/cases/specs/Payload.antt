-- What stands in a case's payload, a list of bytes, and document 01's comparison of numbers.
use Rattle.std.specs.Prelude.{ℕ, zero, suc, ◌+◌, ◌*◌, ◌%◌, ◌^◌, Bool, cond, ◌&&◌, List, [], ◌∷◌, length, ◌==◌, from_bits, slice_index, to_bits, Float}
use Rattle.std.specs.Float.{binary64}
use Rattle.float.specs.Constants.{f0}
use Rattle.float.specs.Ops.{eq}

-- ---- places and numbers

-- the place n bytes on, as a usize
abbrev pub after : ℕ → ℕ → ℕ
after at n = (at + n) % 2 ^ 64

-- the byte at a place, 0 past the end
abbrev pub payload_byte : List ℕ → ℕ → ℕ
payload_byte p at = slice_index p at

-- the number in two, four and eight bytes, the least first
unfoldable pub word_at : List ℕ → ℕ → ℕ
word_at p at = payload_byte p at + 256 * payload_byte p (after at 1)

unfoldable pub long_at : List ℕ → ℕ → ℕ
long_at p at = word_at p at + 65536 * word_at p (after at 2)

unfoldable pub bits_at : List ℕ → ℕ → ℕ
bits_at p at = long_at p at + 4294967296 * long_at p (after at 4)

-- a float is its eight bytes, the least first
unfoldable pub float_at : List ℕ → ℕ → Float
float_at p at = from_bits binary64 (bits_at p at)

-- n things of w bytes, one after the other
unfoldable pub each : {A : Type 0} → ℕ → (ℕ → A) → ℕ → ℕ → List A
each w read at zero = []
each w read at (suc n) = read at ∷ each w read (after at w) n

abbrev pub floats_at : List ℕ → ℕ → ℕ → List Float
floats_at p at n = each 8 (float_at p) at n

abbrev pub sizes_at : List ℕ → ℕ → ℕ → List ℕ
sizes_at p at n = each 8 (bits_at p) at n

-- ---- the comparison

-- "Comparison is bit for bit, but zeros of either sign are equal."
unfoldable pub alike : Float → Float → Bool
alike a b = cond (eq a f0) (eq b f0) (to_bits binary64 a == to_bits binary64 b)

unfoldable pub same_float : List ℕ → ℕ → Float → Bool
same_float p at v = alike (float_at p at) v

-- the answer, a float, stands at a place, and nothing behind it
unfoldable pub answer_stands : List ℕ → ℕ → Float → Bool
answer_stands p at v = length p == at + 8 && same_float p at v
