-- Operations and comparisons of binary64 under short names. Each operation rounds once.
use Rattle.std.specs.Prelude.{Bool, ℕ, pos, eqb, Float}
use Rattle.std.specs.Float.{binary64}
use Rattle.std.specs.Float.Ieee.{of_int, to_bits}
use Rattle.std.specs.Float.Ieee as Ieee

infixl 6 ◌⊕◌ ◌⊖◌
infixl 7 ◌⊗◌ ◌⊘◌
abbrev pub ◌⊕◌ : Float → Float → Float
a ⊕ b = Ieee.add binary64 a b

abbrev pub ◌⊖◌ : Float → Float → Float
a ⊖ b = Ieee.sub binary64 a b

abbrev pub ◌⊗◌ : Float → Float → Float
a ⊗ b = Ieee.mul binary64 a b

abbrev pub ◌⊘◌ : Float → Float → Float
a ⊘ b = Ieee.div binary64 a b

-- Rust's `%`: exact, with the sign of the first
abbrev pub rem : Float → Float → Float
rem a b = Ieee.rem binary64 a b

abbrev pub neg : Float → Float
neg a = Ieee.neg a

abbrev pub lt : Float → Float → Bool
lt a b = Ieee.lt a b

abbrev pub le : Float → Float → Bool
le a b = Ieee.le a b

abbrev pub eq : Float → Float → Bool
eq a b = Ieee.eq a b

-- a ≠ a holds of NaN alone
abbrev pub ne : Float → Float → Bool
ne a b = Ieee.ne a b

-- a whole number as a float, rounded
abbrev pub of_nat : ℕ → Float
of_nat n = of_int binary64 (pos n)

-- the same number, with the same sign
abbrev pub same_bits : Float → Float → Bool
same_bits a b = eqb (to_bits binary64 a) (to_bits binary64 b)
