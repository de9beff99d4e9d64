-- Well-formed UTF-8 and its code points: Tables 3-7 and 3-6 of the Unicode Standard.
use Rattle.std.specs.Prelude.{Bool, true, false, cond, ◌&&◌, List, [], ◌∷◌, ℕ, ◌+◌, ◌*◌, ◌%◌, leb, ltb}
use Rattle.std.proofs.Math.Option.{Option, none, some}
use Rattle.laws.specs.Loops.{over}

-- the bytes from lo to hi
pub record Range : Type 0 where
  pub lo : ℕ
  pub hi : ℕ

abbrev pub to : ℕ → ℕ → Range
to a b = record { lo = a; hi = b }

-- Table 3-7: for each row the range of each byte, first to last
abbrev pub rows : List (List Range)
rows =
    (to 0x00 0x7f ∷ [])
    ∷ (to 0xc2 0xdf ∷ to 0x80 0xbf ∷ [])
    ∷ (to 0xe0 0xe0 ∷ to 0xa0 0xbf ∷ to 0x80 0xbf ∷ [])
    ∷ (to 0xe1 0xec ∷ to 0x80 0xbf ∷ to 0x80 0xbf ∷ [])
    ∷ (to 0xed 0xed ∷ to 0x80 0x9f ∷ to 0x80 0xbf ∷ [])
    ∷ (to 0xee 0xef ∷ to 0x80 0xbf ∷ to 0x80 0xbf ∷ [])
    ∷ (to 0xf0 0xf0 ∷ to 0x90 0xbf ∷ to 0x80 0xbf ∷ to 0x80 0xbf ∷ [])
    ∷ (to 0xf1 0xf3 ∷ to 0x80 0xbf ∷ to 0x80 0xbf ∷ to 0x80 0xbf ∷ [])
    ∷ (to 0xf4 0xf4 ∷ to 0x80 0x8f ∷ to 0x80 0xbf ∷ to 0x80 0xbf ∷ [])
    ∷ []

abbrev pub in_range : ℕ → Range → Bool
in_range b r = leb r.lo b && leb b r.hi

-- What must still come: the ranges of the bytes that the character lacks. `none` after an ill-formed byte.
abbrev pub Awaited : Type 0
Awaited = Option (List Range)

-- the rest of the first row whose first range has b
abbrev pub lookup : ℕ → List (List Range) → Awaited
lookup b [] = none
lookup b ([] ∷ rs) = lookup b rs
lookup b ((r ∷ row) ∷ rs) = let later = lookup b rs in cond (in_range b r) (some row) later

-- one byte
abbrev pub by_table : Awaited → ℕ → Awaited
by_table none b = none
by_table (some []) b = lookup b rows
by_table (some (r ∷ row)) b = cond (in_range b r) (some row) none

-- no byte is lacking
abbrev pub is_done : Awaited → Bool
is_done none = false
is_done (some []) = true
is_done (some (r ∷ row)) = false

-- a text is a run of whole characters
abbrev pub well_formed : List ℕ → Bool
well_formed s = is_done (over by_table (some []) s)

-- Table 3-6: the bits that a character's first byte brings, 7 where it is the only byte, else 5, 4 or 3
unfoldable pub payload : ℕ → ℕ
payload b = cond (ltb b 0x80) b (cond (ltb b 0xe0) (b % 32) (cond (ltb b 0xf0) (b % 16) (b % 8)))

-- the value so far, v, and one byte more: a later byte brings 6 bits
abbrev pub gathered_code : Awaited → ℕ → ℕ → ℕ
gathered_code none v b = v
gathered_code (some []) v b = payload b
gathered_code (some (r ∷ row)) v b = 64 * v + b % 64

-- a character's code point is the value gathered when no byte is lacking any more
unfoldable pub codes_from : Awaited → ℕ → List ℕ → List ℕ
codes_from w v [] = []
codes_from w v (b ∷ s) =
    let w' = by_table w b in
    let v' = gathered_code w v b in
    let rest = codes_from w' v' s in
    cond (is_done w') (v' ∷ rest) rest

-- the code points of a text, in order
abbrev pub code_points : List ℕ → List ℕ
code_points s = codes_from (some []) 0 s
