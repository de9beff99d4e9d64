-- A written number, in whole hundredths: "at most two decimals, no trailing zeros, never `-0`; not finite gives `0`".
use Rattle.std.specs.Prelude.{ℕ, ◌+◌, ◌/◌, ◌%◌, Bool, true, false, cond, not, ◌&&◌, List, [], ◌∷◌, ◌++◌, ◌==◌, Float}
use Prim.Native.Char.{code}
use Rattle.std.specs.Float.Ieee.{to_unsigned}
use Rattle.std.specs.Float.Ieee.Scale.{finite}
use Rattle.laws.specs.Writers as W
use Rattle.float.specs.Ops.{◌⊗◌, lt, le}
use Rattle.float.specs.Constants.{f100, f1e13}
use Rattle.float.specs.Standins.{negative, abs, round}
use Rattle.text.specs.Digits.{digits}
use Rattle.text.specs.Ascii.{ascii}
use Rattle.refusal.specs.Refused.{Outcome, values, number}

-- Refusal 10: "a finite number of size 10^13 or more to be written"
abbrev pub too_large : Float → Bool
too_large v = finite v && le f1e13 (abs v)

abbrev pub writable : Float → Bool
writable v = not (too_large v)

-- ---- the hundredths of a number

-- v · 100 rounded, "round goes half away from zero", its size as a whole number; 0 where v is not finite.
-- A number that refusal 10 stops has 0 here too: callers refuse it first.
unfoldable pub rounded_size : Float → ℕ
rounded_size v = cond (lt (abs v) f1e13) (to_unsigned 64 (abs (round (v ⊗ f100)))) 0

-- a number of hundredths, below zero where minus holds
pub record Hundredths : Type 0 where
  pub minus : Bool
  pub size : ℕ

-- "never -0"
abbrev pub signed : Bool → ℕ → Hundredths
signed s n = record { minus = s && not (n == 0); size = n }

abbrev pub hundredths : Float → Hundredths
hundredths v = signed (negative v) (rounded_size v)

-- ---- their text

unfoldable pub minus_text : Bool → List ℕ
minus_text true = ascii "-"
minus_text false = []

-- the point and the digits after it, for n below 100
unfoldable pub fraction : ℕ → List ℕ
fraction n =
    cond (n == 0) []
    (cond (n % 10 == 0) (code "." ∷ (code "0" + n / 10) ∷ [])
    (code "." ∷ (code "0" + n / 10) ∷ (code "0" + n % 10) ∷ []))

unfoldable pub decimal : Hundredths → List ℕ
decimal h = minus_text h.minus ++ digits (h.size / 100) ++ fraction (h.size % 100)

-- The text of v; `0` where v is not finite. A number that refusal 10 stops has the text `0` here too: callers refuse it first.
unfoldable pub num_text : Float → List ℕ
num_text v = decimal (hundredths v)

-- ---- the call `write_num`

-- the length; 10 comes before 7, "a lent output shorter than the answer"
unfoldable pub written : Float → ℕ → Outcome ℕ
written v room = cond (too_large v) (number 10) (W.answer values (number 7) (num_text v) room)

-- the text and what stood after it; as before where the call is refused
unfoldable pub written_after : Float → List ℕ → List ℕ
written_after v out = cond (too_large v) out (W.written_over (num_text v) out)
