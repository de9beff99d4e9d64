-- Label blocks worked out: the one of the Rust's documentation, accents and what stands beside them, and each refusal. Assumes nothing.
use Rattle.std.specs.Prelude.{Float, ℕ, Bool, false, ◌&&◌, T, List, [], ◌∷◌, ◌++◌, replicate, ◌==◌}
use mathlib.Core.List.{flat_map}
use Rattle.std.specs.Float.{binary64}
use Rattle.std.specs.Float.Ieee.{to_bits, of_bits, of_fields, of_int, round, add, mul, lt, eq, ne, size, span, climb, units, odd, sum, is_nan}
use Rattle.laws.specs.Loops.{over}
use Rattle.laws.specs.Refusals.{decide}
use Rattle.laws.specs.Any.{any_of}
use Rattle.text.specs.Utf8.{payload, codes_from}
use Rattle.text.specs.Encode.{utf8}
use Rattle.sheet.specs.Refusals.{main_screen}
use Rattle.text.specs.Ascii.{ascii}
use Rattle.label.specs.Label.{char_width, line_width, wider_line, cut, total_length, sized}
use Rattle.refusal.specs.Refused.{Outcome, values, number}

-- the answer is a width and a height with these bits
abbrev is_size : ℕ → ℕ → Outcome (Float × Float) → Bool
is_size a b (values (w, h)) = to_bits binary64 w == a && to_bits binary64 h == b
is_size a b (number n) = false

-- the answer is the refusal with this number
abbrev is_refused : ℕ → Outcome (Float × Float) → Bool
is_refused k (values a) = false
is_refused k (number n) = n == k

-- at the main screen's limits
abbrev gives : List ℕ → List ℕ → ℕ → ℕ → Bool
gives text lengths w h = is_size w h (sized main_screen text lengths)

abbrev refuses : List ℕ → List ℕ → ℕ → Bool
refuses text lengths n = is_refused n (sized main_screen text lengths)

-- `↦` and `␣` in UTF-8
abbrev maps_to : List ℕ
maps_to = 0xe2 ∷ 0x86 ∷ 0xa6 ∷ []

abbrev open_box : List ℕ
open_box = 0xe2 ∷ 0x90 ∷ 0xa3 ∷ []

-- U+0300 and U+036F
abbrev grave : List ℕ
grave = 0xcc ∷ 0x80 ∷ []

abbrev last_accent : List ℕ
last_accent = 0xcd ∷ 0xaf ∷ []

-- n times U+0300
abbrev graves : ℕ → List ℕ
graves n = flat_map utf8 (replicate n 0x300)

-- `a ↦ b, R` and `␣ ↦ ␣, L`
abbrev first : List ℕ
first = ascii "a " ++ maps_to ++ ascii " b, R"

abbrev second : List ℕ
second = open_box ++ ascii " " ++ maps_to ++ ascii " " ++ open_box ++ ascii ", L"

pub worked_labels : T (
    gives [] [] 0 0
    && gives (first ++ second) (10 ∷ 14 ∷ []) 0x4052000000000000 0x403e000000000000
    && gives first (10 ∷ []) 0x404f333333333334 0x402e000000000000
    && gives [] (0 ∷ 0 ∷ 0 ∷ 0 ∷ 0 ∷ 0 ∷ 0 ∷ 0 ∷ []) 0 0x405e000000000000
    && refuses [] (0 ∷ 0 ∷ 0 ∷ 0 ∷ 0 ∷ 0 ∷ 0 ∷ 0 ∷ 0 ∷ []) 5
    && refuses (replicate 97 0x61) (97 ∷ []) 5
    && refuses first (9 ∷ []) 5
    && refuses first (11 ∷ []) 5
    && refuses first (18446744073709551615 ∷ 11 ∷ []) 5
    && refuses first (4 ∷ 6 ∷ []) 6
    && refuses (0xed ∷ 0xa0 ∷ 0x80 ∷ []) (3 ∷ []) 6
    && refuses (0xff ∷ []) (2 ∷ []) 5
    && gives (grave ++ last_accent) (4 ∷ []) 0 0x402e000000000000
    && gives (grave ++ last_accent) (2 ∷ 2 ∷ []) 0 0x403e000000000000
    && gives (last_accent ++ ascii "a" ++ grave ++ grave) (7 ∷ []) 0x401ccccccccccccc 0x402e000000000000
    && gives (0xcb ∷ 0xbf ∷ []) (2 ∷ []) 0x4028000000000000 0x402e000000000000
    && gives (0xcd ∷ 0xb0 ∷ []) (2 ∷ []) 0x4028000000000000 0x402e000000000000
    && gives (graves 48) (96 ∷ []) 0 0x402e000000000000
    && refuses (graves 49) (98 ∷ []) 5
    && refuses grave (1 ∷ 1 ∷ []) 6
    )
unfolding sized decide any_of cut total_length flat_map utf8 line_width wider_line char_width payload codes_from over add mul lt eq ne of_int round size span climb units odd sum of_bits of_fields to_bits is_nan
worked_labels = tt
