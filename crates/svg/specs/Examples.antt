-- Texts that are paths by the grammar, with what they are read as, and texts that are none. Assumes nothing.
use Rattle.std.specs.Prelude.{◌≡◌, refl, true, false, List, [], ◌∷◌, ◌++◌, map, ℕ}
use Rattle.std.proofs.Math.Option.{Option, none, some, bind}
use Prim.Native.Char.{Char, code}
use Prim.Native.String.{String}
use Rattle.laws.specs.Loops.{over}
use Rattle.text.specs.Digits.{value}
use Rattle.text.specs.Ascii.{ascii}
use Rattle.number.specs.Reading.{leading, following}
use Rattle.svg.specs.Grammar.{Numeral, numeral, Segment, segment, svg_path, drawto_commands, drawto_command, first_of, lettered, closepath, sequence, sequence_by, ◌then◌, ◌apart◌, comma_wsp, has_comma_wsp, past_comma_wsp, comma, skip, coordinate, svg_number, signed_number, flag, plain_number, exponent_of, point_digits, some_digits, sign, or_else}

-- a whole number, one below zero, one with a decimal; a command
abbrev whole : ℕ → Numeral
whole n = numeral false n 0 false 0

abbrev minus : ℕ → Numeral
minus n = numeral true n 0 false 0

abbrev tenths : ℕ → Numeral
tenths n = numeral false n 1 false 0

abbrev command : Char → List Numeral → Segment
command letter numbers = segment (code letter) numbers

abbrev pub path_examples : List (String × List Segment)
path_examples =
    ("M1,2L3,4", command "M" (whole 1 ∷ whole 2 ∷ []) ∷ command "L" (whole 3 ∷ whole 4 ∷ []) ∷ [])
    ∷ ("M 1 2 3 4", command "M" (whole 1 ∷ whole 2 ∷ whole 3 ∷ whole 4 ∷ []) ∷ [])
    ∷ ("M .5 1", command "M" (tenths 5 ∷ whole 1 ∷ []) ∷ [])
    ∷ ("M .5-1e1z", command "M" (tenths 5 ∷ numeral true 1 0 false 1 ∷ []) ∷ command "z" [] ∷ [])
    ∷ ("M 100-200", command "M" (whole 100 ∷ minus 200 ∷ []) ∷ [])
    ∷ ("M 0.6.5", command "M" (tenths 6 ∷ tenths 5 ∷ []) ∷ [])
    ∷ ("m+1-2.50 , 3\t4E-2\n", command "m" (whole 1 ∷ numeral true 250 2 false 0 ∷ whole 3 ∷ numeral false 4 0 true 2 ∷ []) ∷ [])
    ∷ ("M0 0H1 2v-3", command "M" (whole 0 ∷ whole 0 ∷ []) ∷ command "H" (whole 1 ∷ whole 2 ∷ []) ∷ command "v" (minus 3 ∷ []) ∷ [])
    ∷ (
      "M0 0C1 2 3 4 5 6s1,2 3,4 Q1 2 3 4T5 6",
      command "M" (whole 0 ∷ whole 0 ∷ [])
          ∷ command "C" (whole 1 ∷ whole 2 ∷ whole 3 ∷ whole 4 ∷ whole 5 ∷ whole 6 ∷ [])
          ∷ command "s" (whole 1 ∷ whole 2 ∷ whole 3 ∷ whole 4 ∷ [])
          ∷ command "Q" (whole 1 ∷ whole 2 ∷ whole 3 ∷ whole 4 ∷ [])
          ∷ command "T" (whole 5 ∷ whole 6 ∷ []) ∷ [],
    )
    ∷ (
      "M6 3a25,25 -30 0150,-25",
      command "M" (whole 6 ∷ whole 3 ∷ [])
          ∷ command "a" (whole 25 ∷ whole 25 ∷ minus 30 ∷ whole 0 ∷ whole 1 ∷ whole 50 ∷ minus 25 ∷ []) ∷ [],
    )
    ∷ (" \n", [])
    ∷ []

abbrev pub no_paths : List String
no_paths =
    -- as many digits as there are belong to one number
    "M12"
    -- no moveto first
    ∷ "L 1 2"
    -- half a pair
    ∷ "M 1" ∷ "M 1 2 3" ∷ "M0 0C1 2 3 4 5"
    -- a comma too many
    ∷ "M1,,2" ∷ "M1 2," ∷ "M,1 2" ∷ "M1 2,L3 4"
    -- no digit after the point, no such command, no such flag, a sign before a radius
    ∷ "M1. 2" ∷ "M 1 2 X" ∷ "M6 3a25,25 -30 2,1 50,-25" ∷ "M0 0a-1 1 0 0 0 1 1"
    ∷ []

-- tab, newline, form feed, carriage return, blank
abbrev pub spaces : List ℕ
spaces = 0x9 ∷ 0xA ∷ 0xC ∷ 0xD ∷ 0x20 ∷ []

-- the letters of the commands that a text is read as
abbrev letters : String → Option (List ℕ)
letters t = bind (svg_path (ascii t)) (λ cs. some (map (λ c. c.letter) cs))

pub record Examples : Type 0 where
  pub are : map (λ e. svg_path (ascii e.0)) path_examples ≡ map (λ e. some e.1) path_examples
  -- each kind of white space between two numbers
  pub parted : map (λ b. svg_path (ascii "M1" ++ (b ∷ ascii "2"))) spaces ≡ map (λ b. some (command "M" (whole 1 ∷ whole 2 ∷ []) ∷ [])) spaces
  -- every letter, upper and lower case
  pub upper : letters "M0 0L1 1H1V1C1 1 1 1 1 1S1 1 1 1Q1 1 1 1T1 1A1 1 0 0 0 1 1Z" ≡ some (ascii "MLHVCSQTAZ")
  pub lower : letters "m0 0l1 1h1v1c1 1 1 1 1 1s1 1 1 1q1 1 1 1t1 1a1 1 0 0 0 1 1z" ≡ some (ascii "mlhvcsqtaz")
  pub are_not : map (λ t. svg_path (ascii t)) no_paths ≡ map (λ t. none) no_paths

pub svg_examples : Examples
unfolding svg_path drawto_commands drawto_command first_of lettered closepath sequence sequence_by ◌then◌ ◌apart◌ comma_wsp has_comma_wsp past_comma_wsp comma skip coordinate svg_number signed_number flag plain_number exponent_of point_digits some_digits sign leading following value over or_else bind
svg_examples = record { are = refl; parted = refl; upper = refl; lower = refl; are_not = refl }
