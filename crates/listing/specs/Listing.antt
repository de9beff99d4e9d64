-- What the program asks for, lends and writes.
use Rattle.std.specs.Prelude.{List, ◌++◌, ℕ}
use Rattle.text.specs.Digits.{digits}
use Rattle.text.specs.Ascii.{ascii}
use Rattle.calls.specs.Calls.{Outcome, values, number, main_screen, list, listing}

-- one byte more than the 65,536 of a sheet is asked for, so that a longer input is refused as a sheet of that length
abbrev pub asked : ℕ
asked = 65537

-- "The program lends 65,536 bytes of text; a longer listing is refused by 7."
abbrev pub lent : ℕ
lent = 65536

-- "Refused: `refused` and the number only."
unfoldable pub refused_text : ℕ → List ℕ
refused_text n = ascii "refused " ++ digits n ++ ascii "\n"

-- the text that the call answered with, or the refusal
abbrev pub answer_text : Outcome ℕ → List ℕ → List ℕ
answer_text (values n) text = text
answer_text (number n) text = refused_text n

-- "The listing program reads a sheet from standard input and lays out as Auto", under the main screen's limits: what it writes of the bytes read
unfoldable pub output : List ℕ → List ℕ
output s = answer_text (list s main_screen 0 lent) (listing s 0)
