-- The bytes of the header and of a record of each kind, from their fields: document 01, 'Sheet', as Sheet.antt reads them.
use Rattle.std.specs.Prelude.{List, [], ◌∷◌, ◌++◌, ℕ, ◌-◌, ◌/◌, ◌%◌, length, replicate}

-- 'Little-endian': a u16. From 65,536 on the second number is no byte.
abbrev pub u16 : ℕ → List ℕ
u16 n = n % 256 ∷ n / 256 ∷ []

-- 'Bytes not named are zero.'
abbrev pub zeros : ℕ → List ℕ
zeros n = replicate n 0

-- 'Header, 16 bytes: version u16 = 1, record count u16, first state u16, first arrow u16, 8 zero bytes.'
abbrev pub header : ℕ → ℕ → ℕ → List ℕ
header count first_state first_arrow = u16 1 ++ u16 count ++ u16 first_state ++ u16 first_arrow ++ zeros 8

-- 'Byte 0 is the kind; bytes 2 and 3 the next index'. Kind 1, state: byte 1 has its flags.
abbrev pub state_bytes : ℕ → ℕ → List ℕ
state_bytes flags next = 1 ∷ flags ∷ u16 next ++ zeros 12

-- Kind 2, arrow, from byte 4: 'from u16, to u16, first line u16'.
abbrev pub arrow_bytes : ℕ → ℕ → ℕ → ℕ → List ℕ
arrow_bytes next source target first_line = 2 ∷ 0 ∷ u16 next ++ u16 source ++ u16 target ++ u16 first_line ++ zeros 6

-- Kind 3, line, from byte 4: 'first text u16'.
abbrev pub line_bytes : ℕ → ℕ → List ℕ
line_bytes next first_text = 3 ∷ 0 ∷ u16 next ++ u16 first_text ++ zeros 10

-- Kind 4, text: byte 1 is a count, and from byte 4 stand 'that many bytes'.
abbrev pub text_bytes : ℕ → List ℕ → List ℕ
text_bytes next piece = 4 ∷ length piece ∷ u16 next ++ piece ++ zeros (12 - length piece)
