-- A method sheet: its fields, its chains, the records that its chains meet, and what it means. A sheet is its list of bytes.
use Rattle.std.specs.Prelude.{◌≡◌, Result, cond, ℕ, zero, suc, ◌+◌, ◌*◌, ◌<◌, eqb, get_or, take, drop, MatchResult, ◌⊎◌}
use Rattle.sheet.specs.declared.RecordKind.{RecordKind}
use Rattle.sheet.specs.declared.RecordKind.TheVariants as K
use Rattle.refusal.specs.declared.Refusal.{Refusal}
use Rattle.refusal.specs.declared.Refusal.TheVariants as R
use mathlib.Core.List.{List, [], ◌∷◌, ◌++◌, map, flat_map}

-- ---- fields

-- The byte at i; 0 past the end.
abbrev pub byte_at : List ℕ → ℕ → ℕ
byte_at s i = get_or s i 0

-- 'Little-endian': the u16 at i.
abbrev pub le16 : List ℕ → ℕ → ℕ
le16 s i = byte_at s i + 256 * byte_at s (i + 1)

-- 'Header, 16 bytes: version u16 = 1, record count u16, first state u16, first arrow u16, 8 zero bytes.'
abbrev pub version : List ℕ → ℕ
version s = le16 s 0

abbrev pub count : List ℕ → ℕ
count s = le16 s 2

abbrev pub first_state : List ℕ → ℕ
first_state s = le16 s 4

abbrev pub first_arrow : List ℕ → ℕ
first_arrow s = le16 s 6

-- 'Records of 16 bytes follow, numbered from 1. Byte 0 is the kind; bytes 2 and 3 the next index; zero ends the chain.'
abbrev pub kind_of : List ℕ → ℕ → ℕ
kind_of s k = byte_at s (16 * k)

abbrev pub kind_byte : RecordKind → ℕ
kind_byte K.State = 1
kind_byte K.Arrow = 2
kind_byte K.Line = 3
kind_byte K.Text = 4

-- the kind that has this byte; a byte that no kind has is refused by 4
abbrev pub GivesRecordKind : ℕ → Result RecordKind Refusal → Type 0
GivesRecordKind n r = MatchResult r (λ kind. kind_byte kind ≡ n) (λ e. (e ≡ R.Bytes) × ((n ≡ 0) ⊎ (4 < n)))

abbrev pub byte_one : List ℕ → ℕ → ℕ
byte_one s k = byte_at s (16 * k + 1)

abbrev pub next : List ℕ → ℕ → ℕ
next s k = le16 s (16 * k + 2)

-- Kind 2, arrow, from byte 4: 'from u16, to u16, first line u16'.
abbrev pub from_of : List ℕ → ℕ → ℕ
from_of s k = le16 s (16 * k + 4)

abbrev pub to_of : List ℕ → ℕ → ℕ
to_of s k = le16 s (16 * k + 6)

abbrev pub first_line : List ℕ → ℕ → ℕ
first_line s k = le16 s (16 * k + 8)

-- Kind 3, line, from byte 4: 'first text u16'.
abbrev pub first_text : List ℕ → ℕ → ℕ
first_text s k = le16 s (16 * k + 4)

-- Kind 4, text: byte 1 is a count, and from byte 4 stand 'that many bytes'.
abbrev pub piece : List ℕ → ℕ → List ℕ
piece s k = take (byte_one s k) (drop (16 * k + 4) s)

-- ---- chains

-- The records of a chain from record i on, n of them at most: each is followed by the one that its next index names, until an index is zero.
unfoldable pub chain_by : List ℕ → ℕ → ℕ → List ℕ
chain_by s zero i = []
chain_by s (suc n) i = let rest = i ∷ chain_by s n (next s i) in cond (eqb i 0) [] rest

-- The first `count + 1` records of the chain from record i on. Where the cause of refusal 3 does not hold this is the whole chain (Whole.antt); a longer one meets a record twice
-- or leaves the sheet, and these records show that.
abbrev pub chain : List ℕ → ℕ → List ℕ
chain s i = chain_by s (count s + 1) i

abbrev pub state_chain : List ℕ → List ℕ
state_chain s = chain s (first_state s)

abbrev pub arrow_chain : List ℕ → List ℕ
arrow_chain s = chain s (first_arrow s)

abbrev pub line_chain : List ℕ → ℕ → List ℕ
line_chain s k = chain s (first_line s k)

abbrev pub text_chain : List ℕ → ℕ → List ℕ
text_chain s k = chain s (first_text s k)

-- A record as a chain meets it: the chain's kind, and the record's number.
pub record Met : Type 0 where
  pub kind : ℕ
  pub index : ℕ

abbrev pub meet : ℕ → ℕ → Met
meet k i = record { kind = k; index = i }

-- What meeting one record brings: itself, and behind it the chain that it begins.
abbrev pub met_alone : ℕ → ℕ → List Met
met_alone k i = meet k i ∷ []

unfoldable pub met_line : List ℕ → ℕ → List Met
met_line s i = meet 3 i ∷ flat_map (met_alone 4) (text_chain s i)

unfoldable pub met_arrow : List ℕ → ℕ → List Met
met_arrow s i = meet 2 i ∷ flat_map (met_line s) (line_chain s i)

-- All records that the chains of a sheet meet, in their order.
unfoldable pub met : List ℕ → List Met
met s = flat_map (met_alone 1) (state_chain s) ++ flat_map (met_arrow s) (arrow_chain s)

-- ---- meaning: 'States and arrows are numbered from 0 in chain order.'

-- Kind 1, state, byte 1: 'bit 0 start, bit 1 final'.
pub record State : Type 0 where
  pub flags : ℕ

pub record Arrow : Type 0 where
  pub source : ℕ
  pub target : ℕ
  pub lines : List (List ℕ)

pub record Graph : Type 0 where
  pub states : List State
  pub arrows : List Arrow

-- 'A line's text is its pieces joined.'
unfoldable pub line_of : List ℕ → ℕ → List ℕ
line_of s k = flat_map (piece s) (text_chain s k)

-- the lines of the chain from line record i on
unfoldable pub lines_from : List ℕ → ℕ → List (List ℕ)
lines_from s i = map (line_of s) (chain s i)

unfoldable pub arrow_of : List ℕ → ℕ → Arrow
arrow_of s k = record { source = from_of s k; target = to_of s k; lines = lines_from s (first_line s k) }

abbrev pub state_of : List ℕ → ℕ → State
state_of s k = record { flags = byte_one s k }

unfoldable pub states_of : List ℕ → List State
states_of s = map (state_of s) (state_chain s)

unfoldable pub arrows_of : List ℕ → List Arrow
arrows_of s = map (arrow_of s) (arrow_chain s)

-- What a sheet means: the flag byte of each state, and of each arrow its ends and its lines.
abbrev pub meaning : List ℕ → Graph
meaning s = record { states = states_of s; arrows = arrows_of s }

-- The flag bytes, in the order of the states: all of the states that routing and layout take.
abbrev pub flags_of : Graph → List ℕ
flags_of g = map (λ a. a.flags) g.states
