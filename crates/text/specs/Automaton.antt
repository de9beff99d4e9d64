-- An automaton for well-formed UTF-8, fed a byte at a time: of what may come next, as much as a later byte can tell.
use Rattle.std.specs.Prelude.{Bool, true, false, cond, List, [], ◌∷◌, ℕ, ◌+◌, ◌*◌, ◌%◌, eqb, leb}
use Rattle.laws.specs.Loops.{over}
use Rattle.text.specs.declared.Awaiting.{Awaiting}
use Rattle.text.specs.declared.Awaiting.TheVariants.{First, One, Two, Three, AfterE0, AfterEd, AfterF0, AfterF4, Nothing}
use Rattle.text.specs.Utf8.{payload}

-- What is awaited, by its number: 0 between characters; 1, 2, 3 that many bytes to come; 4 after E0, 5 after ED, 6 after F0, 7 after F4; from 8 on ill-formed.
abbrev pub awaiting_of : ℕ → Awaiting
awaiting_of n =
    cond (eqb n 0) First
    (cond (eqb n 1) One
    (cond (eqb n 2) Two
    (cond (eqb n 3) Three
    (cond (eqb n 4) AfterE0
    (cond (eqb n 5) AfterEd
    (cond (eqb n 6) AfterF0
    (cond (eqb n 7) AfterF4 Nothing)))))))

-- no byte is lacking
unfoldable pub is_whole : Awaiting → Bool
is_whole First = true
is_whole One = false
is_whole Two = false
is_whole Three = false
is_whole AfterE0 = false
is_whole AfterEd = false
is_whole AfterF0 = false
is_whole AfterF4 = false
is_whole Nothing = false

-- next where b is in the range, else nothing
abbrev pub next_within : ℕ → ℕ → ℕ → Awaiting → Awaiting
next_within b lo hi next = cond (leb lo b) (cond (leb b hi) next Nothing) Nothing

-- what is awaited after a character's first byte
unfoldable pub lead : ℕ → Awaiting
lead b =
    cond (leb b 0x7f) First
    (cond (leb b 0xc1) Nothing
    (cond (leb b 0xdf) One
    (cond (leb b 0xe0) AfterE0
    (cond (leb b 0xec) Two
    (cond (leb b 0xed) AfterEd
    (cond (leb b 0xef) Two
    (cond (leb b 0xf0) AfterF0
    (cond (leb b 0xf3) Three
    (cond (leb b 0xf4) AfterF4 Nothing)))))))))

-- what is awaited after one byte
unfoldable pub feed_of : Awaiting → ℕ → Awaiting
feed_of First b = lead b
feed_of One b = next_within b 0x80 0xbf First
feed_of Two b = next_within b 0x80 0xbf One
feed_of Three b = next_within b 0x80 0xbf Two
feed_of AfterE0 b = next_within b 0xa0 0xbf One
feed_of AfterEd b = next_within b 0x80 0x9f One
feed_of AfterF0 b = next_within b 0x90 0xbf Two
feed_of AfterF4 b = next_within b 0x80 0x8f Two
feed_of Nothing b = Nothing

-- what is awaited after the bytes of s
abbrev pub feed_all : Awaiting → List ℕ → Awaiting
feed_all w s = over feed_of w s

-- The value of the character so far, after the byte b. Between the bytes of a character v is below 32768, so that no bit is lost.
unfoldable pub gather_of : Awaiting → ℕ → ℕ → ℕ
gather_of w v b = cond (is_whole w) (payload b) (64 * (v % 32768) + b % 64)

-- f over the code points that the bytes of s complete, from w, value v and a
unfoldable pub read_by : {A : Type 0} → (A → ℕ → A) → Awaiting → ℕ → A → List ℕ → A
read_by f w v a [] = a
read_by f w v a (b ∷ s) = read_by f (feed_of w b) (gather_of w v b) (cond (is_whole (feed_of w b)) (f a (gather_of w v b)) a) s
