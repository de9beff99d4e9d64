-- What refuses a sheet, in the words of document 01's table and in its order: 1, 2, 4, 3, 5, 6; for 5 the limits of document 02's screens.
use Rattle.std.specs.Prelude.{Bool, true, false, cond, not, ◌||◌, List, [], ◌∷◌, map, ℕ, ◌+◌, ◌*◌, ◌≤◌, ltb, eqb, length}
use Rattle.laws.specs.Any.{any_of}
use Rattle.laws.specs.Loops.{any_up}
use Rattle.laws.specs.Refusals.{Refusal, refusal, decide}
use Rattle.text.specs.Utf8.{well_formed}
use Rattle.sheet.specs.Sheet.{byte_at, version, count, kind_of, byte_one, Met, met, Arrow, Graph, meaning}
use Rattle.refusal.specs.Refused.{Outcome, values, number}
use Rattle.sheet.specs.declared.Limits.{Limits}

-- whether n is an element
abbrev pub is_among : ℕ → List ℕ → Bool
is_among n l = any_of (eqb n) l

-- whether some element stands in the list again
unfoldable pub repeats : List ℕ → Bool
repeats [] = false
repeats (x ∷ l) = let rest = repeats l in is_among x l || rest

-- ---- 1: 'sheet under 16, over 65,536 bytes, or not 16·(1 + count)'
abbrev pub wrong_length : List ℕ → Bool
wrong_length s = ltb (length s) 16 || (ltb 65536 (length s) || not (eqb (length s) (16 * (1 + count s))))

-- ---- 2: 'version not 1'
abbrev pub wrong_version : List ℕ → Bool
wrong_version s = not (eqb (version s) 1)

-- ---- 4: 'kind not 1 to 4, text count not 1 to 12, a state's flag bit above 1 set, or any byte not zero that must be, header included'

-- byte i is not zero
unfoldable pub is_set : List ℕ → ℕ → Bool
is_set s i = not (eqb (byte_at s i) 0)

-- some byte from a to e - 1 is not zero
abbrev pub some_set : List ℕ → ℕ → ℕ → Bool
some_set s a e = any_up (is_set s) a e

-- record k, by its kind: byte 1, and from where on its bytes are not named
unfoldable pub wrong_record : List ℕ → ℕ → Bool
wrong_record s k =
    let b = 16 * k in
    let one = byte_one s k in
    cond (eqb (kind_of s k) 1) (ltb 3 one || some_set s (b + 4) (b + 16))
    (cond (eqb (kind_of s k) 2) (ltb 0 one || some_set s (b + 10) (b + 16))
    (cond (eqb (kind_of s k) 3) (ltb 0 one || some_set s (b + 6) (b + 16))
    (cond (eqb (kind_of s k) 4) (ltb one 1 || (ltb 12 one || some_set s (b + 4 + one) (b + 16)))
    true)))

unfoldable pub wrong_bytes : List ℕ → Bool
wrong_bytes s = some_set s 8 16 || any_up (wrong_record s) 1 (count s + 1)

-- ---- 3: 'an index above the count, a wrong kind in a chain, a record met twice or never'

-- a record met beyond the count
abbrev pub is_above : List ℕ → Met → Bool
is_above s m = ltb (count s) m.index

-- a record met in a chain of another kind
abbrev pub is_other : List ℕ → Met → Bool
is_other s m = not (eqb (kind_of s m.index) m.kind)

-- a record that is not among those met
abbrev pub is_missed : List ℕ → ℕ → Bool
is_missed indices k = not (is_among k indices)

-- the numbers of the records met
unfoldable pub indices : List ℕ → List ℕ
indices s = map (λ m. m.index) (met s)

unfoldable pub wrong_chains : List ℕ → Bool
wrong_chains s =
    any_of (is_above s) (met s)
    || (any_of (is_other s) (met s)
    || (repeats (indices s)
    || any_up (is_missed (indices s)) 1 (count s + 1)))

-- ---- 5: 'more states, arrows, lines or line bytes than above'

-- 'Fixed capacities: 64 states, 256 arrows, 8 lines an arrow'; document 02, T-05: 'The main screen keeps its 64, 256 and 8.'
abbrev pub main_screen : Limits
main_screen = record { states = 64; arrows = 256; lines = 8 }

-- 'The small panel on the back opens sheets of at most 24 states, 64 arrows and 4 lines an arrow.'
abbrev pub service_panel : Limits
service_panel = record { states = 24; arrows = 64; lines = 4 }

-- each limit of l is at most that of m
pub record AtMost (l m : Limits) : Type 0 where
  pub states : l.states ≤ m.states
  pub arrows : l.arrows ≤ m.arrows
  pub lines : l.lines ≤ m.lines

-- '96 bytes a line', under any limits: more than that
abbrev pub long_line : List ℕ → Bool
long_line l = ltb 96 (length l)

unfoldable pub large_arrow : Limits → Arrow → Bool
large_arrow m a = ltb m.lines (length a.lines) || any_of long_line a.lines

unfoldable pub over_limits : Limits → Graph → Bool
over_limits m g =
    ltb m.states (length g.states)
    || (ltb m.arrows (length g.arrows)
    || any_of (large_arrow m) g.arrows)

-- ---- 6: 'a line not well-formed UTF-8'
abbrev pub ill_line : List ℕ → Bool
ill_line l = not (well_formed l)

unfoldable pub ill_arrow : Arrow → Bool
ill_arrow a = any_of ill_line a.lines

unfoldable pub ill_formed : Graph → Bool
ill_formed g = any_of ill_arrow g.arrows

-- ---- the order

abbrev pub refusals : Limits → List ℕ → List Refusal
refusals m s =
    refusal 1 (wrong_length s)
    ∷ refusal 2 (wrong_version s)
    ∷ refusal 4 (wrong_bytes s)
    ∷ refusal 3 (wrong_chains s)
    ∷ refusal 5 (over_limits m (meaning s))
    ∷ refusal 6 (ill_formed (meaning s))
    ∷ []

-- the answer of a check
unfoldable pub check_of : Limits → List ℕ → Outcome (Unit {0})
check_of m s = decide (refusals m s) number (values tt)
