-- SVG 2, 'The grammar for path data', as a reader from bytes: the whole of it. The production that a definition reads stands above it.
-- "The processing of the EBNF must consume as much of a given EBNF production as possible, stopping at the point when a character is
-- encountered which no longer satisfies the production": a text is read from left to right, and `M12` is no path.
-- Where SVG 1.1 and SVG 2 differ, or SVG 2's productions and its own examples, this is how it is read here:
--  * white space between commands and at the end of a path, and before the first moveto of several commands: SVG 1.1 has it, SVG 2's
--    `svg_path` leaves it out, so that `M 1 2 L 3 4` would be none. It is taken;
--  * an exponent: SVG 1.1 has it, as CSS has; SVG 2's `number` leaves it out. It is taken;
--  * a number that ends in its point, `1.`: SVG 1.1 has it, SVG 2 has not. It is refused;
--  * form feed is white space in SVG 2 and not in SVG 1.1. It is taken;
--  * the rotation of an arc: with a sign in SVG 1.1 and in SVG 2's examples, without in SVG 2's `elliptical_arc_argument`. A sign is taken.
--    The radii have none in either.
-- In both the empty path is a path, and any other begins with a moveto. A repeated group stays with its command: `M 1 2 3 4` is one command.
use Rattle.std.specs.Prelude.{Bool, true, false, cond, ◌||◌, List, [], ◌∷◌, ◌++◌, ℕ, zero, suc, eqb, length}
use Rattle.std.proofs.Math.Option.{Option, none, some, bind}
use Prim.Native.Char.{Char, code}
use Rattle.text.specs.Digits.{value}
use Rattle.number.specs.Reading.{leading, following}

-- ---- what is read

-- a number: its sign, its digits as one natural number, how many of them stand after the point, and the power of ten behind `e`.
-- Its value is digits · 10 ^ (exponent - decimals), or digits · 10 ^ (- exponent - decimals) where the exponent is below zero.
pub record Numeral : Type 0 where
  pub minus : Bool
  pub digits : ℕ
  pub decimals : ℕ
  pub lowered : Bool
  pub exponent : ℕ

abbrev pub numeral : Bool → ℕ → ℕ → Bool → ℕ → Numeral
numeral minus digits decimals lowered exponent = record { minus = minus; digits = digits; decimals = decimals; lowered = lowered; exponent = exponent }

-- a command: its letter and all numbers behind it
pub record Segment : Type 0 where
  pub letter : ℕ
  pub numbers : List Numeral

abbrev pub segment : ℕ → List Numeral → Segment
segment letter numbers = record { letter = letter; numbers = numbers }

-- what reads numbers gives those it read and the text that is left, or nothing
abbrev pub SvgReader : Type 0
SvgReader = List ℕ → Option (List Numeral × List ℕ)

-- what reads a command gives it and the text that is left
abbrev pub CommandReader : Type 0
CommandReader = List ℕ → Option (Segment × List ℕ)

-- the first, or the second where there is no first
unfoldable pub or_else : {A : Type 0} → Option A → Option A → Option A
or_else none b = b
or_else (some a) b = some a

-- whether a byte is a character
abbrev pub is_char : Char → ℕ → Bool
is_char c b = eqb b (code c)

-- ---- white space and commas

-- wsp ::= (#x9 | #x20 | #xA | #xC | #xD)
abbrev pub is_space : ℕ → Bool
is_space b = eqb b 0x9 || eqb b 0x20 || eqb b 0xA || eqb b 0xC || eqb b 0xD

-- wsp*
unfoldable pub skip : List ℕ → List ℕ
skip [] = []
skip (b ∷ l) = let later = skip l in cond (is_space b) later (b ∷ l)

-- ","?
unfoldable pub comma : List ℕ → List ℕ
comma [] = []
comma (b ∷ l) = cond (is_char "," b) l (b ∷ l)

-- comma_wsp ::= (wsp+ ","? wsp*) | ("," wsp*)
-- `comma_wsp?`
unfoldable pub past_comma_wsp : List ℕ → List ℕ
past_comma_wsp l = skip (comma (skip l))

-- `comma_wsp`
unfoldable pub has_comma_wsp : List ℕ → Bool
has_comma_wsp [] = false
has_comma_wsp (b ∷ l) = is_space b || is_char "," b

unfoldable pub comma_wsp : List ℕ → Option (List ℕ)
comma_wsp l = cond (has_comma_wsp l) (some (past_comma_wsp l)) none

-- p comma_wsp? q
infixr 5 ◌then◌ ◌apart◌
unfoldable pub ◌then◌ : SvgReader → SvgReader → SvgReader
◌then◌ p q l =
    bind (p l)
    (λ a. bind (q (past_comma_wsp a.1))
    (λ b. some (a.0 ++ b.0, b.1)))

-- p comma_wsp q
unfoldable pub ◌apart◌ : SvgReader → SvgReader → SvgReader
◌apart◌ p q l =
    bind (p l)
    (λ a. bind (comma_wsp a.1)
    (λ m. bind (q m)
    (λ b. some (a.0 ++ b.0, b.1))))

-- sequence ::= p | (p comma_wsp? sequence)
-- each p takes a byte at least, so f steps are enough where f is above the number of bytes: Bounds has this without f
unfoldable pub sequence_by : SvgReader → ℕ → SvgReader
sequence_by p zero l = none
sequence_by p (suc f) l =
    bind (p l)
    (λ a. let more = bind (sequence_by p f (past_comma_wsp a.1)) (λ b. some (a.0 ++ b.0, b.1)) in or_else more (some a))

unfoldable pub sequence : SvgReader → SvgReader
sequence p l = sequence_by p (suc (length l)) l

-- ---- numbers

-- sign ::= "+" | "-"
-- `sign?`: whether it is a minus, and the text that is left
unfoldable pub sign : List ℕ → Bool × List ℕ
sign [] = (false, [])
sign (b ∷ l) = cond (is_char "-" b) (true, l) (cond (is_char "+" b) (false, l) (false, b ∷ l))

-- ([0-9])+
unfoldable pub some_digits : List ℕ → Option (List ℕ × List ℕ)
some_digits l = cond (eqb (length (leading l)) 0) none (some (leading l, following l))

-- "." ([0-9])+
unfoldable pub point_digits : List ℕ → Option (List ℕ × List ℕ)
point_digits [] = none
point_digits (b ∷ l) = cond (is_char "." b) (some_digits l) none

-- digits, how many of them are decimals, and the text that is left
pub record PlainNumber : Type 0 where
  pub digits : ℕ
  pub decimals : ℕ
  pub rest : List ℕ

abbrev pub plain_as : ℕ → ℕ → List ℕ → PlainNumber
plain_as digits decimals rest = record { digits = digits; decimals = decimals; rest = rest }

-- number ::= ([0-9])+ | ([0-9])* "." ([0-9])+
unfoldable pub plain_number : List ℕ → Option PlainNumber
plain_number l =
    or_else
    (bind (point_digits (following l)) (λ d. some (plain_as (value (leading l ++ d.0)) (length d.0) d.1)))
    (bind (some_digits l) (λ d. some (plain_as (value d.0) 0 d.1)))

-- exponent ::= ("e" | "E") sign? ([0-9])+
pub record Power : Type 0 where
  pub lowered : Bool
  pub exponent : ℕ
  pub rest : List ℕ

abbrev pub power_as : Bool → ℕ → List ℕ → Power
power_as lowered exponent rest = record { lowered = lowered; exponent = exponent; rest = rest }

unfoldable pub exponent_of : List ℕ → Option Power
exponent_of [] = none
exponent_of (b ∷ l) =
    let read = bind (some_digits (sign l).1) (λ d. some (power_as (sign l).0 (value d.0) d.1)) in
    cond (is_char "e" b || is_char "E" b) read none

-- number exponent?
abbrev pub raised : Bool → PlainNumber → Option Power → List Numeral × List ℕ
raised minus n none = (numeral minus n.digits n.decimals false 0 ∷ [], n.rest)
raised minus n (some e) = (numeral minus n.digits n.decimals e.lowered e.exponent ∷ [], e.rest)

unfoldable pub signed_number : Bool → SvgReader
signed_number minus l = bind (plain_number l) (λ n. some (raised minus n (exponent_of n.rest)))

unfoldable pub svg_number : SvgReader
svg_number l = signed_number false l

-- coordinate ::= sign? number
unfoldable pub coordinate : SvgReader
coordinate l = signed_number (sign l).0 (sign l).1

-- flag ::= "0" | "1"
unfoldable pub flag : SvgReader
flag [] = none
flag (b ∷ l) =
    cond (is_char "0" b) (some (numeral false 0 0 false 0 ∷ [], l))
    (cond (is_char "1" b) (some (numeral false 1 0 false 0 ∷ [], l)) none)

-- ---- coordinates

-- coordinate_pair ::= coordinate comma_wsp? coordinate
abbrev pub coordinate_pair : SvgReader
coordinate_pair = coordinate then coordinate

-- coordinate_pair_double ::= coordinate_pair comma_wsp? coordinate_pair
abbrev pub coordinate_pair_double : SvgReader
coordinate_pair_double = coordinate_pair then coordinate_pair

-- coordinate_pair_triplet ::= coordinate_pair comma_wsp? coordinate_pair comma_wsp? coordinate_pair
abbrev pub coordinate_pair_triplet : SvgReader
coordinate_pair_triplet = coordinate_pair then coordinate_pair then coordinate_pair

-- elliptical_arc_argument ::= number comma_wsp? number comma_wsp? number comma_wsp flag comma_wsp? flag comma_wsp? coordinate_pair
abbrev pub elliptical_arc_argument : SvgReader
elliptical_arc_argument = svg_number then svg_number then coordinate apart flag then flag then coordinate_pair

-- ---- commands

-- (upper | lower) wsp* p
unfoldable pub lettered : Char → Char → SvgReader → CommandReader
lettered upper lower p [] = none
lettered upper lower p (b ∷ l) =
    let read : Option (Segment × List ℕ) = bind (p (skip l)) (λ a. some (segment b a.0, a.1)) in
    cond (is_char upper b || is_char lower b) read none

-- moveto ::= ("M" | "m") wsp* coordinate_pair_sequence
-- coordinate_pair_sequence ::= coordinate_pair | (coordinate_pair comma_wsp? coordinate_pair_sequence)
abbrev pub moveto : CommandReader
moveto = lettered "M" "m" (sequence coordinate_pair)

-- closepath ::= ("Z" | "z")
unfoldable pub closepath : CommandReader
closepath [] = none
closepath (b ∷ l) = cond (is_char "Z" b || is_char "z" b) (some (segment b [], l)) none

-- lineto ::= ("L" | "l") wsp* coordinate_pair_sequence
abbrev pub lineto : CommandReader
lineto = lettered "L" "l" (sequence coordinate_pair)

-- horizontal_lineto ::= ("H" | "h") wsp* coordinate_sequence
-- coordinate_sequence ::= coordinate | (coordinate comma_wsp? coordinate_sequence)
abbrev pub horizontal_lineto : CommandReader
horizontal_lineto = lettered "H" "h" (sequence coordinate)

-- vertical_lineto ::= ("V" | "v") wsp* coordinate_sequence
abbrev pub vertical_lineto : CommandReader
vertical_lineto = lettered "V" "v" (sequence coordinate)

-- curveto ::= ("C" | "c") wsp* curveto_coordinate_sequence
-- curveto_coordinate_sequence ::= coordinate_pair_triplet | (coordinate_pair_triplet comma_wsp? curveto_coordinate_sequence)
abbrev pub curveto : CommandReader
curveto = lettered "C" "c" (sequence coordinate_pair_triplet)

-- smooth_curveto ::= ("S" | "s") wsp* smooth_curveto_coordinate_sequence
-- smooth_curveto_coordinate_sequence ::= coordinate_pair_double | (coordinate_pair_double comma_wsp? smooth_curveto_coordinate_sequence)
abbrev pub smooth_curveto : CommandReader
smooth_curveto = lettered "S" "s" (sequence coordinate_pair_double)

-- quadratic_bezier_curveto ::= ("Q" | "q") wsp* quadratic_bezier_curveto_coordinate_sequence
-- quadratic_bezier_curveto_coordinate_sequence ::=
--     coordinate_pair_double | (coordinate_pair_double comma_wsp? quadratic_bezier_curveto_coordinate_sequence)
abbrev pub quadratic_bezier_curveto : CommandReader
quadratic_bezier_curveto = lettered "Q" "q" (sequence coordinate_pair_double)

-- smooth_quadratic_bezier_curveto ::= ("T" | "t") wsp* coordinate_pair_sequence
abbrev pub smooth_quadratic_bezier_curveto : CommandReader
smooth_quadratic_bezier_curveto = lettered "T" "t" (sequence coordinate_pair)

-- elliptical_arc ::= ("A" | "a") wsp* elliptical_arc_argument_sequence
-- elliptical_arc_argument_sequence ::= elliptical_arc_argument | (elliptical_arc_argument comma_wsp? elliptical_arc_argument_sequence)
abbrev pub elliptical_arc : CommandReader
elliptical_arc = lettered "A" "a" (sequence elliptical_arc_argument)

-- the first of some alternatives that reads
unfoldable pub first_of : List CommandReader → CommandReader
first_of [] l = none
first_of (p ∷ ps) l = let later = first_of ps l in or_else (p l) later

-- drawto_command ::= moveto | closepath | lineto | horizontal_lineto | vertical_lineto | curveto | smooth_curveto
--     | quadratic_bezier_curveto | smooth_quadratic_bezier_curveto | elliptical_arc
unfoldable pub drawto_command : CommandReader
drawto_command l =
    first_of
    (moveto ∷ closepath ∷ lineto ∷ horizontal_lineto ∷ vertical_lineto
    ∷ curveto ∷ smooth_curveto ∷ quadratic_bezier_curveto ∷ smooth_quadratic_bezier_curveto ∷ elliptical_arc ∷ [])
    l

-- (wsp* drawto_command)* wsp*, up to the end of the text; each command takes a byte at least, so f steps are enough likewise
unfoldable pub drawto_commands : ℕ → List ℕ → Option (List Segment)
drawto_commands zero l = none
drawto_commands (suc f) l =
    let read =
    bind (drawto_command (skip l))
    (λ c. bind (drawto_commands f c.1)
    (λ cs. some (c.0 ∷ cs))) in
    cond (eqb (length (skip l)) 0) (some []) read

-- svg_path ::= wsp* moveto? | (moveto drawto_command*), with white space between commands and at the end:
-- wsp* (moveto (wsp* drawto_command)*)? wsp*
-- the commands of the whole text, or nothing where it is no path
unfoldable pub svg_path : List ℕ → Option (List Segment)
svg_path l =
    let read =
    bind (moveto (skip l))
    (λ c. bind (drawto_commands (suc (length c.1)) c.1)
    (λ cs. some (c.0 ∷ cs))) in
    cond (eqb (length (skip l)) 0) (some []) read
