-- The constants by their bits, as the code has them; those that the Rust names, under its names or, where the word has another meaning here, with a word more (its CLEARANCE is `full_clearance`); and the list that reads each as the f64 nearest to a fraction.
-- A name gives the decimal: f0_36 is 0.36, f64_0 is 64. f2e20 and f2e64 are powers of two. `infinity` is read by `infinity_is`, `label_char_width` by `label_char_width_is`.
use Rattle.std.specs.Prelude.{◌≡◌, refl, false, List, [], ◌∷◌, ℕ, ◌^◌, Float}
use Rattle.std.specs.Float.{inf, binary64}
use Rattle.std.specs.Float.Ieee.{of_bits, round, mul}
pub use Rattle.remainder.specs.Tau.{τ}
use Rattle.float.specs.Ops.{◌⊗◌}

abbrev pub f0 : Float
f0 = of_bits binary64 0x0000000000000000

abbrev pub f1 : Float
f1 = of_bits binary64 0x3ff0000000000000

abbrev pub f2 : Float
f2 = of_bits binary64 0x4000000000000000

abbrev pub f3 : Float
f3 = of_bits binary64 0x4008000000000000

abbrev pub f4 : Float
f4 = of_bits binary64 0x4010000000000000

abbrev pub f6 : Float
f6 = of_bits binary64 0x4018000000000000

abbrev pub f9 : Float
f9 = of_bits binary64 0x4022000000000000

abbrev pub f10 : Float
f10 = of_bits binary64 0x4024000000000000

abbrev pub f12 : Float
f12 = of_bits binary64 0x4028000000000000

abbrev pub f15 : Float
f15 = of_bits binary64 0x402e000000000000

abbrev pub f16 : Float
f16 = of_bits binary64 0x4030000000000000

abbrev pub f20 : Float
f20 = of_bits binary64 0x4034000000000000

abbrev pub f22 : Float
f22 = of_bits binary64 0x4036000000000000

abbrev pub f24 : Float
f24 = of_bits binary64 0x4038000000000000

abbrev pub f25 : Float
f25 = of_bits binary64 0x4039000000000000

abbrev pub f28 : Float
f28 = of_bits binary64 0x403c000000000000

abbrev pub f40 : Float
f40 = of_bits binary64 0x4044000000000000

abbrev pub f48 : Float
f48 = of_bits binary64 0x4048000000000000

abbrev pub f56 : Float
f56 = of_bits binary64 0x404c000000000000

abbrev pub f64_0 : Float
f64_0 = of_bits binary64 0x4050000000000000

abbrev pub f90 : Float
f90 = of_bits binary64 0x4056800000000000

abbrev pub f100 : Float
f100 = of_bits binary64 0x4059000000000000

abbrev pub f140 : Float
f140 = of_bits binary64 0x4061800000000000

abbrev pub f150 : Float
f150 = of_bits binary64 0x4062c00000000000

abbrev pub f160 : Float
f160 = of_bits binary64 0x4064000000000000

abbrev pub f0_2 : Float
f0_2 = of_bits binary64 0x3fc999999999999a

abbrev pub f0_3 : Float
f0_3 = of_bits binary64 0x3fd3333333333333

abbrev pub f0_5 : Float
f0_5 = of_bits binary64 0x3fe0000000000000

abbrev pub f0_6 : Float
f0_6 = of_bits binary64 0x3fe3333333333333

abbrev pub f1_5 : Float
f1_5 = of_bits binary64 0x3ff8000000000000

abbrev pub f2_5 : Float
f2_5 = of_bits binary64 0x4004000000000000

abbrev pub f3_5 : Float
f3_5 = of_bits binary64 0x400c000000000000

abbrev pub f0_24 : Float
f0_24 = of_bits binary64 0x3fceb851eb851eb8

abbrev pub f0_28 : Float
f0_28 = of_bits binary64 0x3fd1eb851eb851ec

abbrev pub f0_36 : Float
f0_36 = of_bits binary64 0x3fd70a3d70a3d70a

abbrev pub f0_38 : Float
f0_38 = of_bits binary64 0x3fd851eb851eb852

abbrev pub f0_62 : Float
f0_62 = of_bits binary64 0x3fe3d70a3d70a3d7

abbrev pub f0_64 : Float
f0_64 = of_bits binary64 0x3fe47ae147ae147b

abbrev pub f0_72 : Float
f0_72 = of_bits binary64 0x3fe70a3d70a3d70a

abbrev pub f0_76 : Float
f0_76 = of_bits binary64 0x3fe851eb851eb852

abbrev pub f0_55 : Float
f0_55 = of_bits binary64 0x3fe199999999999a

abbrev pub f0_75 : Float
f0_75 = of_bits binary64 0x3fe8000000000000

abbrev pub f1_25 : Float
f1_25 = of_bits binary64 0x3ff4000000000000

abbrev pub f1e_9 : Float
f1e_9 = of_bits binary64 0x3e112e0be826d695

abbrev pub f1e9 : Float
f1e9 = of_bits binary64 0x41cdcd6500000000

abbrev pub f1e13 : Float
f1e13 = of_bits binary64 0x42a2309ce5400000

abbrev pub f2e20 : Float
f2e20 = of_bits binary64 0x4130000000000000

abbrev pub f2e64 : Float
f2e64 = of_bits binary64 0x43f0000000000000

-- plus infinity
abbrev pub infinity : Float
infinity = of_bits binary64 0x7ff0000000000000

-- the f64 nearest to the circle's half turn; that nearest to its whole turn is `τ` of `remainder`
abbrev pub π : Float
π = of_bits binary64 0x400921fb54442d18

-- ---- what the Rust names

-- layout.rs: the radius of a state; the least distances between columns, rows and neighbours on the ring; the border around a drawing; a start arrow's length
abbrev pub node_radius : Float
node_radius = f22

abbrev pub layer_gap : Float
layer_gap = f140

abbrev pub row_gap : Float
row_gap = f90

abbrev pub circle_gap : Float
circle_gap = f150

abbrev pub margin : Float
margin = f16

abbrev pub start_arrow_length : Float
start_arrow_length = f28

-- route.rs, labels: "Character widths: ASCII 0.6·12, all others 12, line height 15" (accents: crate `label`); the room between an arrow and its label, and from the label to what is not its own
abbrev pub label_font_size : Float
label_font_size = f12

abbrev pub label_line_height : Float
label_line_height = f15

abbrev pub label_char_width : Float
label_char_width = of_bits binary64 0x401ccccccccccccc

pub label_char_width_is : label_char_width ≡ f0_6 ⊗ label_font_size
unfolding of_bits mul round
label_char_width_is = refl

abbrev pub label_wide_char_width : Float
label_wide_char_width = label_font_size

abbrev pub label_gap : Float
label_gap = f4

abbrev pub keep : Float
keep = f4

-- route.rs, `place_label`: up to here a direction counts as nearly upright or level
abbrev pub nearly : Float
nearly = f0_2

-- route.rs, curves: the room that an arc keeps from states that it passes (CLEARANCE); below eps two points count as one; segments of a sampled curve (SAMPLES)
abbrev pub full_clearance : Float
full_clearance = f10

abbrev pub eps : Float
eps = f1e_9

abbrev pub samples_per_curve : Float
samples_per_curve = f16

-- route.rs, loops (SPREAD, FAN, REACH, ENOUGH, CRAMPED): how far from its direction a loop meets the rim and has its control points, how far these lie beyond the
-- rim; the angle that a first direction has free on either side, and the one below which a direction is cramped
abbrev pub loop_spread : Float
loop_spread = f0_38

abbrev pub loop_fan : Float
loop_fan = f0_55

abbrev pub loop_reach : Float
loop_reach = f56

abbrev pub enough_room : Float
enough_room = f1_25

abbrev pub cramped_room : Float
cramped_room = f0_75

-- svg.rs: an arrowhead from base to tip, and half its base
abbrev pub arrow_length : Float
arrow_length = f9

abbrev pub arrow_half_width : Float
arrow_half_width = f3_5

-- ---- readings

-- the f64 nearest to n, n / 10, n / 100, a / b
abbrev pub whole : ℕ → Float
whole n = round binary64 false n 1

abbrev pub tenths : ℕ → Float
tenths n = round binary64 false n 10

abbrev pub per_hundred : ℕ → Float
per_hundred n = round binary64 false n 100

abbrev pub per : ℕ → ℕ → Float
per a b = round binary64 false a b

-- a constant and its reading
abbrev pub readings : List (Float × Float)
readings =
    (f0, whole 0)
    ∷ (f1, whole 1)
    ∷ (f2, whole 2)
    ∷ (f3, whole 3)
    ∷ (f4, whole 4)
    ∷ (f6, whole 6)
    ∷ (f9, whole 9)
    ∷ (f10, whole 10)
    ∷ (f12, whole 12)
    ∷ (f15, whole 15)
    ∷ (f16, whole 16)
    ∷ (f20, whole 20)
    ∷ (f22, whole 22)
    ∷ (f24, whole 24)
    ∷ (f25, whole 25)
    ∷ (f28, whole 28)
    ∷ (f40, whole 40)
    ∷ (f48, whole 48)
    ∷ (f56, whole 56)
    ∷ (f64_0, whole 64)
    ∷ (f90, whole 90)
    ∷ (f100, whole 100)
    ∷ (f140, whole 140)
    ∷ (f150, whole 150)
    ∷ (f160, whole 160)
    ∷ (f0_2, tenths 2)
    ∷ (f0_3, tenths 3)
    ∷ (f0_5, tenths 5)
    ∷ (f0_6, tenths 6)
    ∷ (f1_5, tenths 15)
    ∷ (f2_5, tenths 25)
    ∷ (f3_5, tenths 35)
    ∷ (f0_24, per_hundred 24)
    ∷ (f0_28, per_hundred 28)
    ∷ (f0_36, per_hundred 36)
    ∷ (f0_38, per_hundred 38)
    ∷ (f0_62, per_hundred 62)
    ∷ (f0_64, per_hundred 64)
    ∷ (f0_72, per_hundred 72)
    ∷ (f0_76, per_hundred 76)
    ∷ (f0_55, per_hundred 55)
    ∷ (f0_75, per_hundred 75)
    ∷ (f1_25, per_hundred 125)
    ∷ (f1e_9, per 1 (10 ^ 9))
    ∷ (f1e9, whole (10 ^ 9))
    ∷ (f1e13, whole (10 ^ 13))
    ∷ (f2e20, whole (2 ^ 20))
    ∷ (f2e64, whole (2 ^ 64))
    ∷ (π, per 31415926535897932384626433832795029 (10 ^ 34))
    ∷ (τ, per 62831853071795864769252867665590058 (10 ^ 34))
    ∷ []

-- each is as it is read
pub EachSame : List (Float × Float) → Type 0
EachSame [] = Unit {0}
EachSame (p ∷ l) = (p.0 ≡ p.1) × EachSame l

pub as_read : EachSame readings
unfolding EachSame of_bits round
as_read = (refl, (refl, (refl, (refl, (refl, (refl, (refl, (refl, (refl, (refl, (refl, (refl, (refl, (refl, (refl, (refl, (refl, (refl, (refl, (refl, (refl, (refl, (refl, (refl, (refl, (refl, (refl, (refl, (refl, (refl, (refl, (refl, (refl, (refl, (refl, (refl, (refl, (refl, (refl, (refl, (refl, (refl, (refl, (refl, (refl, (refl, (refl, (refl, (refl, (refl, tt))))))))))))))))))))))))))))))))))))))))))))))))))

pub infinity_is : infinity ≡ inf false
unfolding of_bits
infinity_is = refl
