-- Roots computed by the definition: the bits of x, and those of the binary64 nearest to its root.
use Rattle.std.specs.Prelude.{◌≡◌, refl}
use Rattle.std.proofs.Common.{arith}
use Rattle.root.specs.Root.{try_digits, whole_root, nearest_root, scale, root_bits}
use Rattle.root.specs.Plain.{root_plain, FirstRoot}

two : root_bits 0x4000000000000000 ≡ 0x3ff6a09e667f3bcd
unfolding try_digits whole_root nearest_root scale root_bits
two = refl

quarter : root_bits 0x3fd0000000000000 ≡ 0x3fe0000000000000
unfolding try_digits whole_root nearest_root scale root_bits
quarter = refl

three : root_bits 0x4008000000000000 ≡ 0x3ffbb67ae8584caa
unfolding try_digits whole_root nearest_root scale root_bits
three = refl

least : root_bits 0x0000000000000001 ≡ 0x1e60000000000000
unfolding try_digits whole_root nearest_root scale root_bits
least = refl

greatest : root_bits 0x7fefffffffffffff ≡ 0x5fefffffffffffff
unfolding try_digits whole_root nearest_root scale root_bits
greatest = refl

above_one : root_bits 0x3ff0000000000001 ≡ 0x3ff0000000000000
unfolding try_digits whole_root nearest_root scale root_bits
above_one = refl

below_one : root_bits 0x3fefffffffffffff ≡ 0x3fefffffffffffff
unfolding try_digits whole_root nearest_root scale root_bits
below_one = refl

least_normal : root_bits 0x0010000000000000 ≡ 0x2000000000000000
unfolding try_digits whole_root nearest_root scale root_bits
least_normal = refl

below-four : root_bits 0x400fffffffffffff ≡ 0x3fffffffffffffff
unfolding try_digits whole_root nearest_root scale root_bits
below-four = refl

-- ---- bounds on roots as bounds on their numbers: a root is below t where its number is below s

pub first_26 : FirstRoot 0x4085200000000000 0x403a000000000000
unfolding try_digits whole_root nearest_root scale root_bits root_plain
first_26 = record { some = omega arith; number = omega arith; bound = omega arith; before = omega arith; from = omega arith }

pub first_24 : FirstRoot 0x4082000000000000 0x4038000000000000
unfolding try_digits whole_root nearest_root scale root_bits root_plain
first_24 = record { some = omega arith; number = omega arith; bound = omega arith; before = omega arith; from = omega arith }

pub first_25 : FirstRoot 0x4083880000000000 0x4039000000000000
unfolding try_digits whole_root nearest_root scale root_bits root_plain
first_25 = record { some = omega arith; number = omega arith; bound = omega arith; before = omega arith; from = omega arith }
