-- The nearest root told with numbers below 2 ^ 64, by halves of 26 binary digits: p is the nearest to the root of n where p * (p - 1) < n ≤ p * (p + 1). Assumes nothing.
use Rattle.std.specs.Prelude.{◌≡◌, ℕ, zero, suc, ◌+◌, ◌*◌, ◌^◌, ◌≤◌, ◌<◌}
use Rattle.std.proofs.Common.{arith}
use Rattle.root.specs.Root.{nearest_root}
use Rattle.root.specs.Nearest.{Nearest, twice_less, nearest_unique}

-- twice the midpoints squared, without the quarter that whole numbers never reach
pub nearest-between : (n p : ℕ) → p * p < n + p → n ≤ p * p + p → Nearest n p
nearest-between n zero a b = absurd (omega arith)
nearest-between n (suc p) a b = record { above = rw twice_less (omega arith); below = omega arith }

-- with h and l the halves of p, a over h * h by d, and y what is left of n + p - p * p, over 2 ^ 26, before l and l * l
pub halves : (a p h l d y : ℕ) → a < 2 ^ 54 → p ≡ h * 2 ^ 26 + l → a ≡ h * h + d → d * 2 ^ 26 + h ≡ y + 2 * h * l → l * l < y * 2 ^ 26 + l → y * 2 ^ 26 + l ≤ l * l + 2 * p
    → p ≡ nearest_root (a * 2 ^ 52)
halves a p h l d y k e f g u v = nearest_unique (a * 2 ^ 52) p (omega arith) (nearest-between (a * 2 ^ 52) p (omega (arith, rest)) (omega (arith, rest)))
  where
    square : p * p ≡ h * h * 2 ^ 52 + 2 * h * l * 2 ^ 26 + l * l
    square = rw e (omega arith)

    rest : a * 2 ^ 52 + p + l * l ≡ p * p + (y * 2 ^ 26 + l)
    rest = omega (arith, square)
