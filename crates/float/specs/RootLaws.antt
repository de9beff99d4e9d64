-- `root` is a root by the laws of crate `root`: it rises and passes `min` and `max`. Assumes nothing.
use Rattle.std.specs.Prelude.{◌≡◌, refl, Bool, true, false, ℕ, ◌*◌, ◌%◌, ◌^◌, ◌≤◌, eqb, Float}
use Rattle.std.proofs.Common.{sym, ap, ◌∙◌, arith, eqb-true, le-ltb, le-leb, ne_eqb}
use Rattle.std.proofs.lemmas.Bool.{eqb-false, lt-leb}
use Rattle.std.specs.Float.{binary64}
use Rattle.std.specs.Float.Ieee.{is_nan, of_bits, to_bits}
use Rattle.std.specs.Float.Ieee.Bits.{to_bits-of_bits, nan_bits_is, nan_bits_above}
use Rattle.root.specs.Plain.{root_plain, IsRoot, Plain, plain-itself, root-plain, root-le, root-min}
use Rattle.float.specs.Ops.{le}
use Rattle.float.specs.Standins.{root_of, root, min}

not_nan : (b : ℕ) → b ≤ 2047 * 2 ^ 52 → is_nan (of_bits binary64 b) ≡ false
not_nan b h = sym (nan_bits_is binary64 b) ∙ nan_bits_above binary64 b ∙ le-ltb (2047 * 2 ^ 52) (b % 2 ^ 63) (omega arith)

by_bits : (v : Float) (b : ℕ) → b ≤ 2047 * 2 ^ 52 → v ≡ of_bits binary64 b → root_of v b ≡ of_bits binary64 (root_plain b)
unfolding root_of root_plain
by_bits v b h e = go (eqb b 0) refl (eqb b (2047 * 2 ^ 52)) refl
  where
    go : (s : Bool) → eqb b 0 ≡ s → (t : Bool) → eqb b (2047 * 2 ^ 52) ≡ t → root_of v b ≡ of_bits binary64 (root_plain b)
    go true x t y = rw x (e ∙ ap (of_bits binary64) (eqb-true b 0 x))
    go false x true y =
        let f : b ≡ 2047 * 2 ^ 52 = eqb-true b (2047 * 2 ^ 52) y in
        let m : b ≡ 2 ^ 63 → ⊥ = λ z. omega arith in
        rw (x, ne_eqb b (2 ^ 63) m, lt-leb (2 ^ 63) b (omega arith), le-leb (2047 * 2 ^ 52) b (omega arith), y) (e ∙ ap (of_bits binary64) f)
    go false x false y =
        let f : b ≡ 2047 * 2 ^ 52 → ⊥ = eqb-false b (2047 * 2 ^ 52) y in
        let m : b ≡ 2 ^ 63 → ⊥ = λ z. omega arith in
        rw (x, ne_eqb b (2 ^ 63) m, lt-leb (2 ^ 63) b (omega arith), lt-leb (2047 * 2 ^ 52) b (omega arith), y)

pub root_is : IsRoot root
unfolding root
root_is = record { at = at }
  where
    at : (b : ℕ) → b ≤ 2047 * 2 ^ 52 → root (of_bits binary64 b) ≡ of_bits binary64 (root_plain b)
    at b h =
        let n = not_nan b h in
        let t : to_bits binary64 (of_bits binary64 b) ≡ b = to_bits-of_bits binary64 b (omega arith) (rw n tt) in
        rw (n, t) (by_bits (of_bits binary64 b) b h refl)

-- the root rises
pub root_rises : (x y : Float) → Plain x → Plain y → le x y ≡ true → le (root x) (root y) ≡ true
root_rises x y p q h = root-le root root_is x y p q h

-- the lesser of two roots is the root of the lesser
pub min_roots : (x y : Float) → Plain x → Plain y → min (root x) (root y) ≡ root (min x y)
min_roots x y p q = rw (plain-itself x p, plain-itself (root x) (root-plain root root_is x p)) (root-min root root_is x y p q)
