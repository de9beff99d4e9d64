-- One step of each loop, and bounds.
use mathlib.Core.Path.{◌≡◌, refl, sym, subst}
use mathlib.Core.Bool.{true, false}
use lib.Dec.{T}
use lib.Bits.{bit_and, and_mask}
use Prim.Native.Nat.{ℕ, zero, suc, ◌+◌, ◌-◌, ◌*◌, ◌/◌, ◌%◌, ◌^◌, ◌≤◌, ◌<◌}
use native.Mathlib.Nat.{not-suc-le-zero, mul-le-mul}
use native.Mathlib.Omega.{arith}
use borrow.Author.Tests.{lt-ltb, le-ltb}
use Rattle.root.specs.declared.Digits.{Digits}
use Rattle.root.specs.declared.Scaled.{Scaled}
use Rattle.root.specs.Root.{scale, scaled, evened, whole_root, nearest_root, packed, root_bits}
use Rattle.root.specs.Nearest.{nearest_root_le}
use Rattle.root.specs.Digits.{digit_step, Sound, step_sound, sound_root}

-- after k of n digits
pub sound_step : (x0 n k : ℕ) (d : Digits) → k < n → Sound x0 (n - k) d → Sound x0 (n - (k + 1)) (digit_step d)
sound_step x0 n k d h g = let e : n - k ≡ suc (n - (k + 1)) = omega arith in step_sound x0 (n - (k + 1)) d (subst (λ (m : ℕ). Sound x0 m d) e g)

pub sound_end : (a n : ℕ) (d : Digits) → a < 2 ^ 54 → n ≤ 0 → Sound (a * 1024) n d → (d.q ≡ whole_root (a * 2 ^ 52)) × (d.q * d.q + d.r ≡ a * 2 ^ 52)
sound_end a zero d h k g = sound_root a d h g
sound_end a (suc n) d h k g = absurd (not-suc-le-zero k)

pub nearest_fits : (a p : ℕ) → a < 2 ^ 54 → p ≡ nearest_root (a * 2 ^ 52) → p ≤ 2 ^ 53
nearest_fits a p h e = rw e (nearest_root_le (a * 2 ^ 52) (omega arith))

scale_more : (n s e : ℕ) → s < 2 ^ 52 → scale n (2 * s) (e - 1) ≡ scale (suc n) s e
unfolding scale
scale_more n s e h = rw (lt-ltb _ _ h)

-- after k of n doublings
pub scale-step : (n k s e : ℕ) → k < n → s < 2 ^ 52 → scale (n - (k + 1)) (s * 2) (e - 1) ≡ scale (n - k) s e
scale-step n k s e h l = let o : n - k ≡ suc (n - (k + 1)) = omega arith in let t : s * 2 ≡ 2 * s = omega arith in rw (o, t) (scale_more (n - (k + 1)) s e l)

pub scale_stop : (n s e : ℕ) → 2 ^ 52 ≤ s → ◌≡◌ {A = Scaled} (record { s = s; e = e }) (scale n s e)
unfolding scale
scale_stop zero s e k = refl
scale_stop (suc n) s e k = rw (le-ltb _ _ k)

pub scale-end : (n s e : ℕ) → n ≤ 0 → ◌≡◌ {A = Scaled} (record { s = s; e = e }) (scale n s e)
unfolding scale
scale-end zero s e k = refl
scale-end (suc n) s e k = absurd (not-suc-le-zero k)

pub low_is : (b : ℕ) → bit_and b 4503599627370495 ≡ b % 2 ^ 52
low_is b = and_mask b 52

-- ---- the halves of p
pub low_half_is : (p : ℕ) → bit_and p 67108863 ≡ p % 2 ^ 26
low_half_is p = and_mask p 26

low_half_lt : (p : ℕ) → bit_and p 67108863 ≤ 2 ^ 26
low_half_lt p = omega (arith, low_half_is p)

pub root_bits_is : (b : ℕ) (c : Scaled) (p : ℕ) → c ≡ scaled b → p ≡ nearest_root (evened c * 2 ^ 52) → packed c.e p ≡ root_bits b
unfolding root_bits
root_bits_is b c p e1 e2 = rw (← e1, ← e2)
