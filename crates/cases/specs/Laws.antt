-- Of NaN's patterns, of equal bits, of the first of some floats, and of the kinds' numbers. Assumes nothing.
use Rattle.std.specs.Prelude.{◌≡◌, ℕ, zero, suc, ◌+◌, ◌-◌, ◌*◌, ◌%◌, ◌^◌, ◌<◌, ◌≤◌, true, false, not, T, List, [], ◌∷◌, ◌++◌, length, take, drop, ◌==◌, from_bits, slice_set, to_bits, Float}
use Rattle.std.proofs.Math.Path.{refl, ap}
use Rattle.std.proofs.Common.{sym, ap₂, ◌∙◌, true≢false, not-suc-le-zero, le_of_suc-le-suc, add-one, le-ltb, lt-ltb, eq-eqb, ne_eqb, length-drop, take_all, take-suc-set}
use mathlib.Core.List.{append_assoc, append-nil}
use native.Mathlib.Omega.{arith}
use Rattle.std.specs.Float.{nan, binary64}
use Rattle.std.specs.Float.Ieee.{fits, nan_bits}
use Rattle.std.specs.Float.Ieee.Bits.{of_bits-to_bits, nan_bits_above, nan_bits_is}
use Rattle.laws.specs.Cases.{by_bool}
use Rattle.float.specs.Ops.{ne}
use Rattle.laws.specs.Nan.{is_nan_lem, nan_test}
use Rattle.cases.specs.Payload.{after, each}
use Rattle.cases.specs.Kinds.{stand_in_number, call_number}
use Rattle.cases.specs.declared.kind.StandIn.{StandIn}
use Rattle.cases.specs.declared.kind.StandIn.TheVariants as stand_in
use Rattle.cases.specs.declared.kind.Call.{Call}
use Rattle.cases.specs.declared.kind.Call.TheVariants as call

-- ---- patterns

pub pattern_nan : (b : ℕ) → 2047 * 2 ^ 52 < b % 2 ^ 63 → from_bits binary64 b ≡ nan
pattern_nan b h = is_nan_lem (from_bits binary64 b) (nan_test (from_bits binary64 b) ∙ sym (nan_bits_is binary64 b) ∙ nan_bits_above binary64 b ∙ lt-ltb _ _ h)

pub pattern_number : (b : ℕ) → b % 2 ^ 63 ≤ 2047 * 2 ^ 52 → T (not (nan_bits binary64 b))
pattern_number b h = rw (nan_bits_above binary64 b, le-ltb (2047 * 2 ^ 52) (b % 2 ^ 63) h) tt

pub same_bits_lem : (a b : Float) → T (fits binary64 a) → T (fits binary64 b) → to_bits binary64 a ≡ to_bits binary64 b → a ≡ b
same_bits_lem a b f g e = sym (of_bits-to_bits binary64 a f) ∙ ap (from_bits binary64) e ∙ of_bits-to_bits binary64 b g

-- no number has NaN's bits
pub bits_of_nan : (a b : Float) → T (fits binary64 a) → T (fits binary64 b) → ne a a ≡ true → (to_bits binary64 a == to_bits binary64 b) ≡ ne b b
bits_of_nan a b f g e =
    by_bool (ne b b)
    (λ (h : ne b b ≡ true). eq-eqb _ _ (ap (to_bits binary64) (is_nan_lem a e ∙ sym (is_nan_lem b h))) ∙ sym h)
    (λ (h : ne b b ≡ false). ne_eqb _ _ (λ q. true≢false (sym e ∙ ap₂ ne (same_bits_lem a b f g q) (same_bits_lem a b f g q) ∙ h)) ∙ sym h)

pub bits_of_number : (a b : Float) → T (fits binary64 a) → T (fits binary64 b) → ne a a ≡ false → ne b b ≡ true → (to_bits binary64 a == to_bits binary64 b) ≡ false
bits_of_number a b f g h e = ne_eqb _ _ (λ q. true≢false (sym e ∙ ap₂ ne (sym (same_bits_lem a b f g q)) (sym (same_bits_lem a b f g q)) ∙ h))

-- ---- things one after the other

module _ {A : Type 0} (w : ℕ) (read : ℕ → A) where
  each_more : (at m : ℕ) → 0 < m → each w read at m ≡ read at ∷ each w read (after at w) (m - 1)
  unfolding each
  each_more at zero h = absurd (not-suc-le-zero h)
  each_more at (suc m) h = let e : suc m - 1 ≡ m = omega arith in rw e

  pub each_first : (at n m : ℕ) → n ≤ m → take n (each w read at m) ≡ each w read at n
  unfolding each
  each_first at zero m h = refl
  each_first at (suc n) zero h = absurd (not-suc-le-zero h)
  each_first at (suc n) (suc m) h = ap (λ (l : List A). read at ∷ l) (each_first (after at w) n m (le_of_suc-le-suc h))

  pub each-length : (at n : ℕ) → length (each w read at n) ≡ n
  unfolding each
  each-length at zero = refl
  each-length at (suc n) = ap suc (each-length (after at w) n)

  -- a loop that has read k of n: its start, a step, and its end
  pub each_start : (from n : ℕ) → each w read from (n - 0) ≡ each w read from n
  each_start from n = let e : n - 0 ≡ n = omega arith in rw e

  pub each_step : (done : List A) (k from n : ℕ) → k < n → (done ++ (read from ∷ [])) ++ each w read (after from w) (n - (k + 1)) ≡ done ++ each w read from (n - k)
  each_step done k from n h =
      let d : n - (k + 1) ≡ n - k - 1 = omega arith in
      let i : 0 < n - k = omega arith in
      rw (d, append_assoc) (ap (λ (l : List A). done ++ l) (sym (each_more from (n - k) i)))

  pub each-end : (done : List A) (k from n : ℕ) → n ≤ k → done ++ each w read from (n - k) ≡ done
  unfolding each
  each-end done k from n h = let d : n - k ≡ 0 = omega arith in rw (d, append-nil done)

  -- the same where each is stored
  pub each_fill_step : (out : List A) (k from n : ℕ) → k < length out → length out ≡ n → take (k + 1) (slice_set out k (read from)) ++ each w read (after from w) (n - (k + 1)) ≡ take k out ++ each w read from (n - k)
  each_fill_step out k from n h e =
      let t : take (k + 1) (slice_set out k (read from)) ≡ take k out ++ (read from ∷ []) = rw add-one (take-suc-set out k (read from) h) in
      rw t (each_step (take k out) k from n (omega arith))

  pub each_fill_end : (out : List A) (k from n : ℕ) → length out ≤ k → length out ≡ n → take k out ++ each w read from (n - k) ≡ out
  each_fill_end out k from n h e = each-end (take k out) k from n (omega arith) ∙ take_all k out h

-- ---- a part of a slice that goes to its end

pub part-tail : {A : Type 0} (k : ℕ) (l : List A) → take (length l - k) (drop k l) ≡ drop k l
part-tail k l = take_all (length l - k) (drop k l) (simp length-drop (omega arith))

-- ---- numbers: the stand-ins' lie below the calls', and these below 68

pub stand_in_low : (f : StandIn) → stand_in_number f ≤ 16
stand_in_low stand_in.Root = omega arith
stand_in_low stand_in.Hypot = omega arith
stand_in_low stand_in.Midpoint = omega arith
stand_in_low stand_in.RemEuclid = omega arith
stand_in_low stand_in.Sin = omega arith
stand_in_low stand_in.Cos = omega arith
stand_in_low stand_in.Atan2 = omega arith
stand_in_low stand_in.Min = omega arith
stand_in_low stand_in.Max = omega arith
stand_in_low stand_in.Round = omega arith
stand_in_low stand_in.Abs = omega arith
stand_in_low stand_in.Clamp = omega arith
stand_in_low stand_in.Signum = omega arith
stand_in_low stand_in.Copysign = omega arith
stand_in_low stand_in.TotalCmp = omega arith
stand_in_low stand_in.RemTau = omega arith

pub call_between : (c : Call) → (60 ≤ call_number c) × (call_number c < 68)
call_between call.Route = (omega arith, omega arith)
call_between call.Layout = (omega arith, omega arith)
call_between call.Clutter = (omega arith, omega arith)
call_between call.List = (omega arith, omega arith)
call_between call.Check = (omega arith, omega arith)
call_between call.LabelSize = (omega arith, omega arith)
call_between call.WriteNum = (omega arith, omega arith)
call_between call.WriteSheet = (omega arith, omega arith)
