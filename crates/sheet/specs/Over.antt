-- When 5 refuses a graph, said of its states, arrows and lines; what is over higher limits is over lower ones, and a sheet that lower ones accept higher ones do. Assumes nothing.
use Rattle.std.specs.Prelude.{◌≡◌, refl, true, false, ◌||◌, ◌⊎◌, ℕ, ◌<◌, ltb, length}
use mathlib.Core.List.{List, [], ◌∷◌}
use Rattle.std.proofs.Common.{inl, inr, arith, ltb-true, ltb-false}
use Rattle.laws.specs.Any.{any_of, none_at, Somewhere, some_at}
use Rattle.laws.specs.Bools.{clash, or_cases}
use Rattle.laws.specs.Cases.{by_bool}
use Rattle.laws.specs.Refusals.{refusal, Clear, without, clear_none, clear_from}
use Rattle.sheet.specs.Sheet.{Graph, meaning}
use Rattle.sheet.specs.Meaning.{no_arrow, arrow_at}
use Rattle.sheet.specs.Refusals.{wrong_length, wrong_version, wrong_bytes, wrong_chains, AtMost, long_line, large_arrow, over_limits, refusals}
use Rattle.sheet.specs.Accepted.{line_at, few_states, few_arrows, few_lines, none_long}
use Rattle.sheet.specs.declared.Limits.{Limits}

-- no cause of 1, 2, 4 and 3 holds
pub record SoundSheet (s : List ℕ) : Type 0 where
  pub right : wrong_length s ≡ false
  pub first : wrong_version s ≡ false
  pub plain : wrong_bytes s ≡ false
  pub chained : wrong_chains s ≡ false

-- 'more states, arrows, lines or line bytes': than the limits, and than 96
pub data Over (m : Limits) (g : Graph) : Type 0 where
  over_states : m.states < length g.states → Over m g
  over_arrows : m.arrows < length g.arrows → Over m g
  over_lines : (k : ℕ) → k < length g.arrows → m.lines < length (arrow_at g k).lines → Over m g
  over_bytes : (k j : ℕ) → k < length g.arrows → j < length (arrow_at g k).lines → 96 < length (line_at g k j) → Over m g

module _ (m : Limits) (g : Graph) where
  large_over : (k : ℕ) → k < length g.arrows → large_arrow m (arrow_at g k) ≡ true → Over m g
  unfolding large_arrow
  large_over k h e = by (or_cases (ltb m.lines (length (arrow_at g k).lines)) (any_of long_line (arrow_at g k).lines) e)
    where
      by : (ltb m.lines (length (arrow_at g k).lines) ≡ true) ⊎ (any_of long_line (arrow_at g k).lines ≡ true) → Over m g
      by (inl t) = over_lines k h (ltb-true m.lines (length (arrow_at g k).lines) t)
      by (inr t) =
          let r : Somewhere long_line (arrow_at g k).lines [] = some_at long_line (arrow_at g k).lines [] t in
          over_bytes k r.place h r.inside (ltb-true 96 (length (line_at g k r.place)) r.holds)

  -- the cause of 5 holds exactly of such a graph
  pub over_is : over_limits m g ≡ true → Over m g
  unfolding over_limits
  over_is e = by (or_cases (ltb m.states (length g.states)) (ltb m.arrows (length g.arrows) || any_of (large_arrow m) g.arrows) e)
    where
      then : (ltb m.arrows (length g.arrows) ≡ true) ⊎ (any_of (large_arrow m) g.arrows ≡ true) → Over m g
      then (inl t) = over_arrows (ltb-true m.arrows (length g.arrows) t)
      then (inr t) = let r : Somewhere (large_arrow m) g.arrows no_arrow = some_at (large_arrow m) g.arrows no_arrow t in large_over r.place r.inside r.holds

      by : (ltb m.states (length g.states) ≡ true) ⊎ ((ltb m.arrows (length g.arrows) || any_of (large_arrow m) g.arrows) ≡ true) → Over m g
      by (inl t) = over_states (ltb-true m.states (length g.states) t)
      by (inr t) = then (or_cases (ltb m.arrows (length g.arrows)) (any_of (large_arrow m) g.arrows) t)

  not_few : Over m g → over_limits m g ≡ false → ⊥
  not_few (over_states h) o = omega (arith, h, ltb-false m.states (length g.states) (few_states m g o))
  not_few (over_arrows h) o = omega (arith, h, ltb-false m.arrows (length g.arrows) (few_arrows m g o))
  not_few (over_lines k i h) o = omega (arith, h, ltb-false m.lines (length (arrow_at g k).lines) (few_lines m g o k i))
  not_few (over_bytes k j i l h) o = omega (arith, h, ltb-false 96 (length (line_at g k j)) (none_at long_line (arrow_at g k).lines j [] (none_long m g o k i) l))

  pub is_over : Over m g → over_limits m g ≡ true
  is_over v = by_bool (over_limits m g) (λ t. t) (λ t. absurd (not_few v t))

-- What is over the higher limits is over the lower.
pub over_lower : (l m : Limits) (g : Graph) → AtMost l m → Over m g → Over l g
over_lower l m g a (over_states h) = over_states (omega (arith, h, a.states))
over_lower l m g a (over_arrows h) = over_arrows (omega (arith, h, a.arrows))
over_lower l m g a (over_lines k i h) = over_lines k i (omega (arith, h, a.lines))
over_lower l m g a (over_bytes k j i q h) = over_bytes k j i q h

-- A sheet that lower limits accept is accepted under higher ones.
pub clear_higher : (l m : Limits) (s : List ℕ) → AtMost l m → Clear (refusals l s) → Clear (refusals m s)
clear_higher l m s a c =
    let g = meaning s in
    let under : over_limits m g ≡ false = by_bool (over_limits m g) (λ t. clash (is_over l g (over_lower l m g a (over_is m g t))) (c.none 5)) (λ t. t) in
    clear_from (refusals m s) (refusal 5 (over_limits m g) ∷ []) (refusals l s) (without 5 under clear_none) c refl
