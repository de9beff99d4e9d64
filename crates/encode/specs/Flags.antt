-- Flags up to a bound, said of each state and of all. Assumes nothing.
use Rattle.std.specs.Prelude.{◌≡◌, Bool, false, ℕ, ◌≤◌, ◌<◌, ltb, length, get_or}
use Rattle.std.proofs.Common.{sym, ◌∙◌, arith, ltb-false, le-ltb}
use Rattle.std.proofs.lemmas.List.{length-map}
use Rattle.laws.specs.Any.{any_of, any_map, none_at, none_all}
use Rattle.sheet.specs.Sheet.{State, Graph, flags_of}

-- the flags of a state are above b
abbrev pub flags_above : ℕ → State → Bool
flags_above b a = ltb b a.flags

module _ (b : ℕ) (g : Graph) where
  flags-many : length (flags_of g) ≡ length g.states
  flags-many = length-map g.states (λ (a : State). a.flags)

  pub none_above : ((k : ℕ) → k < length g.states → get_or (flags_of g) k 0 ≤ b) → any_of (flags_above b) g.states ≡ false
  none_above h =
      sym (any_map (ltb b) (λ (a : State). a.flags) g.states)
      ∙ none_all (ltb b) (flags_of g) 0 (λ k l. le-ltb b (get_or (flags_of g) k 0) (h k (omega (arith, flags-many))))

  pub each_below_lem : any_of (flags_above b) g.states ≡ false → (k : ℕ) → k < length g.states → get_or (flags_of g) k 0 ≤ b
  each_below_lem e k h =
      ltb-false b (get_or (flags_of g) k 0)
      (none_at (ltb b) (flags_of g) k 0 (any_map (ltb b) (λ (a : State). a.flags) g.states ∙ e) (omega (arith, flags-many)))
