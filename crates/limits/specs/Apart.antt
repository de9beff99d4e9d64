-- Two lists of refusals that differ in one cause alone. Assumes nothing.
use Rattle.std.specs.Prelude.{◌≡◌, Bool, true, false, List, ◌∷◌, ◌++◌, ℕ}
use Rattle.std.proofs.Common.{sym, ◌∙◌}
use Rattle.laws.specs.Bools.{clash}
use Rattle.laws.specs.Cases.{by_bool}
use Rattle.laws.specs.Refusals.{Refusal, refusal, decide, decide-first, decide-rest, numbers_in, is_in, Clear, FirstOrClear, stops, goes, first_or_clear, first-listed, first_decides, first-joined, clear_decides, clear-joined}
use Rattle.calls.specs.Calls.{Outcome, values, number}
use Rattle.calls.specs.Decided.{number_same, number-apart}

module _ (before after : List Refusal) (n : ℕ) where
  -- the refusal n, with this cause, stands between them
  abbrev pub holding : Bool → List Refusal
  holding a = before ++ (refusal n a ∷ after)

  module _ {A : Type 0} (v : A) where
    abbrev told : Bool → Outcome A
    told a = decide (holding a) number (values v)

    -- it is given where its cause holds and no earlier one does
    pub given : (a : Bool) → Clear before → a ≡ true → told a ≡ number n
    given a c t = clear-joined number (values v) before (refusal n a ∷ after) c ∙ sym (decide-first n a after number (values v) t)

    fails : (a : Bool) → (told a ≡ number n → ⊥) → Clear before → a ≡ false
    fails a p c = by_bool a (λ t. absurd (p (given a c t))) (λ t. t)

    -- given under neither cause, the two lists decide alike
    pub alike_by : (a b : Bool) → (told a ≡ number n → ⊥) → (told b ≡ number n → ⊥) → (B : Type 0) (refuse : ℕ → B) (x : B) → decide (holding a) refuse x ≡ decide (holding b) refuse x
    alike_by a b p q B refuse x = by (first_or_clear before)
      where
        by : FirstOrClear before → decide (holding a) refuse x ≡ decide (holding b) refuse x
        by (stops k f) = first-joined refuse x before (refusal n a ∷ after) k f ∙ sym (first-joined refuse x before (refusal n b ∷ after) k f)
        by (goes c) =
            clear-joined refuse x before (refusal n a ∷ after) c
            ∙ sym (decide-rest n a after refuse x (fails a p c))
            ∙ decide-rest n b after refuse x (fails b q c)
            ∙ sym (clear-joined refuse x before (refusal n b ∷ after) c)

    -- a cause under which it is not given, and another that holds only where that does
    pub narrower : (a b : Bool) → (b ≡ true → a ≡ true) → (told a ≡ number n → ⊥) → told b ≡ number n → ⊥
    narrower a b h p e = by (first_or_clear before)
      where
        by : FirstOrClear before → ⊥
        by (stops k f) = p (first-joined number (values v) before (refusal n a ∷ after) k f ∙ sym (first-joined number (values v) before (refusal n b ∷ after) k f) ∙ e)
        by (goes c) =
            let none : b ≡ false = by_bool b (λ t. clash (h t) (fails a p c)) (λ t. t) in
            p (clear-joined number (values v) before (refusal n a ∷ after) c
            ∙ sym (decide-rest n a after number (values v) (fails a p c))
            ∙ decide-rest n b after number (values v) none
            ∙ sym (clear-joined number (values v) before (refusal n b ∷ after) c)
            ∙ e)

    -- no other refusal has its number: given, its cause holds and no earlier one does
    module _ (none_before : is_in n (numbers_in before) ≡ false) (none_after : is_in n (numbers_in after) ≡ false) where
      -- a list without the number does not give it
      unlisted : (rs : List Refusal) → is_in n (numbers_in rs) ≡ false → decide rs number (values v) ≡ number n → ⊥
      unlisted rs o e = by (first_or_clear rs)
        where
          by : FirstOrClear rs → ⊥
          by (stops k f) = let q : k ≡ n = number_same k n (sym (first_decides number (values v) rs k f) ∙ e) in clash (first-listed rs n (rw q at f)) o
          by (goes c) = number-apart v n (sym e ∙ clear_decides number (values v) rs c)

      pub cause_of_lem : (a : Bool) → told a ≡ number n → Clear before × (a ≡ true)
      cause_of_lem a e = by (first_or_clear before)
        where
          by : FirstOrClear before → Clear before × (a ≡ true)
          by (stops k f) =
              let q : k ≡ n = number_same k n (sym (first-joined number (values v) before (refusal n a ∷ after) k f) ∙ e) in
              clash (first-listed before n (rw q at f)) none_before
          by (goes c) = (
            c,
            by_bool a (λ t. t) (λ t. absurd (unlisted after none_after (decide-rest n a after number (values v) t ∙ sym (clear-joined number (values v) before (refusal n a ∷ after) c) ∙ e))),
          )
