-- A run at whose turns a place costs nothing and each before it something takes those places: so the places after them need not be costed. Assumes nothing.
use Rattle.std.specs.Prelude.{◌≡◌, Bool, true, false, ◌&&◌, ℕ, zero, suc, ◌≤◌, ◌<◌, ltb, eqb}
use Rattle.std.proofs.Math.Path.{refl, ap}
use Rattle.std.proofs.Common.{sym, ◌∙◌, true≢false, not-suc-le-zero, arith, ltb-true, eqb-true}
use mathlib.Core.List.{List, [], ◌∷◌}
use Rattle.laws.specs.Cases.{by_bool, by_lt}
use Rattle.laws.specs.Best.{best}
use Rattle.laws.proofs.Best.{best_is, first_least_unique}
use Rattle.laws.specs.Run as Run

-- every place before p costs something
abbrev pub dear : (ℕ → ℕ) → ℕ → Bool
dear cost zero = true
dear cost (suc p) = ltb 0 (cost p) && dear cost p

both : {C : Type 0} (a b : Bool) → (a && b) ≡ true → (a ≡ true → b ≡ true → C) → C
both a b e f = by_bool a (λ t. f t (rw t at e)) (λ t. absurd (true≢false (sym e ∙ rw t)))

dear-all : (cost : ℕ → ℕ) (p : ℕ) → dear cost p ≡ true → (j : ℕ) → j < p → 0 < cost j
dear-all cost zero e j h = absurd (not-suc-le-zero h)
dear-all cost (suc p) e j h =
    both (ltb 0 (cost p)) (dear cost p) e
    (λ a b. by_lt j p (dear-all cost p b j) (λ (k : p ≤ j). let q : p ≡ j = omega arith in rw q at (ltb-true 0 (cost p) a)))

first-free : (cost : ℕ → ℕ) (n p : ℕ) → p < suc n → cost p ≡ 0 → dear cost p ≡ true → best cost (suc n) ≡ p
first-free cost n p i z d =
    first_least_unique cost (suc n) (best cost (suc n)) p (best_is cost n)
    (record { inside = i; least = λ j h. omega arith; first = λ j h. omega (arith, dear-all cost p d j h) })

module _ {S T : Type 0} (places : S → T → ℕ) (cost : S → T → ℕ → ℕ) (after : S → T → ℕ → S) where
  -- the places ps, one a turn: each is listed, costs nothing, and each before it costs something
  abbrev pub free : S → List T → List ℕ → Bool
  free s [] [] = true
  free s [] (p ∷ ps) = false
  free s (t ∷ ts) [] = false
  free s (t ∷ ts) (p ∷ ps) = ltb p (suc (places s t)) && (eqb (cost s t p) 0 && (dear (cost s t) p && free (after s t p) ts ps))

  pub free-taken : (s : S) (ts : List T) (ps : List ℕ) → free s ts ps ≡ true → Run.run places cost after s ts ≡ ps
  unfolding Run.run
  free-taken s [] [] e = refl
  free-taken s [] (p ∷ ps) e = absurd (true≢false (sym e))
  free-taken s (t ∷ ts) [] e = absurd (true≢false (sym e))
  free-taken s (t ∷ ts) (p ∷ ps) e =
      both (ltb p (suc (places s t))) _ e
      (λ a e₁. both (eqb (cost s t p) 0) _ e₁
      (λ b e₂. both (dear (cost s t) p) _ e₂
      (λ c e₃.
      let q : Run.taken_by places cost after s t ≡ p = first-free (cost s t) (places s t) p (ltb-true p (suc (places s t)) a) (eqb-true (cost s t p) 0 b) c in
      ap (λ (k : ℕ). k ∷ Run.run places cost after (after s t k) ts) q ∙ ap (λ (l : List ℕ). p ∷ l) (free-taken (after s t p) ts ps e₃))))
