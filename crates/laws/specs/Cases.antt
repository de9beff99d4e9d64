-- By cases on a computed test, with what the test says. Assumes nothing.
use Rattle.std.specs.Prelude.{◌≡◌, refl, Bool, true, false, ℕ, ◌≤◌, ◌<◌, T, ltb}
use Rattle.std.proofs.Common.{sym, subst, ltb-true, ltb-false}

pub by_bool : {C : Type 0} (b : Bool) → (b ≡ true → C) → (b ≡ false → C) → C
by_bool true f g = f refl
by_bool false f g = g refl

pub by_lt : {C : Type 0} (a b : ℕ) → (a < b → C) → (b ≤ a → C) → C
by_lt {C} a b f g = by_bool (ltb a b) (λ e. f (ltb-true a b e)) (λ e. g (ltb-false a b e))

-- an equation with true or false, and what holds
pub holds : {b : Bool} → b ≡ true → T b
holds e = subst T (sym e) tt

pub fails : (b : Bool) → (T b → ⊥) → b ≡ false
fails true f = absurd (f tt)
fails false f = refl

pub is_true : (b : Bool) → T b → b ≡ true
is_true true t = refl
is_true false t = absurd t

pub not-both : {b : Bool} → T b → b ≡ false → ⊥
not-both t e = subst T e t
