-- What a loop computes, as a definition, with the laws that the loop's proof needs: one step, and the end.
-- Assumes nothing.
use Rattle.std.specs.Prelude.{◌≡◌, Bool, true, false, ◌||◌, length, get_or}
use Rattle.std.proofs.Math.Path.{refl}
use Rattle.std.proofs.Common.{◌∙◌, add-one}
use mathlib.Core.List.{List, [], ◌∷◌, ◌++◌, map}
use Prim.Native.Nat.{ℕ, zero, suc, ◌+◌, ◌-◌, ◌≤◌, ◌<◌}
use Rattle.std.proofs.Math.Nat.{sub-zero}
use native.Mathlib.Omega.{arith}

-- one thing less is left
pub less_one : (k : ℕ) → suc k - 1 ≡ k
less_one k = omega arith

-- m steps from i on
unfoldable pub steps_from : {A : Type 0} → (ℕ → A → A) → ℕ → ℕ → A → A
steps_from f zero i a = a
steps_from f (suc m) i a = steps_from f m (suc i) (f i a)

-- `for i in i..n { a = f(i, a); }`
unfoldable pub up : {A : Type 0} → (ℕ → A → A) → ℕ → ℕ → A → A
unfolding steps_from
up f i n a = steps_from f (n - i) i a

-- `for k = k down to 1 { a = f(k, a); }`
unfoldable pub down : {A : Type 0} → (ℕ → A → A) → ℕ → A → A
down f zero a = a
down f (suc k) a = down f k (f (suc k) a)

-- whether p holds of one of m numbers from i on
unfoldable pub any_for : (ℕ → Bool) → ℕ → ℕ → Bool
any_for p zero i = false
any_for p (suc m) i = p i || any_for p m (suc i)

-- whether p holds of some number from i to n - 1
unfoldable pub any_up : (ℕ → Bool) → ℕ → ℕ → Bool
unfolding any_for
any_up p i n = any_for p (n - i) i

-- a fold over a list's elements, for a reader who prefers it to one over indices
unfoldable pub over : {A B : Type 0} → (A → B → A) → A → List B → A
over g a [] = a
over g a (x ∷ l) = over g (g a x) l

module _ {A : Type 0} (f : ℕ → A → A) where
  pub up_step : (i n : ℕ) (a : A) → i < n → up f i n a ≡ up f (i + 1) n (f i a)
  unfolding up steps_from
  up_step i n a h = let e : n - i ≡ suc (n - (i + 1)) = omega arith in rw (e, add-one)

  pub up_done : (i n : ℕ) (a : A) → n ≤ i → up f i n a ≡ a
  unfolding up steps_from
  up_done i n a h = let e : n - i ≡ 0 = omega arith in rw e

  pub down_step : (k : ℕ) (a : A) → 0 < k → down f k a ≡ down f (k - 1) (f k a)
  unfolding down
  down_step zero a h = absurd (omega arith)
  down_step (suc k) a h = let e : suc k - 1 ≡ k = omega arith in rw e

  pub down_done : (k : ℕ) (a : A) → k ≤ 0 → down f k a ≡ a
  unfolding down
  down_done zero a h = refl
  down_done (suc k) a h = absurd (omega arith)

-- what every step keeps, a loop keeps
module _ {A : Type 0} (P : A → Type 0) where
  turns-keep : (f : ℕ → A → A) → ((i : ℕ) (a : A) → P a → P (f i a)) → (m i : ℕ) (a : A) → P a → P (steps_from f m i a)
  unfolding steps_from
  turns-keep f k zero i a p = p
  turns-keep f k (suc m) i a p = turns-keep f k m (suc i) (f i a) (k i a p)

  pub up_keeps : (f : ℕ → A → A) → ((i : ℕ) (a : A) → P a → P (f i a)) → (i n : ℕ) (a : A) → P a → P (up f i n a)
  unfolding up
  up_keeps f k i n a p = turns-keep f k (n - i) i a p

  pub down_keeps : (f : ℕ → A → A) → ((i : ℕ) (a : A) → P a → P (f i a)) → (n : ℕ) (a : A) → P a → P (down f n a)
  unfolding down
  down_keeps f k zero a p = p
  down_keeps f k (suc n) a p = down_keeps f k n (f (suc n) a) (k (suc n) a p)

  pub over_keeps : {B : Type 0} (f : A → B → A) → ((a : A) (b : B) → P a → P (f a b)) → (a : A) (l : List B) → P a → P (over f a l)
  unfolding over
  over_keeps f k a [] p = p
  over_keeps f k a (b ∷ l) p = over_keeps f k (f a b) l (k a b p)

module _ (p : ℕ → Bool) where
  pub any_hit : (i n : ℕ) → i < n → p i ≡ true → any_up p i n ≡ true
  unfolding any_up any_for
  any_hit i n h t = let e : n - i ≡ suc (n - (i + 1)) = omega arith in rw (e, t)

  pub any_miss : (i n : ℕ) → i < n → p i ≡ false → any_up p i n ≡ any_up p (i + 1) n
  unfolding any_up any_for
  any_miss i n h t = let e : n - i ≡ suc (n - (i + 1)) = omega arith in rw (e, t, add-one)

  pub any_done : (i n : ℕ) → n ≤ i → any_up p i n ≡ false
  unfolding any_up any_for
  any_done i n h = let e : n - i ≡ 0 = omega arith in rw e

-- a fold over two lists joined is one fold after the other
pub over_join : {A B : Type 0} (g : A → B → A) (a : A) (p q : List B) → over g a (p ++ q) ≡ over g (over g a p) q
unfolding over
over_join g a [] q = refl
over_join g a (x ∷ p) q = over_join g (g a x) p q

pub over-map : {A B C : Type 0} (g : A → C → A) (f : B → C) (a : A) (l : List B) → over g a (map f l) ≡ over (λ a x. g a (f x)) a l
unfolding over
over-map g f a [] = refl
over-map g f a (x ∷ l) = over-map g f (g a (f x)) l

module _ {A B : Type 0} (g : A → B → A) (d : B) where
  shift : (x : B) (l : List B) (m i : ℕ) (a : A) → steps_from (λ j b. g b (get_or (x ∷ l) j d)) m (suc i) a ≡ steps_from (λ j b. g b (get_or l j d)) m i a
  unfolding steps_from
  shift x l zero i a = refl
  shift x l (suc m) i a = shift x l m (suc i) (g a (get_or l i d))

  turns-over : (l : List B) (a : A) → steps_from (λ j b. g b (get_or l j d)) (length l) 0 a ≡ over g a l
  unfolding steps_from over
  turns-over [] a = refl
  turns-over (x ∷ l) a = shift x l (length l) 0 (g a x) ∙ turns-over l (g a x)
