-- Two lists as one: element by element, as far as both go. What a read finds and what a store at the end of the first n leaves. Assumes nothing.
use Rattle.std.specs.Prelude.{◌≡◌, length, get_or, take}
use Rattle.std.proofs.Math.Path.{refl, ap, ap₂}
use Rattle.std.proofs.Common.{arith}
use mathlib.Core.List.{List, [], ◌∷◌, ◌++◌, map}
use Prim.Native.Nat.{ℕ, zero, suc, ◌<◌}

unfoldable pub zip_by : {A B C : Type 0} → (A → B → C) → List A → List B → List C
zip_by f [] ys = []
zip_by f (x ∷ xs) [] = []
zip_by f (x ∷ xs) (y ∷ ys) = f x y ∷ zip_by f xs ys

module _ {A B C : Type 0} (f : A → B → C) where
  pub zip_length : (xs : List A) (ys : List B) → length ys ≡ length xs → length (zip_by f xs ys) ≡ length xs
  unfolding zip_by
  zip_length [] ys h = refl
  zip_length (x ∷ xs) [] h = absurd (omega arith)
  zip_length (x ∷ xs) (y ∷ ys) h = ap suc (zip_length xs ys (omega arith))

  pub zip_at : (xs : List A) (ys : List B) (i : ℕ) (a : A) (b : B) (c : C) → length ys ≡ length xs → i < length xs → get_or (zip_by f xs ys) i c ≡ f (get_or xs i a) (get_or ys i b)
  unfolding zip_by
  zip_at [] ys i a b c h k = absurd (omega arith)
  zip_at (x ∷ xs) [] i a b c h k = absurd (omega arith)
  zip_at (x ∷ xs) (y ∷ ys) zero a b c h k = refl
  zip_at (x ∷ xs) (y ∷ ys) (suc i) a b c h k = zip_at xs ys i a b c (omega arith) (omega arith)

  zip_join : (xs us : List A) (ys vs : List B) → length ys ≡ length xs → zip_by f (xs ++ us) (ys ++ vs) ≡ zip_by f xs ys ++ zip_by f us vs
  unfolding zip_by
  zip_join [] us [] vs h = refl
  zip_join [] us (y ∷ ys) vs h = absurd (omega arith)
  zip_join (x ∷ xs) us [] vs h = absurd (omega arith)
  zip_join (x ∷ xs) us (y ∷ ys) vs h = ap (λ (l : List C). f x y ∷ l) (zip_join xs us ys vs (omega arith))

  -- the first and the second of each
  pub map_zip_first : (p : C → A) → ((a : A) (b : B) → p (f a b) ≡ a) → (xs : List A) (ys : List B) → length ys ≡ length xs → map p (zip_by f xs ys) ≡ xs
  unfolding zip_by
  map_zip_first p h [] ys n = refl
  map_zip_first p h (x ∷ xs) [] n = absurd (omega arith)
  map_zip_first p h (x ∷ xs) (y ∷ ys) n = ap₂ (λ (a : A) (l : List A). a ∷ l) (h x y) (map_zip_first p h xs ys (omega arith))

  pub map_zip_second : (p : C → B) → ((a : A) (b : B) → p (f a b) ≡ b) → (xs : List A) (ys : List B) → length ys ≡ length xs → map p (zip_by f xs ys) ≡ ys
  unfolding zip_by
  map_zip_second p h [] [] n = refl
  map_zip_second p h [] (y ∷ ys) n = absurd (omega arith)
  map_zip_second p h (x ∷ xs) [] n = absurd (omega arith)
  map_zip_second p h (x ∷ xs) (y ∷ ys) n = ap₂ (λ (b : B) (l : List B). b ∷ l) (h x y) (map_zip_second p h xs ys (omega arith))

  pub map_zip : {D : Type 0} (h : C → D) (xs : List A) (ys : List B) → map h (zip_by f xs ys) ≡ zip_by (λ a b. h (f a b)) xs ys
  unfolding zip_by
  map_zip h [] ys = refl
  map_zip h (x ∷ xs) [] = refl
  map_zip {D} h (x ∷ xs) (y ∷ ys) = ap (λ (l : List D). h (f x y) ∷ l) (map_zip h xs ys)

  pub take_zip : (k : ℕ) (xs : List A) (ys : List B) → take k (zip_by f xs ys) ≡ zip_by f (take k xs) (take k ys)
  unfolding zip_by
  take_zip zero xs ys = refl
  take_zip (suc k) [] ys = refl
  take_zip (suc k) (x ∷ xs) [] = refl
  take_zip (suc k) (x ∷ xs) (y ∷ ys) = ap (λ (l : List C). f x y ∷ l) (take_zip k xs ys)
