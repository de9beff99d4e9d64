-- Things by number, f k, f (k + 1) .., as a list: one read, the first and the rest, another function, what a map and a fold make of them. Assumes nothing.
use Rattle.std.specs.Prelude.{◌≡◌, length, get_or, take}
use Rattle.std.proofs.Math.Path.{refl, ap, ap₂}
use Rattle.std.proofs.Common.{◌∙◌, not-suc-le-zero, le_of_suc-le-suc, add-one}
use mathlib.Core.List.{List, [], ◌∷◌, map}
use Prim.Native.Nat.{ℕ, zero, suc, ◌+◌, ◌-◌, ◌≤◌, ◌<◌}
use Rattle.std.proofs.Math.Nat.{add-zero}
use native.Mathlib.Omega.{arith}
use Rattle.laws.specs.Flat.{table}
use Rattle.laws.specs.Zip.{zip_by}

module _ {A : Type 0} where
  pub table_at : (f : ℕ → A) (k n i : ℕ) (d : A) → i < n → get_or (table f k n) i d ≡ f (k + i)
  unfolding table
  table_at f k zero i d h = absurd (not-suc-le-zero h)
  table_at f k (suc n) zero d h = rw add-zero
  table_at f k (suc n) (suc i) d h = table_at f (suc k) n i d (le_of_suc-le-suc h) ∙ ap f (omega arith)

  -- from the next number on
  pub table-next : (f g : ℕ → A) (k n : ℕ) → ((j : ℕ) → f (suc j) ≡ g j) → table f (suc k) n ≡ table g k n
  unfolding table
  table-next f g k zero h = refl
  table-next f g k (suc n) h = ap₂ (λ (x : A) (l : List A). x ∷ l) (h k) (table-next f g (suc k) n h)

  pub table_same : (f g : ℕ → A) (k n : ℕ) → ((j : ℕ) → k ≤ j → f j ≡ g j) → table f k n ≡ table g k n
  unfolding table
  table_same f g k zero h = refl
  table_same f g k (suc n) h = ap₂ (λ (x : A) (l : List A). x ∷ l) (h k (omega arith)) (table_same f g (suc k) n (λ j i. h j (omega arith)))

  pub table-take : (f : ℕ → A) (k m n : ℕ) → m ≤ n → take m (table f k n) ≡ table f k m
  unfolding table
  table-take f k zero n h = refl
  table-take f k (suc m) zero h = absurd (not-suc-le-zero h)
  table-take f k (suc m) (suc n) h = ap (λ (l : List A). f k ∷ l) (table-take f (suc k) m n (le_of_suc-le-suc h))

-- ---- the first of n and the rest, as a loop meets them
module _ {A : Type 0} (g : ℕ → A) where
  pub table-first : (k n : ℕ) → 0 < n → table g k n ≡ g k ∷ table g (k + 1) (n - 1)
  unfolding table
  table-first k zero h = absurd (not-suc-le-zero h)
  table-first k (suc n) h = let e : suc n - 1 ≡ n = omega arith in rw (e, add-one)

  pub table_none : (k n : ℕ) → n ≤ 0 → table g k n ≡ []
  unfolding table
  table_none k zero h = refl
  table_none k (suc n) h = absurd (not-suc-le-zero h)

  pub table_front : (k n : ℕ) → k < n → table g k (n - k) ≡ g k ∷ table g (k + 1) (n - (k + 1))
  table_front k n h = let e : n - k - 1 ≡ n - (k + 1) = omega arith in table-first k (n - k) (omega arith) ∙ ap (λ (m : ℕ). g k ∷ table g (k + 1) m) e

  pub table-past : (k n : ℕ) → n ≤ k → table g k (n - k) ≡ []
  table-past k n h = table_none k (n - k) (omega arith)

  pub map-table : {B : Type 0} (f : A → B) (k n : ℕ) → map f (table g k n) ≡ table (λ i. f (g i)) k n
  unfolding table
  map-table f k zero = refl
  map-table {B} f k (suc n) = ap (λ (l : List B). f (g k) ∷ l) (map-table f (suc k) n)

-- what is made of each element of a list
pub table_of : {A B : Type 0} (f : ℕ → B) (g : A → B) (l : List A) (d : A) → ((k : ℕ) → k < length l → f k ≡ g (get_or l k d)) → table f 0 (length l) ≡ map g l
unfolding table
table_of f g [] d h = refl
table_of {A} {B} f g (x ∷ l) d h =
    ap₂ (λ (y : B) (m : List B). y ∷ m) (h 0 (omega arith))
    (table-next f (λ k. f (suc k)) 0 (length l) (λ j. refl) ∙ table_of (λ k. f (suc k)) g l d (λ k i. h (suc k) (omega arith)))

pub zip_tables : {A B C : Type 0} (f : A → B → C) (g : ℕ → A) (h : ℕ → B) (k n : ℕ) → zip_by f (table g k n) (table h k n) ≡ table (λ j. f (g j) (h j)) k n
unfolding zip_by table
zip_tables f g h k zero = refl
zip_tables {C = C} f g h k (suc n) = ap (λ (l : List C). f (g k) (h k) ∷ l) (zip_tables f g h (suc k) n)
