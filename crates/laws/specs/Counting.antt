-- How many of a list pass a test, and sums with a weight for each that does: whole, and cut at a limit; a step of a loop over such a sum, and its end. Assumes nothing.
use Rattle.std.specs.Prelude.{◌≡◌, Bool, true, false, cond, not, ◌&&◌, length}
use Rattle.std.proofs.Math.Path.{refl}
use Rattle.std.proofs.Common.{ap, ap₂, ◌∙◌, arith}
use mathlib.Core.List.{List, [], ◌∷◌, ◌++◌, map, flat_map}
use Prim.Native.Nat.{ℕ, zero, suc, ◌+◌, ◌*◌, ◌≤◌, ◌<◌}
use borrow.Author.Tests.{le-leb, lt-leb}
use Rattle.laws.specs.Cases.{by_bool, by_lt}
use Rattle.laws.specs.Best.{total_from, cut_total}
use Rattle.laws.specs.Flat.{table}

-- ---- counting

unfoldable pub how_many : {A : Type 0} → (A → Bool) → List A → ℕ
how_many p [] = 0
how_many p (x ∷ l) = cond (p x) 1 0 + how_many p l

-- m for a thing that passes, else 0
abbrev pub worth : {A : Type 0} → (A → Bool) → ℕ → A → ℕ
worth p m x = cond (p x) m 0

pub worth-le : {A : Type 0} (p : A → Bool) (m : ℕ) (x : A) → worth p m x ≤ m
worth-le p m x = go (p x)
  where
    go : (b : Bool) → cond b m 0 ≤ m
    go true = omega arith
    go false = omega arith

pub how_many-le : {A : Type 0} (p : A → Bool) (l : List A) → how_many p l ≤ length l
unfolding how_many
how_many-le p [] = omega arith
how_many-le p (x ∷ l) = omega (arith, worth-le p 1 x, how_many-le p l)

-- a list's first thing, as a loop meets it
pub how_many-step : {A : Type 0} (p : A → Bool) (m a b : ℕ) (x : A) (l r : List A) → l ≡ x ∷ r → b ≡ worth p m x → (a + b) + m * how_many p r ≡ a + m * how_many p l
unfolding how_many
how_many-step p m a b x l r e f = rw (e, f) (go (p x))
  where
    go : (t : Bool) → (a + cond t m 0) + m * how_many p r ≡ a + m * (cond t 1 0 + how_many p r)
    go true = omega arith
    go false = omega arith

-- ---- of lists joined, and made of others; by several tests

pub how_many_join : {A : Type 0} (p : A → Bool) (l m : List A) → how_many p (l ++ m) ≡ how_many p l + how_many p m
unfolding how_many
how_many_join p [] m = omega arith
how_many_join p (x ∷ l) m = omega (arith, how_many_join p l m)

pub how_many-map : {A B : Type 0} (p : B → Bool) (f : A → B) (l : List A) → how_many p (map f l) ≡ how_many (λ x. p (f x)) l
unfolding how_many
how_many-map p f [] = refl
how_many-map p f (x ∷ l) = ap (λ (n : ℕ). cond (p (f x)) 1 0 + n) (how_many-map p f l)

-- one of each that is chosen
pub how_many-chosen : {A B : Type 0} (p : B → Bool) (q : A → Bool) (f : A → B) (l : List A) → how_many p (flat_map (λ x. cond (q x) (f x ∷ []) []) l) ≡ how_many (λ x. q x && p (f x)) l
unfolding how_many flat_map
how_many-chosen p q f [] = refl
how_many-chosen p q f (x ∷ l) = by_bool (q x) (λ t. rw t (ap (λ (n : ℕ). cond (p (f x)) 1 0 + n) (how_many-chosen p q f l))) (λ t. rw t (omega (arith, how_many-chosen p q f l)))

pub how_many-same : {A : Type 0} (p q : A → Bool) (l : List A) → ((x : A) → p x ≡ q x) → how_many p l ≡ how_many q l
unfolding how_many
how_many-same p q [] h = refl
how_many-same p q (x ∷ l) h = ap₂ (λ (b : Bool) (n : ℕ). cond b 1 0 + n) (h x) (how_many-same p q l h)

-- the things of two sorts, none of which is of both
pub how_many-both : {A : Type 0} (p q r : A → Bool) (l : List A) → ((x : A) → cond (p x) 1 0 + cond (q x) 1 0 ≡ cond (r x) 1 0) → how_many p l + how_many q l ≡ how_many r l
unfolding how_many
how_many-both p q r [] h = refl
how_many-both p q r (x ∷ l) h = omega (arith, h x, how_many-both p q r l h)

-- and all others
pub how_many-rest : {A : Type 0} (p : A → Bool) (l : List A) → how_many p l + how_many (λ x. not (p x)) l ≡ length l
unfolding how_many
how_many-rest p [] = refl
how_many-rest p (x ∷ l) = let e = how_many-rest p l in by_bool (p x) (λ t. rw t (omega arith)) (λ t. rw t (omega arith))

-- the sum of the weights
pub total-worth : {A : Type 0} (p : A → Bool) (m a : ℕ) (l : List A) → total_from a (map (worth p m) l) ≡ a + m * how_many p l
unfolding total_from how_many
total-worth p m a [] = omega arith
total-worth p m a (x ∷ l) = total-worth p m (a + worth p m x) l ∙ how_many-step p m a (worth p m x) x (x ∷ l) l refl refl

-- ---- one run of items after another

pub total-append : (a : ℕ) (xs ys : List ℕ) → total_from a (xs ++ ys) ≡ total_from (total_from a xs) ys
unfolding total_from
total-append a [] ys = refl
total-append a (x ∷ xs) ys = total-append (a + x) xs ys

cut-over : (l a : ℕ) (xs : List ℕ) → l ≤ a → cut_total l a xs ≡ a
unfolding cut_total
cut-over l a [] h = refl
cut-over l a (x ∷ xs) h = rw (le-leb _ _ h)

pub cut-append : (l a : ℕ) (xs ys : List ℕ) → cut_total l (cut_total l a xs) ys ≡ cut_total l a (xs ++ ys)
unfolding cut_total
cut-append l a [] ys = refl
cut-append l a (x ∷ xs) ys = by_lt a l (λ (h : a < l). rw (lt-leb _ _ h) (cut-append l (a + x) xs ys)) (λ (h : l ≤ a). rw (le-leb _ _ h) (cut-over l a ys h))

pub table-length : {A : Type 0} (g : ℕ → A) (k n : ℕ) → length (table g k n) ≡ n
unfolding table
table-length g k zero = refl
table-length g k (suc n) = ap suc (table-length g (suc k) n)
