-- Lists read, and in part. Assumes nothing.
use Rattle.std.specs.Prelude.{◌≡◌, refl, List, [], ◌∷◌, map, ℕ, zero, suc, ◌+◌, ◌-◌, ◌≤◌, ◌<◌, length, get_or, take, drop}
use Rattle.std.proofs.Common.{sym, ap₂, ◌∙◌, not-suc-le-zero, le_of_suc-le-suc, arith, length-drop, length-take-le}
use Rattle.std.proofs.Math.Nat.{sub-zero, zero-sub}
use Rattle.std.proofs.lemmas.List.{length-map}
use Rattle.std.proofs.Math.ListN.{get_or-map}
use Rattle.std.proofs.Math.Seq.{take-nil}

-- a read within a list, whatever stands for the others
pub get_d_any : {A : Type 0} (l : List A) (i : ℕ) (a b : A) → i < length l → get_or l i a ≡ get_or l i b
get_d_any [] i a b h = absurd (not-suc-le-zero h)
get_d_any (x ∷ l) zero a b h = refl
get_d_any (x ∷ l) (suc i) a b h = get_d_any l i a b (le_of_suc-le-suc h)

pub map_at : {A B : Type 0} (f : A → B) (l : List A) (i : ℕ) (a : A) (d : B) → i < length l → f (get_or l i a) ≡ get_or (map f l) i d
map_at f l i a d h = sym (get_or-map f l i a) ∙ get_d_any (map f l) i (f a) d (omega (arith, length-map l f))

-- two lists, as long and alike at each place
pub map-alike : {A B C : Type 0} (f : A → C) (g : B → C) (l : List A) (m : List B) (a : A) (b : B) → length l ≡ length m
    → ((k : ℕ) → k < length l → f (get_or l k a) ≡ g (get_or m k b)) → map f l ≡ map g m
map-alike f g [] [] a b n e = refl
map-alike f g [] (y ∷ m) a b n e = absurd (omega arith)
map-alike f g (x ∷ l) [] a b n e = absurd (omega arith)
map-alike {C = C} f g (x ∷ l) (y ∷ m) a b n e =
    ap₂ (λ (c : C) (r : List C). c ∷ r) (e 0 (omega arith)) (map-alike f g l m a b (omega arith) (λ k h. e (suc k) (omega arith)))

-- ---- a part of a list
pub part_length : {A : Type 0} (a k : ℕ) (l : List A) → a + k ≤ length l → length (take k (drop a l)) ≡ k
part_length a k l h = length-take-le k (drop a l) (omega (arith, length-drop a l))

take-le : {A : Type 0} (k : ℕ) (l : List A) → length (take k l) ≤ length l
take-le zero l = omega arith
take-le (suc k) [] = omega arith
take-le (suc k) (x ∷ l) = omega (arith, take-le k l)

pub drop-take : {A : Type 0} (k m : ℕ) (l : List A) → drop k (take m l) ≡ take (m - k) (drop k l)
drop-take zero m l = rw sub-zero
drop-take (suc k) zero l = rw zero-sub
drop-take (suc k) (suc m) [] = sym (take-nil (suc m - suc k))
drop-take (suc k) (suc m) (x ∷ l) = let e : suc m - suc k ≡ m - k = omega arith in rw e (drop-take k m l)
