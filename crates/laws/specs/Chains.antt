-- The words of these laws in those of the library, for a chain of iterators whose result a contract states in ours. Assumes nothing.
use Rattle.std.specs.Prelude.{◌≡◌, Bool, true, false, cond, ◌||◌, ◌&&◌}
use Rattle.std.proofs.Math.Path.{refl}
use Rattle.std.proofs.Common.{ap, arith}
use Rattle.std.specs.List.{list_any, list_all, fold, filter, count_by, sum_by, range_with_len}
use mathlib.Core.List.{List, [], ◌∷◌}
use Prim.Native.Nat.{ℕ, zero, suc, ◌+◌, ◌-◌, ◌*◌}
use Rattle.std.proofs.Math.Numerals.{add-one}
use Rattle.laws.specs.Any.{any_of}
use Rattle.laws.specs.Every.{every}
use Rattle.laws.specs.Filter.{filter_by}
use Rattle.laws.specs.Counting.{how_many, worth}
use Rattle.laws.specs.Loops.{over, any_for, any_up}

pub any_list : {A : Type 0} (p : A → Bool) (l : List A) → any_of p l ≡ list_any p l
unfolding any_of
any_list p [] = refl
any_list p (x ∷ l) = ap (λ (b : Bool). p x || b) (any_list p l)

pub every_list : {A : Type 0} (p : A → Bool) (l : List A) → every p l ≡ list_all p l
unfolding every
every_list p [] = refl
every_list p (x ∷ l) = ap (λ (b : Bool). p x && b) (every_list p l)

pub filter_list : {A : Type 0} (p : A → Bool) (l : List A) → filter_by p l ≡ filter p l
unfolding filter_by
filter_list p [] = refl
filter_list {A} p (x ∷ l) = ap (λ (r : List A). cond (p x) (x ∷ r) r) (filter_list p l)

pub over_list : {A B : Type 0} (g : A → B → A) (a : A) (l : List B) → over g a l ≡ fold g a l
unfolding over
over_list g a [] = refl
over_list g a (x ∷ l) = over_list g (g a x) l

-- a sum whose start is not 0
sum_start : {A : Type 0} (f : A → ℕ) (a : ℕ) (l : List A) → fold (λ b x. b + f x) a l ≡ a + fold (λ b x. b + f x) 0 l
sum_start f a [] = omega arith
sum_start f a (x ∷ l) = let one = sum_start f (a + f x) l in let other = sum_start f (0 + f x) l in omega arith

pub worth_list : {A : Type 0} (p : A → Bool) (m : ℕ) (l : List A) → m * how_many p l ≡ sum_by (worth p m) l
unfolding how_many
worth_list p m [] = omega arith
worth_list p m (x ∷ l) =
    let rest = sum_start (worth p m) (0 + worth p m x) l in
    let here : m * (cond (p x) 1 0 + how_many p l) ≡ worth p m x + m * how_many p l = go (p x) (how_many p l) in
    let later = worth_list p m l in
    omega arith
  where
    go : (t : Bool) (n : ℕ) → m * (cond t 1 0 + n) ≡ cond t m 0 + m * n
    go true n = omega arith
    go false n = omega arith

pub how_many_list : {A : Type 0} (p : A → Bool) (l : List A) → how_many p l ≡ count_by p l
unfolding how_many
how_many_list p [] = refl
how_many_list p (x ∷ l) =
    let rest = sum_start (worth p 1) (0 + worth p 1 x) l in
    let later = how_many_list p l in
    omega arith

any_for_list : (p : ℕ → Bool) (m i : ℕ) → any_for p m i ≡ list_any p (range_with_len i m)
unfolding any_for
any_for_list p zero i = refl
any_for_list p (suc m) i = ap (λ (b : Bool). p i || b) (rw add-one (any_for_list p m (suc i)))

pub any_up_list : (p : ℕ → Bool) (i n : ℕ) → any_up p i n ≡ list_any p (range_with_len i (n - i))
unfolding any_up
any_up_list p i n = any_for_list p (n - i) i
