-- An array made by a function of the index. Assumes nothing.
use Rattle.std.specs.Prelude.{◌≡◌, ℕ, zero, suc, ◌+◌, ◌<◌, List, map}
use Rattle.std.proofs.Common.{◌∙◌, subst, arith, add-zero, zero-add}
use Rattle.std.proofs.lemmas.List.FromFn.{fill_by_all}
use Rattle.std.specs.List.{range_with_len}
use Rattle.std.specs.Array.{IsFromFnResult, IsFromFnResultFrom}
use lib.ListN.{get_or}
use denote.Param.Members.{Mut, Called}

-- where each call leaves the function as it was and gives h of the index
module _ {F B : Type 0} (g : Mut F (ℕ × Unit {0}) B) (f : F) (h : ℕ → B)
    (calls : (q : F) (i : ℕ) (y : B) → Called g f (i, tt) y q → (y ≡ h i) × (q ≡ f)) where
  each_is : (ys : List B) (i n : ℕ) → IsFromFnResultFrom g f ys i n → (k : ℕ) (d : B) → k < n → get_or ys (i + k) d ≡ h (i + k)
  each_is ys i zero r k d l = absurd (omega (arith, l))
  each_is ys i (suc n) r zero d l = rw add-zero (r.2.1 d ∙ (calls r.0 i r.1 r.3).0)
  each_is ys i (suc n) r (suc k) d l =
      let rest : IsFromFnResultFrom g f ys (i + 1) n = subst (λ q. IsFromFnResultFrom g q ys (i + 1) n) (calls r.0 i r.1 r.3).1 r.4 in
      let e : i + 1 + k ≡ i + suc k = omega arith in
      subst (λ j. get_or ys j d ≡ h j) e (each_is ys (i + 1) n rest k d (omega (arith, l)))

  pub made_is : (ys : List B) (n : ℕ) (d : B) → IsFromFnResult g f ys n → ys ≡ map h (range_with_len 0 n)
  made_is ys n d r = fill_by_all h ys n d r.long (λ k l. subst (λ j. get_or ys j d ≡ h j) (zero-add k) (each_is ys 0 n r.each k d l))
