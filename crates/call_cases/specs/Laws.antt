-- What a call leaves around the middle that it was lent, the first of some floats, and tests that were made. Assumes nothing.
use Rattle.std.specs.Prelude.{◌≡◌, ◌≢◌, refl, Bool, false, List, ◌++◌, Some, None, ℕ, ◌+◌, ◌≤◌, eqb, length, take, drop, Float}
use Rattle.std.proofs.Common.{sym, ap, ◌∙◌, arith, length-drop, length-take-le}
use borrow.Author.Tests.{ne_eqb}
use Rattle.cases.specs.Kinds.{stand_in_number, call_number, kind_number, right_of}
use Rattle.cases.specs.declared.kind.StandIn.{StandIn}
use Rattle.cases.specs.declared.kind.Call.{Call}
use Rattle.cases.specs.declared.kind.Call.TheVariants as call
use Rattle.cases.specs.declared.kind.Kind.{Kind}
use Rattle.cases.specs.declared.kind.Kind.TheVariants as kind
use Rattle.cases.specs.Payload.{float_at, floats_at}
use Rattle.cases.specs.Laws.{each_first, stand_in_low, call_between}
use Rattle.calls.specs.Calls.{main_screen}
use Rattle.call_cases.specs.Cases.{Case, around, called, called_under, call_of, under_limits_agrees, call_agrees}

-- the middle has as many places as were lent
pub lent-many : {A : Type 0} (room k : ℕ) (l : List A) → k ≡ room → 16 + room ≤ length l → length (take k (drop 16 l)) ≡ room
lent-many room k l e h = rw e (length-take-le room (drop 16 l) (simp length-drop (omega arith)))

pub middle_back : {A : Type 0} (room k : ℕ) (l back : List A) (call : List A → List A) → k ≡ room → back ≡ call (take room (drop 16 l)) → take 16 l ++ (back ++ drop k (drop 16 l)) ≡ around room call l
middle_back room k l back call e h = rw (e, h)

pub first_floats : (p : List ℕ) (at n m : ℕ) (l : List Float) → l ≡ floats_at p at m → n ≤ m → take n l ≡ floats_at p at n
first_floats p at n m l e h = rw e (each_first 8 (float_at p) at n m h)

-- a test that was made of one thing holds of another that is equal
pub tested : {A : Type 0} (f : A → Bool) (x y : A) (r b : Bool) → r ≡ f x → x ≡ y → r ≡ b → f y ≡ b
tested f x y r b e h g = ap f (sym h) ∙ sym e ∙ g

pub of_three : {A B C : Type 0} (f : A → B → C → Bool) (x x' : A) (y y' : B) (z z' : C) → x ≡ x' → y ≡ y' → z ≡ z' → f x y z ≡ f x' y' z'
of_three f x x' y y' z z' e₁ e₂ e₃ = rw (e₁, e₂, e₃)

-- ---- a call by its number

module _ (n : ℕ) where
  pub call_found : (c : Call) → call_number c ≡ n → call_of n ≡ Some c
  unfolding call_of
  call_found call.Route e = rw (← e) refl
  call_found call.Layout e = rw (← e) refl
  call_found call.Clutter e = rw (← e) refl
  call_found call.List e = rw (← e) refl
  call_found call.Check e = rw (← e) refl
  call_found call.LabelSize e = rw (← e) refl
  call_found call.WriteNum e = rw (← e) refl
  call_found call.WriteSheet e = rw (← e) refl

  pub no_call : ((c : Call) → call_number c ≢ n) → call_of n ≡ None
  unfolding call_of
  no_call h =
      rw (
        ne_eqb 60 n (h call.Route),
        ne_eqb 61 n (h call.Layout),
        ne_eqb 62 n (h call.Clutter),
        ne_eqb 63 n (h call.List),
        ne_eqb 64 n (h call.Check),
        ne_eqb 65 n (h call.LabelSize),
        ne_eqb 66 n (h call.WriteNum),
        ne_eqb 67 n (h call.WriteSheet),
      )

  none_else : n ≢ 60 → n ≢ 61 → n ≢ 62 → n ≢ 63 → n ≢ 64 → n ≢ 65 → n ≢ 66 → n ≢ 67 → (c : Call) → call_number c ≢ n
  none_else h₀ h₁ h₂ h₃ h₄ h₅ h₆ h₇ call.Route e = h₀ (sym e)
  none_else h₀ h₁ h₂ h₃ h₄ h₅ h₆ h₇ call.Layout e = h₁ (sym e)
  none_else h₀ h₁ h₂ h₃ h₄ h₅ h₆ h₇ call.Clutter e = h₂ (sym e)
  none_else h₀ h₁ h₂ h₃ h₄ h₅ h₆ h₇ call.List e = h₃ (sym e)
  none_else h₀ h₁ h₂ h₃ h₄ h₅ h₆ h₇ call.Check e = h₄ (sym e)
  none_else h₀ h₁ h₂ h₃ h₄ h₅ h₆ h₇ call.LabelSize e = h₅ (sym e)
  none_else h₀ h₁ h₂ h₃ h₄ h₅ h₆ h₇ call.WriteNum e = h₆ (sym e)
  none_else h₀ h₁ h₂ h₃ h₄ h₅ h₆ h₇ call.WriteSheet e = h₇ (sym e)

  -- a number of no call is never right
  pub no_kind : (k : Case) → n ≢ 60 → n ≢ 61 → n ≢ 62 → n ≢ 63 → n ≢ 64 → n ≢ 65 → n ≢ 66 → n ≢ 67 → right_of (λ c. called c k) (call_of n) ≡ false
  no_kind k h₀ h₁ h₂ h₃ h₄ h₅ h₆ h₇ = rw (no_call (none_else h₀ h₁ h₂ h₃ h₄ h₅ h₆ h₇))

-- ---- a case by its number

module _ (n : ℕ) (p : List ℕ) where
  abbrev by_call : Bool
  by_call = right_of (λ c. called_under main_screen c p) (call_of n)

  -- 60 to 67
  pub agrees_call : (c : Call) → call_number c ≡ n → called_under main_screen c p ≡ call_agrees n p
  unfolding call_agrees
  agrees_call c e =
      let t : eqb n 68 ≡ false = ne_eqb n 68 (λ i. absurd (omega (arith, (call_between c).1, e, i))) in
      rw (t, call_found n c e)

  -- 68
  pub agrees_under : 68 ≡ n → under_limits_agrees p ≡ call_agrees n p
  unfolding call_agrees
  agrees_under e = rw (← e) refl

  none_agrees : n ≢ 68 → ((c : Call) → call_number c ≢ n) → false ≡ call_agrees n p
  unfolding call_agrees
  none_agrees i h = rw (ne_eqb n 68 i, no_call n h)

  -- a stand-in's
  pub agrees_stand_in : (f : StandIn) → stand_in_number f ≡ n → false ≡ call_agrees n p
  agrees_stand_in f e =
      none_agrees
      (λ i. absurd (omega (arith, stand_in_low f, e, i)))
      (λ c i. absurd (omega (arith, stand_in_low f, (call_between c).0, e, i)))

  -- that of no kind
  pub agrees_none : ((k : Kind) → kind_number k ≢ n) → false ≡ call_agrees n p
  agrees_none h = none_agrees (λ i. h kind.UnderLimits (sym i)) (λ c. h (kind.Call c))

  pub no_kind_agrees : n ≢ 60 → n ≢ 61 → n ≢ 62 → n ≢ 63 → n ≢ 64 → n ≢ 65 → n ≢ 66 → n ≢ 67 → n ≢ 68 → call_agrees n p ≡ false
  no_kind_agrees h₀ h₁ h₂ h₃ h₄ h₅ h₆ h₇ h₈ = sym (none_agrees h₈ (none_else n h₀ h₁ h₂ h₃ h₄ h₅ h₆ h₇))
