-- The stand-in of a number. Assumes nothing.
use Rattle.std.specs.Prelude.{◌≡◌, ◌≢◌, refl, false, List, ℕ, Some, None}
use borrow.Author.Tests.{ne_eqb}
use Rattle.cases.specs.Kinds.{stand_in_number}
use Rattle.cases.specs.declared.kind.StandIn.{StandIn}
use Rattle.cases.specs.declared.kind.StandIn.TheVariants as stand_in
use Rattle.standin_cases.specs.Cases.{right, stand_in_of, standin_agrees}

module _ (n : ℕ) where
  stand_in_found : (f : StandIn) → stand_in_number f ≡ n → stand_in_of n ≡ Some f
  unfolding stand_in_of
  stand_in_found stand_in.Root e = rw (← e) refl
  stand_in_found stand_in.Hypot e = rw (← e) refl
  stand_in_found stand_in.Midpoint e = rw (← e) refl
  stand_in_found stand_in.RemEuclid e = rw (← e) refl
  stand_in_found stand_in.Sin e = rw (← e) refl
  stand_in_found stand_in.Cos e = rw (← e) refl
  stand_in_found stand_in.Atan2 e = rw (← e) refl
  stand_in_found stand_in.Min e = rw (← e) refl
  stand_in_found stand_in.Max e = rw (← e) refl
  stand_in_found stand_in.Round e = rw (← e) refl
  stand_in_found stand_in.Abs e = rw (← e) refl
  stand_in_found stand_in.Clamp e = rw (← e) refl
  stand_in_found stand_in.Signum e = rw (← e) refl
  stand_in_found stand_in.Copysign e = rw (← e) refl
  stand_in_found stand_in.TotalCmp e = rw (← e) refl
  stand_in_found stand_in.RemTau e = rw (← e) refl

  no_stand_in : ((f : StandIn) → stand_in_number f ≢ n) → stand_in_of n ≡ None
  unfolding stand_in_of
  no_stand_in h =
      rw (
        ne_eqb 1 n (h stand_in.Root),
        ne_eqb 2 n (h stand_in.Hypot),
        ne_eqb 3 n (h stand_in.Midpoint),
        ne_eqb 4 n (h stand_in.RemEuclid),
        ne_eqb 5 n (h stand_in.Sin),
        ne_eqb 6 n (h stand_in.Cos),
        ne_eqb 7 n (h stand_in.Atan2),
        ne_eqb 8 n (h stand_in.Min),
        ne_eqb 9 n (h stand_in.Max),
        ne_eqb 10 n (h stand_in.Round),
        ne_eqb 11 n (h stand_in.Abs),
        ne_eqb 12 n (h stand_in.Clamp),
        ne_eqb 13 n (h stand_in.Signum),
        ne_eqb 14 n (h stand_in.Copysign),
        ne_eqb 15 n (h stand_in.TotalCmp),
        ne_eqb 16 n (h stand_in.RemTau),
      )

  module _ (p : List ℕ) where
    pub agrees_stand_in : (f : StandIn) → stand_in_number f ≡ n → right f p ≡ standin_agrees n p
    agrees_stand_in f e = rw (stand_in_found f e)

    pub no_kind : ((f : StandIn) → stand_in_number f ≢ n) → false ≡ standin_agrees n p
    no_kind h = rw (no_stand_in h)
