-- The cases of the stand-ins, by their numbers: whether the answer that stands behind the arguments is the stand-in's. Each is eight bytes, an order one.
use Rattle.std.specs.Prelude.{Bool, ◌&&◌, List, [], ◌∷◌, ℕ, eqb, length, Option, find}
use Rattle.float.specs.Constants.{τ}
use Rattle.float.specs.Ops.{rem}
use Rattle.float.specs.Standins as F
use Rattle.std.specs.declared.cmp.Ordering.{Ordering}
use Rattle.std.specs.declared.cmp.Ordering.TheVariants.{Less, Equal, Greater}
use Rattle.cases.specs.declared.kind.StandIn.{StandIn}
use Rattle.cases.specs.declared.kind.StandIn.TheVariants.{Root, Hypot, Midpoint, RemEuclid, Sin, Cos, Atan2, Min, Max, Round, Abs, Clamp, Signum, Copysign, TotalCmp, RemTau}
use Rattle.cases.specs.Kinds.{stand_in_number, right_of}
use Rattle.cases.specs.Payload.{payload_byte, float_at, answer_stands}

-- an order is 0 for before, 1 for equal, 2 for after
abbrev pub number : Ordering → ℕ
number Less = 0
number Equal = 1
number Greater = 2

unfoldable pub ordered : List ℕ → Ordering → Bool
ordered p o = eqb (length p) 17 && eqb (payload_byte p 16) (number o)

unfoldable pub right : StandIn → List ℕ → Bool
right Root p = answer_stands p 8 (F.root (float_at p 0))
right Hypot p = answer_stands p 16 (F.hypot (float_at p 0) (float_at p 8))
right Midpoint p = answer_stands p 16 (F.midpoint (float_at p 0) (float_at p 8))
right RemEuclid p = answer_stands p 8 (F.rem_euclid (float_at p 0))
right Sin p = answer_stands p 8 (F.sin (float_at p 0))
right Cos p = answer_stands p 8 (F.cos (float_at p 0))
right Atan2 p = answer_stands p 16 (F.atan2 (float_at p 0) (float_at p 8))
right Min p = answer_stands p 16 (F.min (float_at p 0) (float_at p 8))
right Max p = answer_stands p 16 (F.max (float_at p 0) (float_at p 8))
right Round p = answer_stands p 8 (F.round (float_at p 0))
right Abs p = answer_stands p 8 (F.abs (float_at p 0))
right Clamp p = answer_stands p 24 (F.clamp (float_at p 0) (float_at p 8) (float_at p 16))
right Signum p = answer_stands p 8 (F.signum (float_at p 0))
right Copysign p = answer_stands p 16 (F.copysign (float_at p 0) (float_at p 8))
right TotalCmp p = ordered p (F.total_cmp (float_at p 0) (float_at p 8))
right RemTau p = answer_stands p 8 (rem (float_at p 0) τ)

-- the stand-in of a number
unfoldable pub stand_in_of : ℕ → Option StandIn
stand_in_of n =
    find (λ f. eqb (stand_in_number f) n)
    (Root ∷ Hypot ∷ Midpoint ∷ RemEuclid ∷ Sin ∷ Cos ∷ Atan2 ∷ Min ∷ Max ∷ Round ∷ Abs ∷ Clamp ∷ Signum ∷ Copysign ∷ TotalCmp ∷ RemTau ∷ [])

-- a number of no stand-in is never right
abbrev pub standin_agrees : ℕ → List ℕ → Bool
standin_agrees n p = right_of (λ f. right f p) (stand_in_of n)
