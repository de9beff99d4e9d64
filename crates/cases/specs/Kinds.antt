-- The byte of each kind of case in the oracle's stream.
use Rattle.std.specs.Prelude.{◌≡◌, ◌≢◌, Bool, false, ℕ, Option, Some, None, Result, MatchResult}
use Rattle.cases.specs.declared.kind.StandIn.{StandIn}
use Rattle.cases.specs.declared.kind.StandIn.TheVariants.{Root, Hypot, Midpoint, RemEuclid, Sin, Cos, Atan2, Min, Max, Round, Abs, Clamp, Signum, Copysign, TotalCmp, RemTau}
use Rattle.cases.specs.declared.kind.Call.{Call}
use Rattle.cases.specs.declared.kind.Call.TheVariants.{Route, Layout, Clutter, List, Check, LabelSize, WriteNum, WriteSheet}
use Rattle.cases.specs.declared.kind.Kind.{Kind}
use Rattle.cases.specs.declared.kind.Kind.TheVariants as kind

abbrev pub stand_in_number : StandIn → ℕ
stand_in_number Root = 1
stand_in_number Hypot = 2
stand_in_number Midpoint = 3
stand_in_number RemEuclid = 4
stand_in_number Sin = 5
stand_in_number Cos = 6
stand_in_number Atan2 = 7
stand_in_number Min = 8
stand_in_number Max = 9
stand_in_number Round = 10
stand_in_number Abs = 11
stand_in_number Clamp = 12
stand_in_number Signum = 13
stand_in_number Copysign = 14
stand_in_number TotalCmp = 15
stand_in_number RemTau = 16

abbrev pub call_number : Call → ℕ
call_number Route = 60
call_number Layout = 61
call_number Clutter = 62
call_number List = 63
call_number Check = 64
call_number LabelSize = 65
call_number WriteNum = 66
call_number WriteSheet = 67

abbrev pub kind_number : Kind → ℕ
kind_number (kind.StandIn f) = stand_in_number f
kind_number (kind.Call c) = call_number c
kind_number kind.UnderLimits = 68

-- what has this number; an error where nothing has it
abbrev pub Decodes : {K E : Type 0} → (K → ℕ) → ℕ → Result K E → Type 0
Decodes {K} number n r = MatchResult r (λ k. number k ≡ n) (λ e. (k : K) → number k ≢ n)

-- a case of no kind is never right
abbrev pub right_of : {K : Type 0} → (K → Bool) → Option K → Bool
right_of right (Some k) = right k
right_of right None = false
