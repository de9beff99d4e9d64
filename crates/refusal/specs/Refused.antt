-- The number of each refusal in document 01's table, and what a call that can be refused returns.
use Rattle.std.specs.Prelude.{ℕ, Result, Ok, Err}
use Rattle.refusal.specs.declared.Refusal.{Refusal}
use Rattle.refusal.specs.declared.Refusal.TheVariants.{Length, Version, Chains, Bytes, Limits, Utf8, Room, Centre, Bow, Number, Kind}

abbrev pub number_of : Refusal → ℕ
number_of Length = 1
number_of Version = 2
number_of Chains = 3
number_of Bytes = 4
number_of Limits = 5
number_of Utf8 = 6
number_of Room = 7
number_of Centre = 8
number_of Bow = 9
number_of Number = 10
number_of Kind = 11

-- What a call returns: the values, or the number of the refusal.
pub data Outcome (A : Type 0) : Type 0 where
  values : A → Outcome A
  number : ℕ → Outcome A

-- "Where an answer is an enum, a definition sets out this paper's number and values for each of its cases."
abbrev pub outcome : {A : Type 0} → Result A Refusal → Outcome A
outcome (Ok a) = values a
outcome (Err r) = number (number_of r)
