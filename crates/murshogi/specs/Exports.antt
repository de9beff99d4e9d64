-- The limits that an exported call is given; what it returns and what it leaves in the places it is lent for values, from what the call answers.
use Rattle.std.specs.Prelude.{List, [], ◌∷◌, ℕ, get_or}
use Rattle.sheet.specs.declared.Limits.{Limits}
use Rattle.calls.specs.Calls.{Outcome, values, number}

-- the limits in an array of three: states, arrows, lines
abbrev pub limits_in : List ℕ → Limits
limits_in l = record { states = get_or l 0 0; arrows = get_or l 1 0; lines = get_or l 2 0 }

-- the number returned: 0 where there are values, else the refusal's
abbrev pub returned : {A : Type 0} → Outcome A → ℕ
returned (values v) = 0
returned (number n) = n

-- what a lent place holds afterwards: of the values what `f` takes, and after a refusal what it held before
abbrev pub held_after : {A B : Type 0} → (A → B) → Outcome A → B → B
held_after f (values v) before = f v
held_after f (number n) before = before

-- two numbers in an array
abbrev pub both : {A : Type 0} → A × A → List A
both (a, b) = a ∷ b ∷ []

-- one number by itself
abbrev pub itself : {A : Type 0} → A → A
itself a = a

-- of a layout's values, the number of states, and the width and height
abbrev pub layout_states : {A B : Type 0} → A × B × B → A
layout_states (n, w, h) = n

abbrev pub layout_size : {A B : Type 0} → A × B × B → List B
layout_size (n, w, h) = w ∷ h ∷ []
