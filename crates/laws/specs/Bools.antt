-- Of two tests, what is known where both hold or one does, and where neither does. Assumes nothing.
use Rattle.std.specs.Prelude.{◌≡◌, refl, Bool, true, false, not, ◌&&◌, ◌||◌, ◌⊎◌}
use Rattle.std.proofs.Common.{sym, ◌∙◌, true≢false, inl, inr}

-- a test that holds and fails
pub clash : {C : Type 0} {b : Bool} → b ≡ true → b ≡ false → C
clash e f = absurd (true≢false (sym e ∙ f))

pub not-holds : (b : Bool) → not b ≡ true → b ≡ false
not-holds true e = sym e
not-holds false e = refl

-- ---- both

pub and_first : (a b : Bool) → (a && b) ≡ true → a ≡ true
and_first true b e = refl
and_first false b e = e

pub and_second : (a b : Bool) → (a && b) ≡ true → b ≡ true
and_second true b e = e
and_second false b e = clash e refl

pub and_both : (a b : Bool) → (a && b) ≡ true → (a ≡ true) × (b ≡ true)
and_both a b e = (and_first a b e, and_second a b e)

pub and_assoc : (a b c : Bool) → ((a && b) && c) ≡ (a && (b && c))
and_assoc true b c = refl
and_assoc false b c = refl

pub and_true : (b : Bool) → (b && true) ≡ b
and_true true = refl
and_true false = refl

-- by what the code found of the first: the second decides, or neither need be looked at
pub and_yes : {a b r : Bool} → a ≡ true → r ≡ b → r ≡ (a && b)
and_yes e f = rw (e, f)

pub and_no : {a : Bool} (b : Bool) → a ≡ false → false ≡ (a && b)
and_no b e = rw e

-- ---- one

pub or-first : (a b : Bool) → a ≡ true → (a || b) ≡ true
or-first a b e = rw e

pub or-second : (a b : Bool) → b ≡ true → (a || b) ≡ true
or-second true b e = refl
or-second false b e = e

pub or_cases : (a b : Bool) → (a || b) ≡ true → (a ≡ true) ⊎ (b ≡ true)
or_cases true b e = inl refl
or_cases false b e = inr e

pub or_assoc : (a b c : Bool) → ((a || b) || c) ≡ (a || (b || c))
or_assoc true b c = refl
or_assoc false b c = refl

pub or_false : (b : Bool) → (b || false) ≡ b
or_false true = refl
or_false false = refl

-- ---- neither

pub or_false_left : (a b : Bool) → (a || b) ≡ false → a ≡ false
or_false_left true b e = e
or_false_left false b e = refl

pub or_false_right : (a b : Bool) → (a || b) ≡ false → b ≡ false
or_false_right true b e = clash refl e
or_false_right false b e = e

pub or_none : (a b : Bool) → a ≡ false → b ≡ false → (a || b) ≡ false
or_none a b e q = rw (e, q)
