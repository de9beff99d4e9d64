-- How many start marks a graph has, and when it has several. Assumes nothing.
use Rattle.std.specs.Prelude.{◌≡◌, refl, Bool, true, false, List, [], ◌∷◌, ℕ, zero, suc, ◌+◌, ◌%◌, ◌<◌, ltb, length, get_or}
use Rattle.std.proofs.Common.{ap, arith, eqb-true, ltb-true, lt-ltb}
use Rattle.std.proofs.lemmas.Bool.{eqb-false}
use Rattle.laws.specs.Any.{Somewhere}
use Rattle.laws.specs.Cases.{by_bool}
use Rattle.laws.specs.Filter.{filter_by, filter_yes, filter_no}
use Rattle.sheet.specs.Sheet.{Graph, flags_of}
use Rattle.sheet.specs.Meaning.{is_start}

-- how many of the flag bytes have the start bit
abbrev pub start_marks : List ℕ → ℕ
start_marks flags = length (filter_by is_start flags)

-- more than one state has its start bit
unfoldable pub several_starts : Graph → Bool
several_starts g = ltb 1 (start_marks (flags_of g))

-- ---- how many

module _ (f : ℕ) (l : List ℕ) where
  pub marks_yes : is_start f ≡ true → start_marks (f ∷ l) ≡ suc (start_marks l)
  marks_yes t = ap length (filter_yes is_start f l t)

  pub marks_no : is_start f ≡ false → start_marks (f ∷ l) ≡ start_marks l
  marks_no t = ap length (filter_no is_start f l t)

  -- a state adds its bit
  pub marks_more : start_marks (f ∷ l) ≡ f % 2 + start_marks l
  marks_more =
      by_bool (is_start f)
      (λ t. let e : f % 2 ≡ 1 = eqb-true (f % 2) 1 t in let y : start_marks (f ∷ l) ≡ suc (start_marks l) = marks_yes t in omega arith)
      (λ t. let e : f % 2 ≡ 1 → ⊥ = eqb-false (f % 2) 1 t in let y : start_marks (f ∷ l) ≡ start_marks l = marks_no t in omega arith)

pub marks_none : start_marks [] ≡ 0
unfolding filter_by
marks_none = refl

pub some_start : (l : List ℕ) → 0 < start_marks l → Somewhere is_start l 0
some_start [] h = let z : start_marks [] ≡ 0 = marks_none in absurd (omega arith)
some_start (f ∷ l) h =
    by_bool (is_start f)
    (λ t. record { place = 0; inside = omega arith; holds = t })
    (λ t.
    let y : start_marks (f ∷ l) ≡ start_marks l = marks_no f l t in
    let r : Somewhere is_start l 0 = some_start l (omega arith) in
    record { place = suc r.place; inside = omega (arith, r.inside); holds = r.holds })

start_some : (l : List ℕ) (j : ℕ) → j < length l → is_start (get_or l j 0) ≡ true → 0 < start_marks l
start_some [] j h t = absurd (omega arith)
start_some (f ∷ l) zero h t = let y : start_marks (f ∷ l) ≡ suc (start_marks l) = marks_yes f l t in omega arith
start_some (f ∷ l) (suc j) h t =
    let r : 0 < start_marks l = start_some l j (omega arith) t in
    let y : start_marks (f ∷ l) ≡ f % 2 + start_marks l = marks_more f l in
    omega arith

-- two states have the start bit
pub record TwoStarts (flags : List ℕ) : Type 0 where
  pub first : ℕ
  pub second : ℕ
  pub apart : first < second
  pub inside : second < length flags
  pub one : is_start (get_or flags first 0) ≡ true
  pub other : is_start (get_or flags second 0) ≡ true

two_starts : (l : List ℕ) → 1 < start_marks l → TwoStarts l
two_starts [] h = let z : start_marks [] ≡ 0 = marks_none in absurd (omega arith)
two_starts (f ∷ l) h =
    by_bool (is_start f)
    (λ t.
    let y : start_marks (f ∷ l) ≡ suc (start_marks l) = marks_yes f l t in
    let r : Somewhere is_start l 0 = some_start l (omega arith) in
    record { first = 0; second = suc r.place; apart = omega arith; inside = omega (arith, r.inside); one = t; other = r.holds })
    (λ t.
    let y : start_marks (f ∷ l) ≡ start_marks l = marks_no f l t in
    let r : TwoStarts l = two_starts l (omega arith) in
    record { first = suc r.first; second = suc r.second; apart = omega (arith, r.apart); inside = omega (arith, r.inside); one = r.one; other = r.other })

starts_two : (l : List ℕ) (i j : ℕ) → i < j → j < length l → is_start (get_or l i 0) ≡ true → is_start (get_or l j 0) ≡ true → 1 < start_marks l
starts_two [] i j a h p q = absurd (omega arith)
starts_two (f ∷ l) i zero a h p q = absurd (omega arith)
starts_two (f ∷ l) zero (suc j) a h p q =
    let r : 0 < start_marks l = start_some l j (omega arith) q in
    let y : start_marks (f ∷ l) ≡ suc (start_marks l) = marks_yes f l p in
    omega arith
starts_two (f ∷ l) (suc i) (suc j) a h p q =
    let r : 1 < start_marks l = starts_two l i j (omega arith) (omega arith) p q in
    let y : start_marks (f ∷ l) ≡ f % 2 + start_marks l = marks_more f l in
    omega arith

-- a graph has several starts exactly where two of its states have the bit
pub several_two : (g : Graph) → several_starts g ≡ true → TwoStarts (flags_of g)
unfolding several_starts
several_two g e = two_starts (flags_of g) (ltb-true 1 (start_marks (flags_of g)) e)

pub two_several : (g : Graph) → TwoStarts (flags_of g) → several_starts g ≡ true
unfolding several_starts
two_several g r = lt-ltb 1 (start_marks (flags_of g)) (starts_two (flags_of g) r.first r.second r.apart r.inside r.one r.other)

-- the flag bytes decide it
pub several-alike : (g h : Graph) → flags_of g ≡ flags_of h → several_starts g ≡ several_starts h
unfolding several_starts
several-alike g h e = ap (λ (flags : List ℕ). ltb 1 (start_marks flags)) e
