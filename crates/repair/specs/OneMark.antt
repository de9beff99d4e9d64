-- What a repaired graph is: state by state, how many start marks it has, and that it can be written (`Encodable`) under the limits that accept the sheet. Assumes nothing.
use Rattle.std.specs.Prelude.{◌≡◌, refl, true, false, ℕ, zero, suc, ◌+◌, ◌-◌, ◌/◌, ◌%◌, ◌≤◌, ◌<◌, length, get_or}
use Rattle.std.proofs.Common.{sym, ap₂, ◌∙◌, arith}
use Rattle.std.proofs.Math.Path.{ap}
use mathlib.Core.List.{List, [], ◌∷◌, map}
use Rattle.std.proofs.lemmas.List.{length-map}
use borrow.Author.Tests.{eqb-false, ne_eqb, ltb-false, le-ltb}
use Rattle.laws.specs.Cases.{by_bool}
use Rattle.laws.specs.Refusals.{Clear}
use Rattle.sheet.specs.Sheet.{State, Graph, meaning, flags_of}
use Rattle.sheet.specs.Meaning.{is_start, start_from, start_of}
use Rattle.sheet.specs.Refusals.{refusals}
use Rattle.sheet.specs.Accepted.{Within}
use Rattle.sheet.specs.declared.Limits.{Limits}
use Rattle.encode.specs.Encode.{space_of, arrow_size, records_for}
use Rattle.encode.specs.Accepts.{Encodable}
use Rattle.encode.specs.Fewer.{space_one, meaning_encodable}
use Rattle.repair.specs.Starts.{start_marks, several_starts, marks_yes, marks_no, marks_none}
use Rattle.repair.specs.Repaired.{without_start, unmarked, one_mark, repaired}

abbrev flag_list : List State → List ℕ
flag_list l = map (λ (a : State). a.flags) l

-- ---- a flag byte without its start bit

pub without_start_lem : (f : ℕ) → is_start (without_start f) ≡ false
without_start_lem f = ne_eqb ((f - f % 2) % 2) 1 (λ e. omega arith)

-- the other bits stay
pub without_rest : (f : ℕ) → without_start f / 2 ≡ f / 2
without_rest f = omega arith

without_same : (f : ℕ) → is_start f ≡ false → without_start f ≡ f
without_same f t = let e : f % 2 ≡ 1 → ⊥ = eqb-false (f % 2) 1 t in omega arith

-- ---- states that all lose theirs

unmarked_none : (l : List State) → start_marks (flag_list (map unmarked l)) ≡ 0
unmarked_none [] = marks_none
unmarked_none (a ∷ l) = marks_no (without_start a.flags) (flag_list (map unmarked l)) (without_start_lem a.flags) ∙ unmarked_none l

unmarked-at : (l : List State) (k : ℕ) → get_or (flag_list (map unmarked l)) k 0 ≡ without_start (get_or (flag_list l) k 0)
unmarked-at [] k = refl
unmarked-at (a ∷ l) zero = refl
unmarked-at (a ∷ l) (suc k) = unmarked-at l k

state_same : (a b : State) → a.flags ≡ b.flags → a ≡ b
state_same a b e = ap (λ (f : ℕ). record { flags = f }) e

unmarked-same : (l : List State) → start_marks (flag_list l) ≡ 0 → map unmarked l ≡ l
unmarked-same [] h = refl
unmarked-same (a ∷ l) h =
    by_bool (is_start a.flags)
    (λ t. let y : start_marks (flag_list (a ∷ l)) ≡ suc (start_marks (flag_list l)) = marks_yes a.flags (flag_list l) t in absurd (omega arith))
    (λ t.
    ap₂ (λ (b : State) (r : List State). b ∷ r) (state_same (unmarked a) a (without_same a.flags t))
    (unmarked-same l (sym (marks_no a.flags (flag_list l) t) ∙ h)))

-- ---- states of which the first with a mark keeps it

one_length : (l : List State) → length (one_mark l) ≡ length l
unfolding one_mark
one_length [] = refl
one_length (a ∷ l) = by_bool (is_start a.flags) (λ t. rw t (ap suc (length-map l unmarked))) (λ t. rw t (ap suc (one_length l)))

one_at_most : (l : List State) → start_marks (flag_list (one_mark l)) ≤ 1
unfolding one_mark
one_at_most [] = let z : start_marks [] ≡ 0 = marks_none in omega arith
one_at_most (a ∷ l) =
    by_bool (is_start a.flags)
    (λ t.
    let r = flag_list (map unmarked l) in
    let y : start_marks (a.flags ∷ r) ≡ suc (start_marks r) = marks_yes a.flags r t in
    let z : start_marks r ≡ 0 = unmarked_none l in
    let d : start_marks (a.flags ∷ r) ≤ 1 = omega arith in
    rw t d)
    (λ t.
    let r = flag_list (one_mark l) in
    let y : start_marks (a.flags ∷ r) ≡ start_marks r = marks_no a.flags r t in
    let z : start_marks r ≤ 1 = one_at_most l in
    let d : start_marks (a.flags ∷ r) ≤ 1 = omega arith in
    rw t d)

one_same : (l : List State) → start_marks (flag_list l) ≤ 1 → one_mark l ≡ l
unfolding one_mark
one_same [] h = refl
one_same (a ∷ l) h =
    by_bool (is_start a.flags)
    (λ t.
    let y : start_marks (flag_list (a ∷ l)) ≡ suc (start_marks (flag_list l)) = marks_yes a.flags (flag_list l) t in
    let z : start_marks (flag_list l) ≡ 0 = omega arith in
    rw t (ap (λ (r : List State). a ∷ r) (unmarked-same l z)))
    (λ t.
    let y : start_marks (flag_list (a ∷ l)) ≡ start_marks (flag_list l) = marks_no a.flags (flag_list l) t in
    rw t (ap (λ (r : List State). a ∷ r) (one_same l (omega arith))))

-- a state with no mark before it stays as it is
one_first : (l : List State) (k : ℕ) → ((i : ℕ) → i < k → is_start (get_or (flag_list l) i 0) ≡ false) → get_or (flag_list (one_mark l)) k 0 ≡ get_or (flag_list l) k 0
unfolding one_mark
one_first [] k none = refl
one_first (a ∷ l) zero none = by_bool (is_start a.flags) (λ t. rw t) (λ t. rw t)
one_first (a ∷ l) (suc k) none = rw (none 0 (omega arith)) (one_first l k (λ i h. none (suc i) (omega arith)))

-- one with a mark before it loses its own
one_later : (l : List State) (i k : ℕ) → i < k → is_start (get_or (flag_list l) i 0) ≡ true → get_or (flag_list (one_mark l)) k 0 ≡ without_start (get_or (flag_list l) k 0)
unfolding one_mark
one_later [] i k h t = refl
one_later (a ∷ l) i zero h t = absurd (omega arith)
one_later (a ∷ l) zero (suc k) h t = rw t (unmarked-at l k)
one_later (a ∷ l) (suc i) (suc k) h t = by_bool (is_start a.flags) (λ q. rw q (unmarked-at l k)) (λ q. rw q (one_later l i k (omega arith) t))

one_below : (l : List State) (k : ℕ) → get_or (flag_list (one_mark l)) k 0 ≤ get_or (flag_list l) k 0
unfolding one_mark
one_below [] k = omega arith
one_below (a ∷ l) zero = by_bool (is_start a.flags) (λ t. rw t (omega arith)) (λ t. rw t (omega arith))
one_below (a ∷ l) (suc k) = by_bool (is_start a.flags) (λ t. rw (t, unmarked-at l k) (omega arith)) (λ t. rw t (one_below l k))

one_start_stays : (k : ℕ) (l : List State) → start_from k (flag_list (one_mark l)) ≡ start_from k (flag_list l)
unfolding one_mark start_from
one_start_stays k [] = refl
one_start_stays k (a ∷ l) = by_bool (is_start a.flags) (λ t. rw (t, t)) (λ t. rw (t, t) (one_start_stays (suc k) l))

-- ---- a repaired graph

module _ (g : Graph) where
  -- as many states
  pub states-many : length (repaired g).states ≡ length g.states
  states-many = one_length g.states

  -- the first state with a mark keeps it, and those before it have none to lose
  pub first_stays : (k : ℕ) → ((i : ℕ) → i < k → is_start (get_or (flags_of g) i 0) ≡ false) → get_or (flags_of (repaired g)) k 0 ≡ get_or (flags_of g) k 0
  first_stays k none = one_first g.states k none

  pub later_loses : (i k : ℕ) → i < k → is_start (get_or (flags_of g) i 0) ≡ true → get_or (flags_of (repaired g)) k 0 ≡ without_start (get_or (flags_of g) k 0)
  later_loses i k h t = one_later g.states i k h t

  pub repaired_one : several_starts (repaired g) ≡ false
  unfolding several_starts
  repaired_one = le-ltb 1 (start_marks (flags_of (repaired g))) (one_at_most g.states)

  -- the start state is the one that it was
  pub start_stays : start_of (repaired g) ≡ start_of g
  start_stays = one_start_stays 0 g.states

  -- with at most one mark it stays as it is
  pub repaired-same : several_starts g ≡ false → repaired g ≡ g
  unfolding several_starts
  repaired-same e = ap (λ (l : List State). record { states = l; arrows = g.arrows }) (one_same g.states (ltb-false 1 (start_marks (flags_of g)) e))

  -- as many records
  pub repaired-records : records_for (repaired g) ≡ records_for g
  repaired-records =
      ap (λ (n : ℕ). n + space_of arrow_size g.arrows) (space_one (one_mark g.states) ∙ one_length g.states ∙ sym (space_one g.states))

  repaired-within : (m : Limits) → Within m g → Within m (repaired g)
  repaired-within m w = record { states = omega (arith, w.states, states-many); arrows = w.arrows; lines = w.lines; bytes = w.bytes; formed = w.formed }

-- what an accepted sheet means, can be written once it is repaired
pub repaired_encodable : (m : Limits) (s : List ℕ) → Clear (refusals m s) → Within m (meaning s) → Encodable m (repaired (meaning s))
repaired_encodable m s c i =
    let g = meaning s in
    let e = meaning_encodable m s c i in
    record {
      within = repaired-within g m i;
      flags = λ k h. omega (arith, one_below g.states k, e.flags k (omega (arith, h, states-many g)));
      few = omega (arith, repaired-records g, e.few);
    }
