-- The refusals of a call in their order, what the first of them that holds decides, and the cause of each looked up by its number. Assumes nothing.
use Rattle.std.specs.Prelude.{◌≡◌, Bool, true, false, cond, not, ◌||◌, ℕ, eqb}
use Rattle.std.proofs.Math.Path.{refl}
use Rattle.std.proofs.Common.{sym, ap, ◌∙◌, true≢false, eqb-true, eq-eqb}
use mathlib.Core.List.{List, [], ◌∷◌, ◌++◌, map}
use Rattle.laws.specs.Cases.{by_bool}
use Rattle.laws.specs.Filter.{filter_by}

-- a refusal: its number, and whether its cause holds
pub record Refusal : Type 0 where
  pub number : ℕ
  pub cause : Bool

abbrev pub refusal : ℕ → Bool → Refusal
refusal n b = record { number = n; cause = b }

-- the first refusal whose cause holds gives its number; where there is none, the answer stands
unfoldable pub decide : {A : Type 0} → List Refusal → (ℕ → A) → A → A
decide [] refuse answer = answer
decide (r ∷ rs) refuse answer = let rest = decide rs refuse answer in cond r.cause (refuse r.number) rest

-- two lists joined: the second decides where the first refuses nothing
pub decide_join : {A : Type 0} (rs qs : List Refusal) (refuse : ℕ → A) (answer : A) → decide (rs ++ qs) refuse answer ≡ decide rs refuse (decide qs refuse answer)
unfolding decide
decide_join [] qs refuse answer = refl
decide_join {A} (r ∷ rs) qs refuse answer = ap (λ (x : A). cond r.cause (refuse r.number) x) (decide_join rs qs refuse answer)

-- a decision read in another way
pub decide-map : {A B : Type 0} (f : A → B) (rs : List Refusal) (refuse : ℕ → A) (answer : A) → f (decide rs refuse answer) ≡ decide rs (λ n. f (refuse n)) (f answer)
unfolding decide
decide-map f [] refuse answer = refl
decide-map f (r ∷ rs) refuse answer = by_bool r.cause (λ t. rw t) (λ t. rw t (decide-map f rs refuse answer))

-- one refusal before others: its cause holds, or it does not
module _ {A : Type 0} (n : ℕ) (b : Bool) (rs : List Refusal) (refuse : ℕ → A) (answer : A) where
  pub decide-first : b ≡ true → refuse n ≡ decide (refusal n b ∷ rs) refuse answer
  unfolding decide
  decide-first e = rw e

  pub decide-rest : b ≡ false → decide rs refuse answer ≡ decide (refusal n b ∷ rs) refuse answer
  unfolding decide
  decide-rest e = rw e

-- ---- the order, and a cause by its number

-- "Order: 11, 1, 2, 4, 3, 5, 6, 8, 9, 10, 7"
abbrev pub refusal_order : List ℕ
refusal_order = 11 ∷ 1 ∷ 2 ∷ 4 ∷ 3 ∷ 5 ∷ 6 ∷ 8 ∷ 9 ∷ 10 ∷ 7 ∷ []

-- whether a number is among others
abbrev pub is_in : ℕ → List ℕ → Bool
is_in n [] = false
is_in n (m ∷ ms) = let rest = is_in n ms in eqb m n || rest

-- the numbers of a list in its order
abbrev pub numbers_in : List Refusal → List ℕ
numbers_in rs = map (λ r. r.number) rs

-- that order, but for the numbers that a call cannot meet
abbrev pub order_but : List ℕ → List ℕ
order_but unmet = filter_by (λ n. not (is_in n unmet)) refusal_order

-- the cause of number n: whether one of the refusals with that number holds. Where one has it, this computes to its cause.
abbrev pub cause_of : ℕ → List Refusal → Bool
cause_of n [] = false
cause_of n (r ∷ rs) = let rest = cause_of n rs in cond (eqb r.number n) (rest || r.cause) rest

-- no cause holds, of no number
pub record Clear (rs : List Refusal) : Type 0 where
  pub none : (n : ℕ) → cause_of n rs ≡ false

-- n is the number of the first whose cause holds: no cause before it does
pub record First (rs : List Refusal) (n : ℕ) : Type 0 where
  pub before : List Refusal
  pub it : Refusal
  pub after : List Refusal
  pub parts : rs ≡ before ++ (it ∷ after)
  pub clear : Clear before
  pub holds : it.cause ≡ true
  pub numbered : it.number ≡ n

-- ---- lists of which no cause holds, put together and taken apart

module _ (a b : Bool) where
  -- a disjunction that fails
  or-first : (a || b) ≡ false → a ≡ false
  or-first e = by_bool a (λ t. absurd (true≢false (sym (rw t) ∙ e))) (λ t. t)

  or-second : (a || b) ≡ false → b ≡ false
  or-second e = rw (or-first e) at e

pub clear_none : Clear []
clear_none = record { none = λ n. refl }

module _ (r : Refusal) (rs : List Refusal) where
  clear-more : r.cause ≡ false → Clear rs → Clear (r ∷ rs)
  clear-more e c = record { none = λ n. by_bool (eqb r.number n) (λ t. rw (t, c.none n, e)) (λ t. rw (t, c.none n)) }

  pub clear-rest : Clear (r ∷ rs) → Clear rs
  clear-rest c = record {
    none = λ n. by_bool (eqb r.number n) (λ t. or-first (cause_of n rs) r.cause (rw t at (c.none n))) (λ t. rw t at (c.none n));
  }

  clear_first : Clear (r ∷ rs) → r.cause ≡ false
  clear_first c =
      let n = r.number in
      or-second (cause_of n rs) r.cause (rw (eq-eqb n n refl) at (c.none n))

-- the same, by the number and what shows that its cause does not hold
pub without : (n : ℕ) {b : Bool} {rs : List Refusal} → b ≡ false → Clear rs → Clear (refusal n b ∷ rs)
without n {b} {rs} e c = clear-more (refusal n b) rs e c

-- ---- a list of which no cause holds, from others: number by number, wherever it stands

-- the cause of number n in the first list if that has the number, and else in the second
abbrev pub cause_in : List Refusal → List Refusal → ℕ → Bool
cause_in own qs n = cond (is_in n (numbers_in own)) (cause_of n own) (cause_of n qs)

-- a number that stands nowhere has no cause
no_cause : (n : ℕ) (rs : List Refusal) → is_in n (numbers_in rs) ≡ false → cause_of n rs ≡ false
no_cause n [] e = refl
no_cause n (r ∷ rs) e = rw (or-first (eqb r.number n) (is_in n (numbers_in rs)) e, no_cause n rs (or-second (eqb r.number n) (is_in n (numbers_in rs)) e))

same_at : (f g : ℕ → Bool) (n : ℕ) (rs : List Refusal) → map f (numbers_in rs) ≡ map g (numbers_in rs) → is_in n (numbers_in rs) ≡ true → f n ≡ g n
same_at f g n [] e h = absurd (true≢false (sym h))
same_at f g n (r ∷ rs) e h =
    by_bool (eqb r.number n)
    (λ t. let q : f r.number ≡ g r.number = cc in rw (eqb-true r.number n t) at q)
    (λ t. let q : map f (numbers_in rs) ≡ map g (numbers_in rs) = cc in same_at f g n rs q (rw t at h))

-- Each number of rs has the cause that it has in `own`, or else in qs (for given lists `refl` shows it, wherever they stand): then no cause of rs holds
-- if none of those two does.
pub clear_from : (rs own qs : List Refusal) → Clear own → Clear qs → map (λ n. cause_of n rs) (numbers_in rs) ≡ map (cause_in own qs) (numbers_in rs) → Clear rs
clear_from rs own qs c d e = record {
  none = λ n. by_bool (is_in n (numbers_in rs)) (λ t. same_at (λ m. cause_of m rs) (cause_in own qs) n rs e t ∙ neither n) (λ t. no_cause n rs t);
}
  where
    neither : (n : ℕ) → cause_in own qs n ≡ false
    neither n = by_bool (is_in n (numbers_in own)) (λ t. rw t (c.none n)) (λ t. rw t (d.none n))

-- ---- what they decide

module _ {A : Type 0} (refuse : ℕ → A) (answer : A) where
  pub clear_decides : (rs : List Refusal) → Clear rs → decide rs refuse answer ≡ answer
  unfolding decide
  clear_decides [] c = refl
  clear_decides (r ∷ rs) c = rw (clear_first r rs c) (clear_decides rs (clear-rest r rs c))

-- and followed by others
module _ {A : Type 0} (refuse : ℕ → A) (answer : A) (rs qs : List Refusal) where
  pub clear-joined : Clear rs → decide (rs ++ qs) refuse answer ≡ decide qs refuse answer
  clear-joined c = decide_join rs qs refuse answer ∙ clear_decides refuse (decide qs refuse answer) rs c

pub first_decides : {A : Type 0} (refuse : ℕ → A) (answer : A) (rs : List Refusal) (n : ℕ) → First rs n → decide rs refuse answer ≡ refuse n
first_decides {A} refuse answer rs n f =
    ap (λ (l : List Refusal). decide l refuse answer) f.parts
    ∙ clear-joined refuse answer f.before (f.it ∷ f.after) f.clear
    ∙ sym (decide-first f.it.number f.it.cause f.after refuse answer f.holds)
    ∙ ap refuse f.numbered

pub first-joined : {A : Type 0} (refuse : ℕ → A) (answer : A) (rs qs : List Refusal) (n : ℕ) → First rs n → decide (rs ++ qs) refuse answer ≡ refuse n
first-joined {A} refuse answer rs qs n f = decide_join rs qs refuse answer ∙ first_decides refuse (decide qs refuse answer) rs n f

-- the number of the first that holds is one of the list's
standing : (before : List Refusal) (it : Refusal) (after : List Refusal) → is_in it.number (numbers_in (before ++ (it ∷ after))) ≡ true
standing [] it after = rw (eq-eqb it.number it.number refl)
standing (r ∷ rs) it after = by_bool (eqb r.number it.number) (λ t. rw t) (λ t. rw t (standing rs it after))

pub first-listed : (rs : List Refusal) (n : ℕ) → First rs n → is_in n (numbers_in rs) ≡ true
first-listed rs n f = rw (f.parts, ← f.numbered) (standing f.before f.it f.after)

-- ---- one of the two is so

pub data FirstOrClear (rs : List Refusal) : Type 0 where
  stops : (n : ℕ) → First rs n → FirstOrClear rs
  goes : Clear rs → FirstOrClear rs

later : (r : Refusal) (rs : List Refusal) → r.cause ≡ false → FirstOrClear rs → FirstOrClear (r ∷ rs)
later r rs e (stops n f) = stops n (record {
  before = r ∷ f.before;
  it = f.it;
  after = f.after;
  parts = ap (λ (l : List Refusal). r ∷ l) f.parts;
  clear = clear-more r f.before e f.clear;
  holds = f.holds;
  numbered = f.numbered;
})
later r rs e (goes c) = goes (clear-more r rs e c)

pub first_or_clear : (rs : List Refusal) → FirstOrClear rs
first_or_clear [] = goes clear_none
first_or_clear (r ∷ rs) =
    by_bool r.cause
    (λ t. stops r.number (record { before = []; it = r; after = rs; parts = refl; clear = clear_none; holds = t; numbered = refl }))
    (λ t. later r rs t (first_or_clear rs))

-- ---- what an answer says of the refusals, where numbers and the answer are told apart

module _ {A : Type 0} (refuse : ℕ → A) (answer : A) (same : (m n : ℕ) → refuse m ≡ refuse n → m ≡ n) (apart : (n : ℕ) → refuse n ≡ answer → ⊥) (rs : List Refusal) where
  -- Each number is given under its cause only, and whenever no earlier cause holds.
  pub given_exactly : (n : ℕ) → (decide rs refuse answer ≡ refuse n → First rs n) × (First rs n → decide rs refuse answer ≡ refuse n)
  given_exactly n = (λ e. given e (first_or_clear rs), first_decides refuse answer rs n)
    where
      given : decide rs refuse answer ≡ refuse n → FirstOrClear rs → First rs n
      given e (stops m f) = rw (same m n (sym (first_decides refuse answer rs m f) ∙ e)) at f
      given e (goes c) = absurd (apart n (sym e ∙ clear_decides refuse answer rs c))

  -- The answer is given exactly where no cause holds.
  pub answered_exactly : (decide rs refuse answer ≡ answer → Clear rs) × (Clear rs → decide rs refuse answer ≡ answer)
  answered_exactly = (λ e. given e (first_or_clear rs), clear_decides refuse answer rs)
    where
      given : decide rs refuse answer ≡ answer → FirstOrClear rs → Clear rs
      given e (stops m f) = absurd (apart m (sym (first_decides refuse answer rs m f) ∙ e))
      given e (goes c) = c
