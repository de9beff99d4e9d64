-- The first start state. Assumes nothing.
use Rattle.std.specs.Prelude.{◌≡◌, refl, true, false, List, [], ◌∷◌, ℕ, zero, suc, ◌+◌, ◌≤◌, ◌<◌, length, get_or}
use Rattle.std.proofs.Common.{sym, ◌∙◌, add-zero, add-suc, suc-add, arith}
use Rattle.laws.specs.Cases.{by_bool}
use Rattle.sheet.specs.Meaning.{is_start, start_from, start_index}

-- the search from state k on finds k + j, where j is the first start state of the list, or 0
start-at : (k j : ℕ) (l : List ℕ) → j < length l → is_start (get_or l j 0) ≡ true → ((i : ℕ) → i < j → is_start (get_or l i 0) ≡ false) → start_from k l ≡ k + j
unfolding start_from
start-at k j [] h e none = absurd (omega arith)
start-at k zero (f ∷ l) h e none = rw (e, add-zero)
start-at k (suc j) (f ∷ l) h e none =
    rw (none 0 (omega arith)) (start-at (suc k) j l (omega arith) e (λ i m. none (suc i) (omega arith)) ∙ suc-add k j ∙ sym (add-suc k j))

-- a start state with none before it is the one found
pub start_first : (j : ℕ) (l : List ℕ) → j < length l → is_start (get_or l j 0) ≡ true → ((i : ℕ) → i < j → is_start (get_or l i 0) ≡ false) → start_index l ≡ j
start_first j l h e none = start-at 0 j l h e none ∙ omega arith

start-nowhere : (k : ℕ) (l : List ℕ) → ((i : ℕ) → i < length l → is_start (get_or l i 0) ≡ false) → start_from k l ≡ 0
unfolding start_from
start-nowhere k [] none = refl
start-nowhere k (f ∷ l) none = rw (none 0 (omega arith)) (start-nowhere (suc k) l (λ i h. none (suc i) (omega arith)))

-- "or 0"
pub start_none : (l : List ℕ) → ((i : ℕ) → i < length l → is_start (get_or l i 0) ≡ false) → start_index l ≡ 0
start_none l none = start-nowhere 0 l none

start-within : (k n : ℕ) (l : List ℕ) → 0 < n → k + length l ≤ n → start_from k l < n
unfolding start_from
start-within k n [] p h = p
start-within k n (f ∷ l) p h = by_bool (is_start f) (λ e. rw e (omega arith)) (λ e. rw e (start-within (suc k) n l p (omega arith)))

-- it is a state
pub start-below : (l : List ℕ) → 0 < length l → start_index l < length l
start-below l h = start-within 0 (length l) l h (omega arith)
