-- Sheets and their answers, at the main screen: a list, and one theorem over it. An answer is the number of the refusal; accepted, which has no number in document 01, is a 0 here.
use Rattle.std.specs.Prelude.{◌≡◌, refl, Bool, true, false, ◌&&◌, ℕ, zero, suc, ◌≤◌, T, eqb, get_or, replicate}
use mathlib.Core.List.{List, [], ◌∷◌, ◌++◌, flat_map}
use Rattle.std.proofs.Common.{arith}
use Rattle.std.proofs.lemmas.Bool.{eqb-false}
use Rattle.laws.specs.Loops.{any_for, any_up, over}
use Rattle.laws.specs.Refusals.{decide}
use Rattle.laws.specs.Any.{any_of}
use Rattle.text.specs.Ascii.{ascii}
use Rattle.sheet.specs.Sheet.{kind_of, byte_one, next, from_of, to_of, first_line, first_text, piece, chain_by, met_line, met_arrow, met, line_of, lines_from, Graph, arrow_of, states_of, arrows_of, meaning}
use Rattle.sheet.specs.Records.{u16, zeros, header, state_bytes, arrow_bytes, line_bytes, text_bytes}
use Rattle.sheet.specs.Refusals.{repeats, is_set, wrong_record, wrong_bytes, indices, wrong_chains, large_arrow, over_limits, ill_arrow, ill_formed, main_screen, check_of}
use Rattle.sheet.specs.Renumber.{Renumbered}
use Rattle.refusal.specs.Refused.{Outcome, values, number}

-- ---- parts of sheets

-- n states in a row, the first as record k, the last with the index 0
abbrev pub many_states : ℕ → ℕ → List ℕ
many_states k zero = []
many_states k (suc zero) = state_bytes 0 0
many_states k (suc (suc n)) = state_bytes 0 (suc k) ++ many_states (suc k) (suc n)

-- n arrows in a row, likewise
abbrev pub many_arrows : ℕ → ℕ → List ℕ
many_arrows k zero = []
many_arrows k (suc zero) = arrow_bytes 0 0 0 0
many_arrows k (suc (suc n)) = arrow_bytes (suc k) 0 0 0 ++ many_arrows (suc k) (suc n)

-- n empty lines in a row, likewise
abbrev pub many_lines : ℕ → ℕ → List ℕ
many_lines k zero = []
many_lines k (suc zero) = line_bytes 0 0
many_lines k (suc (suc n)) = line_bytes (suc k) 0 ++ many_lines (suc k) (suc n)

-- n pieces of 12 letters and then one of m, likewise
abbrev pub many_texts : ℕ → ℕ → ℕ → List ℕ
many_texts k zero m = text_bytes 0 (replicate m 97)
many_texts k (suc n) m = text_bytes (suc k) (replicate 12 97) ++ many_texts (suc k) n m

-- a sheet without records
abbrev pub empty_sheet : List ℕ
empty_sheet = header 0 0 0

-- a start state, a second state, an arrow 0 to 1 with the line `a`
abbrev pub small : List ℕ
small = header 5 1 3 ++ state_bytes 1 2 ++ state_bytes 0 0 ++ arrow_bytes 0 0 1 4 ++ line_bytes 0 5 ++ text_bytes 0 (ascii "a")

-- the same with its records in another order
abbrev pub shuffled : List ℕ
shuffled = header 5 4 2 ++ text_bytes 0 (ascii "a") ++ arrow_bytes 0 0 1 3 ++ line_bytes 0 1 ++ state_bytes 1 5 ++ state_bytes 0 0

-- one line of the given pieces
abbrev pub lined : List ℕ → List ℕ → List ℕ
lined p q = header 4 0 1 ++ arrow_bytes 0 0 0 2 ++ line_bytes 0 3 ++ text_bytes 4 p ++ text_bytes 0 q

-- ---- answers
abbrev pub checked_number : Outcome (Unit {0}) → ℕ
checked_number (values a) = 0
checked_number (number n) = n

pub record Example : Type 0 where
  pub sheet : List ℕ
  pub answer : ℕ

infixr 3 ◌gives◌
abbrev pub ◌gives◌ : List ℕ → ℕ → Example
s gives n = record { sheet = s; answer = n }

abbrev pub all_give : List Example → Bool
all_give [] = true
all_give (e ∷ es) = eqb (checked_number (check_of main_screen e.sheet)) e.answer && all_give es

abbrev pub sheet_examples : List Example
sheet_examples =
    (empty_sheet gives 0)  -- count 0, 16 bytes
    ∷ (empty_sheet ++ zeros 1 gives 1)  -- 17 bytes
    ∷ ([] gives 1)
    ∷ (header 1 1 0 gives 1)  -- a record is missing
    ∷ (2 ∷ zeros 15 gives 2)
    ∷ (header 1 1 0 ++ state_bytes 0 1 gives 3)  -- a record naming itself
    ∷ (header 1 1 0 ++ state_bytes 0 2 gives 3)  -- an index above the count
    ∷ (header 1 0 1 ++ state_bytes 0 0 gives 3)  -- a state in the chain of arrows
    ∷ (header 2 1 0 ++ state_bytes 0 0 ++ state_bytes 0 0 gives 3)  -- a record never met
    ∷ (header 3 0 1 ++ arrow_bytes 2 0 0 3 ++ arrow_bytes 0 0 0 3 ++ line_bytes 0 0 gives 3)  -- a line of two arrows
    ∷ (header 2 1 0 ++ state_bytes 0 2 ++ state_bytes 0 1 gives 3)  -- a cycle
    ∷ (header 1 0 0 ++ (5 ∷ zeros 15) gives 4)  -- a kind beyond 4, before 3
    ∷ (header 1 1 0 ++ state_bytes 4 0 gives 4)  -- a flag bit above 1
    ∷ (header 1 1 0 ++ (1 ∷ zeros 14 ++ (1 ∷ [])) gives 4)  -- a byte that must be zero
    ∷ (u16 1 ++ zeros 13 ++ (1 ∷ []) gives 4)  -- and one of the header
    ∷ (lined [] (ascii "a") gives 4)  -- a text count of 0
    ∷ (small gives 0)
    ∷ (shuffled gives 0)
    ∷ (header 1 0 1 ++ arrow_bytes 0 65535 65535 0 gives 0)  -- ends are no indices
    ∷ (header 64 1 0 ++ many_states 1 64 gives 0)
    ∷ (header 65 1 0 ++ many_states 1 65 gives 5)
    ∷ (header 9 0 1 ++ arrow_bytes 0 0 0 2 ++ many_lines 2 8 gives 0)
    ∷ (header 10 0 1 ++ arrow_bytes 0 0 0 2 ++ many_lines 2 9 gives 5)
    ∷ (header 10 0 1 ++ arrow_bytes 0 0 0 2 ++ line_bytes 0 3 ++ many_texts 3 7 12 gives 0)  -- 96 bytes
    ∷ (header 11 0 1 ++ arrow_bytes 0 0 0 2 ++ line_bytes 0 3 ++ many_texts 3 8 1 gives 5)  -- 97 bytes
    ∷ (lined (0xc3 ∷ []) (0xa9 ∷ []) gives 0)  -- a character in two pieces
    ∷ (lined (0xc3 ∷ []) (ascii "a") gives 6)
    ∷ []

pub worked_examples : T (all_give sheet_examples)
unfolding check_of decide wrong_bytes wrong_record is_set any_up any_for wrong_chains indices met met_arrow met_line flat_map chain_by any_of repeats over_limits large_arrow states_of arrows_of arrow_of lines_from line_of ill_formed ill_arrow over
worked_examples = tt

-- ---- meanings
abbrev pub small_graph : Graph
small_graph = record { states = record { flags = 1 } ∷ record { flags = 0 } ∷ []; arrows = record { source = 0; target = 1; lines = ascii "a" ∷ [] } ∷ [] }

abbrev pub empty_graph : Graph
empty_graph = record { states = []; arrows = [] }

pub empty_means : meaning empty_sheet ≡ empty_graph
unfolding states_of arrows_of chain_by
empty_means = refl

pub small_means : meaning small ≡ small_graph
unfolding states_of arrows_of arrow_of lines_from line_of chain_by flat_map
small_means = refl

pub shuffled_means : meaning shuffled ≡ small_graph
unfolding states_of arrows_of arrow_of lines_from line_of chain_by flat_map
shuffled_means = refl

-- ---- record k of `small` is record (moved k) of `shuffled`
abbrev pub moved : ℕ → ℕ
moved k = get_or (0 ∷ 4 ∷ 5 ∷ 2 ∷ 3 ∷ 1 ∷ []) k k

moved_only : (k : ℕ) → moved k ≡ 0 → k ≡ 0
moved_only zero e = refl
moved_only (suc zero) e = absurd (omega arith)
moved_only (suc (suc zero)) e = absurd (omega arith)
moved_only (suc (suc (suc zero))) e = absurd (omega arith)
moved_only (suc (suc (suc (suc zero)))) e = absurd (omega arith)
moved_only (suc (suc (suc (suc (suc zero))))) e = absurd (omega arith)
moved_only (suc (suc (suc (suc (suc (suc k)))))) e = e

five : (P : ℕ → Type 0) → P 1 → P 2 → P 3 → P 4 → P 5 → (k : ℕ) → 1 ≤ k → k ≤ 5 → P k
five P a b c d e zero h l = absurd (omega arith)
five P a b c d e (suc zero) h l = a
five P a b c d e (suc (suc zero)) h l = b
five P a b c d e (suc (suc (suc zero))) h l = c
five P a b c d e (suc (suc (suc (suc zero)))) h l = d
five P a b c d e (suc (suc (suc (suc (suc zero))))) h l = e
five P a b c d e (suc (suc (suc (suc (suc (suc k)))))) h l = absurd (omega arith)

other : {C : Type 0} (a b : ℕ) → eqb a b ≡ false → a ≡ b → C
other a b t e = absurd (eqb-false a b t e)

pub small-moved : Renumbered moved small shuffled
small-moved = record {
  counts = refl;
  ends = refl;
  only = moved_only;
  states = refl;
  arrows = refl;
  nexts = five (λ k. next shuffled (moved k) ≡ moved (next small k)) refl refl refl refl refl;
  flags = five (λ k. kind_of small k ≡ 1 → byte_one shuffled (moved k) ≡ byte_one small k) (λ e. refl) (λ e. refl) (λ e. refl) (λ e. refl) (λ e. refl);
  sources = five (λ k. kind_of small k ≡ 2 → from_of shuffled (moved k) ≡ from_of small k) (other 1 2 refl) (other 1 2 refl) (λ e. refl) (other 3 2 refl) (other 4 2 refl);
  targets = five (λ k. kind_of small k ≡ 2 → to_of shuffled (moved k) ≡ to_of small k) (other 1 2 refl) (other 1 2 refl) (λ e. refl) (other 3 2 refl) (other 4 2 refl);
  lines = five (λ k. kind_of small k ≡ 2 → first_line shuffled (moved k) ≡ moved (first_line small k)) (other 1 2 refl) (other 1 2 refl) (λ e. refl) (other 3 2 refl) (other 4 2 refl);
  texts = five (λ k. kind_of small k ≡ 3 → first_text shuffled (moved k) ≡ moved (first_text small k)) (other 1 3 refl) (other 1 3 refl) (other 2 3 refl) (λ e. refl) (other 4 3 refl);
  pieces = five (λ k. kind_of small k ≡ 4 → piece shuffled (moved k) ≡ piece small k) (other 1 4 refl) (other 1 4 refl) (other 2 4 refl) (other 3 4 refl) (λ e. refl);
}
