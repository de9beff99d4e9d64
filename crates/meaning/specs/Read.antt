-- The lists that are read out of a sheet for the layers above, and how an arrow's lines are found from them. Assumes nothing.
use Rattle.std.specs.Prelude.{◌≡◌, refl, Bool, true, false, cond, List, [], ◌∷◌, map, ℕ, zero, suc, ◌<◌, length, get_or}
use Rattle.std.proofs.Common.{sym, ap, ◌∙◌, not-suc-le-zero, le_of_suc-le-suc}
use Rattle.std.proofs.lemmas.List.{length-map}
use Rattle.sheet.specs.Sheet.{byte_one, first_line, Arrow, Graph, state_chain, arrow_chain, from_of, to_of, state_of, states_of, arrow_of, arrows_of, lines_from, meaning, flags_of}

-- what the calls of a closure return, by the number that they take
abbrev pub Computes : {A : Type 0} → (ℕ → A → Type 0) → (ℕ → A) → Type 0
Computes {A} post f = (k : ℕ) (r : A) → post k r → r ≡ f k

-- an end of arrow record k: the state that it leads to, or the one that it leaves
abbrev pub end_of : List ℕ → Bool → ℕ → ℕ
end_of s to k = cond to (to_of s k) (from_of s k)

-- the ends of the arrows, in their order
abbrev pub sources : Graph → List ℕ
sources g = map (λ a. a.source) g.arrows

abbrev pub targets : Graph → List ℕ
targets g = map (λ a. a.target) g.arrows

-- the first line record of each arrow, in their order
unfoldable pub first_lines : List ℕ → List ℕ
first_lines s = map (first_line s) (arrow_chain s)

flags_go : (s l : List ℕ) → map (λ a. a.flags) (map (state_of s) l) ≡ map (byte_one s) l
flags_go s [] = refl
flags_go s (k ∷ l) = ap (λ (r : List ℕ). byte_one s k ∷ r) (flags_go s l)

sources_go : (s l : List ℕ) → map (λ a. a.source) (map (arrow_of s) l) ≡ map (from_of s) l
unfolding arrow_of
sources_go s [] = refl
sources_go s (k ∷ l) = ap (λ (r : List ℕ). from_of s k ∷ r) (sources_go s l)

targets_go : (s l : List ℕ) → map (λ a. a.target) (map (arrow_of s) l) ≡ map (to_of s) l
unfolding arrow_of
targets_go s [] = refl
targets_go s (k ∷ l) = ap (λ (r : List ℕ). to_of s k ∷ r) (targets_go s l)

pub flags_are : (s : List ℕ) → flags_of (meaning s) ≡ map (byte_one s) (state_chain s)
unfolding states_of
flags_are s = flags_go s (state_chain s)

pub sources_are : (s : List ℕ) → sources (meaning s) ≡ map (end_of s false) (arrow_chain s)
unfolding arrows_of
sources_are s = sources_go s (arrow_chain s)

pub targets_are : (s : List ℕ) → targets (meaning s) ≡ map (end_of s true) (arrow_chain s)
unfolding arrows_of
targets_are s = targets_go s (arrow_chain s)

pub heads_length : (s : List ℕ) → length (first_lines s) ≡ length (arrows_of s)
unfolding first_lines arrows_of
heads_length s = length-map (arrow_chain s) (first_line s) ∙ sym (length-map (arrow_chain s) (arrow_of s))

lines_go : (s l : List ℕ) (d : Arrow) (k : ℕ) → k < length l → (get_or (map (arrow_of s) l) k d).lines ≡ lines_from s (get_or (map (first_line s) l) k 0)
unfolding arrow_of
lines_go s [] d k h = absurd (not-suc-le-zero h)
lines_go s (x ∷ l) d zero h = refl
lines_go s (x ∷ l) d (suc k) h = lines_go s l d k (le_of_suc-le-suc h)

length-arrows : (s : List ℕ) → length (arrows_of s) ≡ length (arrow_chain s)
unfolding arrows_of
length-arrows s = length-map (arrow_chain s) (arrow_of s)

-- The lines of arrow k are those of the chain from its first line record on.
pub lines_at_lem : (s : List ℕ) (d : Arrow) (k : ℕ) → k < length (arrows_of s) → (get_or (arrows_of s) k d).lines ≡ lines_from s (get_or (first_lines s) k 0)
unfolding first_lines arrows_of
lines_at_lem s d k h = lines_go s (arrow_chain s) d k (rw (length-arrows s) at h)
