-- What a chain of iterators over the records of a chain gives, in the words of the sheet's meaning. Assumes nothing.
use Rattle.std.proofs.Common.{◌≡◌, refl, sym, ap, ◌∙◌, List, [], ◌∷◌, ◌++◌, map, ℕ, ◌+◌, ◌≤◌, Bool, ◌||◌, suc, ltb, set, add-one, length, arith}
use Rattle.std.specs.List.{list_any, fold, sum_by}
use Rattle.std.specs.List as L
use mathlib.Core.List.{flat_map}
use Rattle.std.proofs.lemmas.List.{length-map, set_past}
use Rattle.std.proofs.lemmas.List.Concat.{length-flat_map}
use Rattle.laws.specs.Any.{any_of}
use Rattle.laws.specs.Put.{put}
use Rattle.laws.specs.Loops.{over}
use Rattle.text.specs.declared.Awaiting.{Awaiting}
use Rattle.text.specs.declared.Awaiting.TheVariants.{First}
use Rattle.text.specs.Automaton.{feed_all}
use Rattle.text.specs.Table.{feed_all_join}
use Rattle.sheet.specs.declared.Limits.{Limits}
use Rattle.sheet.specs.Refusals.{long_line, large_arrow}
use Rattle.sheet.specs.Sheet.{piece, chain, state_chain, arrow_chain, first_line, first_text, line_of, lines_from, Arrow, arrow_of, arrows_of, states_of, state_of}

any_map : {A B : Type 0} (p : B → Bool) (f : A → B) (l : List A) → any_of p (map f l) ≡ list_any (λ x. p (f x)) l
unfolding any_of
any_map p f [] = refl
any_map p f (x ∷ l) = ap (λ (b : Bool). p (f x) || b) (any_map p f l)

-- ---- lines and arrows
pub lines_any : (p : List ℕ → Bool) (s : List ℕ) (i : ℕ) → any_of p (lines_from s i) ≡ list_any (λ k. p (line_of s k)) (chain s i)
unfolding lines_from
lines_any p s i = any_map p (line_of s) (chain s i)

pub arrows_any : (p : Arrow → Bool) (s : List ℕ) → any_of p (arrows_of s) ≡ list_any (λ k. p (arrow_of s k)) (arrow_chain s)
unfolding arrows_of
arrows_any p s = any_map p (arrow_of s) (arrow_chain s)

pub lines_of_arrow : (s : List ℕ) (k : ℕ) → (arrow_of s k).lines ≡ lines_from s (first_line s k)
unfolding arrow_of
lines_of_arrow s k = refl

pub length_lines : (s : List ℕ) (i : ℕ) → length (lines_from s i) ≡ length (chain s i)
unfolding lines_from
length_lines s i = length-map (chain s i) (line_of s)

-- an arrow is too large by the chain of its lines
pub large_of : (m : Limits) (s : List ℕ) (k : ℕ) → large_arrow m (arrow_of s k) ≡ (ltb m.lines (length (chain s (first_line s k))) || any_of long_line (lines_from s (first_line s k)))
unfolding large_arrow
large_of m s k = rw (lines_of_arrow s k, length_lines s (first_line s k))

pub length_states : (s : List ℕ) → length (states_of s) ≡ length (state_chain s)
unfolding states_of
length_states s = length-map (state_chain s) (state_of s)

pub length_arrows : (s : List ℕ) → length (arrows_of s) ≡ length (arrow_chain s)
unfolding arrows_of
length_arrows s = length-map (arrow_chain s) (arrow_of s)

-- ---- the bytes of a line
flat_map_list : {A B : Type 0} (f : A → List B) (l : List A) → flat_map f l ≡ L.flat_map f l
unfolding flat_map
flat_map_list f [] = refl
flat_map_list f (x ∷ l) = ap (λ r. f x ++ r) (flat_map_list f l)

pub length_line : (s : List ℕ) (k : ℕ) → length (line_of s k) ≡ sum_by (λ i. length (piece s i)) (chain s (first_text s k))
unfolding line_of
length_line s k = ap length (flat_map_list (piece s) (chain s (first_text s k))) ∙ length-flat_map (piece s) (chain s (first_text s k))

feed_pieces : (s : List ℕ) (w : Awaiting) (l : List ℕ) → fold (λ t i. feed_all t (piece s i)) w l ≡ feed_all w (flat_map (piece s) l)
unfolding over flat_map
feed_pieces s w [] = refl
feed_pieces s w (i ∷ l) = feed_pieces s (feed_all w (piece s i)) l ∙ sym (feed_all_join w (piece s i) (flat_map (piece s) l))

pub feed_line : (s : List ℕ) (k : ℕ) → fold (λ t i. feed_all t (piece s i)) First (chain s (first_text s k)) ≡ feed_all First (line_of s k)
unfolding line_of
feed_line s k = feed_pieces s First (chain s (first_text s k))

-- ---- the values of a chain's records, stored one after the other
pub put_next : {A : Type 0} (f : ℕ → A) (l : List A) (i k : ℕ) (v : A) (rest more : List ℕ) → rest ≡ k ∷ more → v ≡ f k → put (set l i v) (i + 1) (map f more) ≡ put l i (map f rest)
unfolding put
put_next f l i k v rest more e q = rw (e, q, add-one)

pub put_no_more : {A : Type 0} (f : ℕ → A) (l : List A) (i : ℕ) (rest : List ℕ) → rest ≡ [] → put l i (map f rest) ≡ l
unfolding put
put_no_more f l i rest e = rw e

pub put_past : {A : Type 0} (l : List A) (i : ℕ) (vs : List A) → length l ≤ i → put l i vs ≡ l
unfolding put
put_past l i [] h = refl
put_past l i (v ∷ vs) h = rw (set_past l i v h) (put_past l (suc i) vs (omega arith))
