-- How many lines an arrow of a sheet has, where the walk along the arrows begins, goes on and ends, and the totals from what is counted. Assumes nothing.
use mathlib.Core.Path.{◌≡◌, ap, ◌∙◌}
use mathlib.Core.List.{List, [], ◌∷◌, map}
use Prim.Native.Nat.{ℕ}
use lib.ListN.{length, length-map}
use Rattle.laws.specs.Counting.{how_many}
use Rattle.laws.specs.Loops.{over}
use Rattle.label_spots.specs.declared.Geometry.{Geometry}
use Rattle.sheet.specs.Sheet.{Arrow, Graph, chain, arrow_chain, first_line, line_of, lines_from, arrow_of, arrows_of}
use Rattle.totals.specs.declared.ArrowCounts.{ArrowCounts}
use Rattle.totals.specs.declared.Totals.{Totals}
use Rattle.totals.specs.Totals.{has_points, is_left_out, counted_lines, totals_of}
use Rattle.totals.specs.Arrows.{arrow_counts, none_counted, with_arrow, arrows_counted}

pub lines_length : (s : List ℕ) (k : ℕ) → length (arrow_of s k).lines ≡ length (chain s (first_line s k))
unfolding arrow_of lines_from
lines_length s k = length-map (chain s (first_line s k)) (line_of s)

-- ---- the arrows still to come, of the chain
pub fold_start : {A : Type 0} (g : A → Arrow → A) (a : A) (s l : List ℕ) → l ≡ arrow_chain s → over g a (map (arrow_of s) l) ≡ over g a (arrows_of s)
unfolding arrows_of
fold_start g a s l e = rw e

pub fold_end : {A : Type 0} (g : A → Arrow → A) (a : A) (s l : List ℕ) → l ≡ [] → over g a (map (arrow_of s) l) ≡ a
unfolding over
fold_end g a s l e = rw e

pub fold_step : {A : Type 0} (g : A → Arrow → A) (a b : A) (s l more : List ℕ) (k : ℕ) → l ≡ k ∷ more → b ≡ g a (arrow_of s k) → over g b (map (arrow_of s) more) ≡ over g a (map (arrow_of s) l)
unfolding over
fold_step g a b s l more k e q = rw (e, q)

-- t are the arrows as the code counted them
pub totals_are : (g : Graph) (gs : List Geometry) (n : ℕ) (t : ArrowCounts) (a b c : ℕ) → n ≡ length g.states → t ≡ over (with_arrow n) none_counted g.arrows
    → a ≡ how_many (has_points 2) gs → b ≡ how_many (has_points 3) gs → c ≡ how_many (has_points 4) gs
    → ◌≡◌ {A = Totals} (record { straight = a; arcs = b; loops = c; left_out = t.left_out; lines = t.lines }) (totals_of g gs)
unfolding totals_of
totals_are g gs n t a b c en et ea eb ec =
    let e : t ≡ arrow_counts (how_many (is_left_out g) g.arrows) (length (counted_lines g)) = et ∙ ap (λ (n : ℕ). over (with_arrow n) none_counted g.arrows) en ∙ arrows_counted g in
    rw (ea, eb, ec, e)
