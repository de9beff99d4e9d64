-- The arrows of a sheet one after another, as the code counts them: those that are left out, and the lines of the others. Assumes nothing.
use Rattle.std.specs.Prelude.{◌≡◌, cond, ℕ, ◌+◌, length}
use Rattle.std.proofs.Math.Path.{ap₂}
use Rattle.std.proofs.Common.{◌∙◌, arith}
use mathlib.Core.List.{List, [], ◌∷◌, flat_map}
use Rattle.std.proofs.Math.ListN.{length-append}
use Rattle.laws.specs.Cases.{by_bool}
use Rattle.laws.specs.Counting.{how_many}
use Rattle.laws.specs.Filter.{filter_by}
use Rattle.laws.specs.Loops.{over}
use Rattle.sheet.specs.Sheet.{Arrow, Graph}
use Rattle.sheet.specs.Meaning.{ends_below, is_kept}
use Rattle.totals.specs.declared.ArrowCounts.{ArrowCounts}
use Rattle.totals.specs.Totals.{is_left_out, counted_lines}

abbrev pub arrow_counts : ℕ → ℕ → ArrowCounts
arrow_counts out lines = record { left_out = out; lines = lines }

abbrev pub none_counted : ArrowCounts
none_counted = arrow_counts 0 0

-- what an arrow adds in a drawing of n states
unfoldable pub left_out_add : ℕ → Arrow → ℕ
left_out_add n a = cond (ends_below n a.source a.target) 0 1

unfoldable pub lines_add : ℕ → Arrow → ℕ
lines_add n a = cond (ends_below n a.source a.target) (length a.lines) 0

abbrev pub with_arrow : ℕ → ArrowCounts → Arrow → ArrowCounts
with_arrow n t a = arrow_counts (t.left_out + left_out_add n a) (t.lines + lines_add n a)

module _ (g : Graph) where
  abbrev out : List Arrow → ℕ
  out l = how_many (is_left_out g) l

  abbrev within : List Arrow → ℕ
  within l = length (flat_map (λ (a : Arrow). a.lines) (filter_by (is_kept g) l))

  counted : (t : ArrowCounts) (l : List Arrow) → over (with_arrow (length g.states)) t l ≡ arrow_counts (t.left_out + out l) (t.lines + within l)
  unfolding over left_out_add lines_add how_many filter_by flat_map
  counted t [] = ap₂ arrow_counts (omega arith) (omega arith)
  counted t (a ∷ l) =
      let more : List (List ℕ) = flat_map (λ (a : Arrow). a.lines) (filter_by (is_kept g) l) in
      counted (with_arrow (length g.states) t a) l
      ∙ by_bool (is_kept g a)
      (λ k. rw k (ap₂ arrow_counts (omega arith) (omega (arith, length-append a.lines more))))
      (λ k. rw k (ap₂ arrow_counts (omega arith) (omega arith)))

  pub arrows_counted : over (with_arrow (length g.states)) none_counted g.arrows ≡ arrow_counts (how_many (is_left_out g) g.arrows) (length (counted_lines g))
  arrows_counted = counted none_counted g.arrows ∙ ap₂ arrow_counts (omega arith) (omega arith)
