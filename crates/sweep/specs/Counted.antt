-- A number of states is counted exactly: adding 1.0 for each state from 0.0, as the Rust does, gives the whole number converted, up to 512, the most neighbours that 256 arrows give. Assumes nothing.
use Rattle.std.specs.Prelude.{◌≡◌, refl, List, [], ◌∷◌, ℕ, ◌+◌, ◌≤◌, ◌<◌, length, get_or, Float}
use Rattle.std.proofs.Common.{sym, ap, ◌∙◌, zero-add, arith}
use Rattle.std.specs.Int.Count.{count_trailing_zeros}
use Rattle.std.specs.Float.Ieee.{add, of_int, round, size, span, climb, units, odd, sum, of_bits, of_fields}
use Rattle.laws.specs.Flat.{table}
use Rattle.laws.specs.Loops.{over}
use Rattle.laws.specs.Tables.{table_at}
use Rattle.float.specs.Constants.{f0, f1}
use Rattle.float.specs.Ops.{◌⊕◌, of_nat}

-- one computed test
all_agree : table (λ (k : ℕ). of_nat k ⊕ f1) 0 512 ≡ table (λ (k : ℕ). of_nat (k + 1)) 0 512
unfolding table add of_int round size span climb units odd sum of_bits of_fields count_trailing_zeros
all_agree = refl

pub one_more_lem : (k : ℕ) → k < 512 → of_nat k ⊕ f1 ≡ of_nat (k + 1)
one_more_lem k h =
    ap (λ (j : ℕ). of_nat j ⊕ f1) (sym (zero-add k)) ∙ sym (table_at (λ (j : ℕ). of_nat j ⊕ f1) 0 512 k f0 h) ∙ ap (λ (l : List Float). get_or l k f0) all_agree
    ∙ table_at (λ (j : ℕ). of_nat (j + 1)) 0 512 k f0 h ∙ ap (λ (j : ℕ). of_nat (j + 1)) (zero-add k)

none : f0 ≡ of_nat 0
unfolding of_int round size span climb units of_bits of_fields count_trailing_zeros
none = refl

counted_from : (j : ℕ) (ws : List ℕ) → j + length ws ≤ 512 → over (λ (k : Float) (w : ℕ). k ⊕ f1) (of_nat j) ws ≡ of_nat (j + length ws)
unfolding over
counted_from j [] h = ap of_nat (omega arith)
counted_from j (w ∷ ws) h =
    ap (λ (k : Float). over (λ (k : Float) (w : ℕ). k ⊕ f1) k ws) (one_more_lem j (omega arith)) ∙ counted_from (j + 1) ws (omega arith) ∙ ap of_nat (omega arith)

pub ones_counted : (ws : List ℕ) → length ws ≤ 512 → over (λ (k : Float) (w : ℕ). k ⊕ f1) f0 ws ≡ of_nat (length ws)
ones_counted ws h = ap (λ (k : Float). over (λ (k : Float) (w : ℕ). k ⊕ f1) k ws) none ∙ counted_from 0 ws (omega arith) ∙ ap of_nat (zero-add (length ws))
