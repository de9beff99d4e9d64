-- The sweeps keep the number of slots, one for each state. Assumes nothing.
use Rattle.std.specs.Prelude.{◌≡◌, List, [], ℕ, ◌-◌, length, get_or, set, replicate, Float}
use Rattle.std.proofs.Math.Path.{refl}
use Rattle.std.proofs.Common.{◌∙◌, length-set}
use Rattle.std.proofs.Math.ListN.{length-replicate}
use Rattle.laws.specs.Loops.{up_keeps, down_keeps, over_keeps, over}
use Rattle.float.specs.Constants.{f0}
use Rattle.float.specs.Ops.{◌⊖◌, of_nat}
use Rattle.sheet.specs.declared.Ends.{Ends}
use Rattle.sweep.specs.Sweeps.{middle_place, centre_column, ordered_column, Arranged, arranged, arrange, sweep_down, sweep_up, four_sweeps, swept}
use Rattle.sweep.specs.Steps.{sweeps-keep}

pub centre-length : (slots : List Float) (column : List ℕ) → length (centre_column slots column) ≡ length slots
unfolding centre_column
centre-length slots column =
    up_keeps (λ (s : List Float). length s ≡ length slots) (λ (i : ℕ) (s : List Float). set s (get_or column i 0) (of_nat i ⊖ middle_place (length column)))
    (λ i s e. length-set s (get_or column i 0) (of_nat i ⊖ middle_place (length column)) ∙ e) 0 (length column) slots refl

pub over-length : (cs : List (List ℕ)) (slots : List Float) → length (over centre_column slots cs) ≡ length slots
over-length cs slots = over_keeps (λ (s : List Float). length s ≡ length slots) centre_column (λ s c e. centre-length s c ∙ e) slots cs refl

abbrev slot_count : Arranged → ℕ
slot_count s = length s.slots

module _ (n : ℕ) (arrows : List Ends) where
  arrange-length : (r l : ℕ) (s : Arranged) → slot_count (arrange n arrows r l s) ≡ slot_count s
  unfolding arrange
  arrange-length r l s = centre-length s.slots (ordered_column n arrows s.slots (get_or s.columns r []) (get_or s.columns l []))

  down-length : (s : Arranged) → slot_count (sweep_down n arrows s) ≡ slot_count s
  unfolding sweep_down
  down-length s = up_keeps (λ (t : Arranged). slot_count t ≡ slot_count s) (λ (l : ℕ). arrange n arrows (l - 1) l) (λ l t e. arrange-length (l - 1) l t ∙ e) 1 (length s.columns) s refl

  up-length : (s : Arranged) → slot_count (sweep_up n arrows s) ≡ slot_count s
  unfolding sweep_up
  up-length s = down_keeps (λ (t : Arranged). slot_count t ≡ slot_count s) (λ (l : ℕ). arrange n arrows l (l - 1)) (λ l t e. arrange-length l (l - 1) t ∙ e) (length s.columns - 1) s refl

  sweeps-length : (s : Arranged) → slot_count (four_sweeps n arrows s) ≡ slot_count s
  sweeps-length s = sweeps-keep n arrows (λ (t : Arranged). slot_count t ≡ slot_count s) (λ t e. down-length t ∙ e) (λ t e. up-length t ∙ e) s refl

  pub swept-length : (cs : List (List ℕ)) → slot_count (swept n arrows cs) ≡ n
  unfolding swept
  swept-length cs = sweeps-length (arranged cs (over centre_column (replicate n f0) cs)) ∙ over-length cs (replicate n f0) ∙ length-replicate n f0
