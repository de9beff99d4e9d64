-- What the code adds up, arrow by arrow, and a step of each of its loops. Assumes nothing.
use Rattle.std.specs.Prelude.{◌≡◌, refl, Bool, ℕ, ◌+◌, ◌%◌, eqb, length, Float}
use Rattle.std.specs.Prelude.{Option, Some, None}
use Rattle.std.proofs.Common.{sym, ap, ◌∙◌, add-zero, arith}
use mathlib.Core.List.{List, [], ◌∷◌, flat_map}
use Rattle.laws.specs.Cases.{by_bool}
use Rattle.laws.specs.Filter.{filter_by, filter_join}
use Rattle.laws.specs.Loops.{over, over_join, up_keeps}
use Rattle.float.specs.Constants.{f0}
use Rattle.float.specs.Ops.{◌⊕◌, ◌⊘◌, of_nat}
use Rattle.sheet.specs.declared.Ends.{Ends}
use Rattle.sweep.specs.declared.Sum.{Sum}
use Rattle.sweep.specs.Sweeps.{Arranged, slot, slot_total, other_end, neighbours, sweep_down, sweep_up, sweep_at, sweeps, four_sweeps}

-- ---- sums

abbrev pub sum_of : Float → ℕ → Sum
sum_of t k = record { total = t; count = k }

abbrev pub add_slot : List Float → Sum → ℕ → Sum
add_slot slots s w = sum_of (s.total ⊕ slot slots w) (s.count + 1)

-- the slots of those of some states that pass a test
unfoldable pub add_all : (ℕ → Bool) → List Float → Sum → List ℕ → Sum
add_all p slots s ws = over (add_slot slots) s (filter_by p ws)

unfoldable pub add_end : ℕ → ℕ → (ℕ → Bool) → List Float → Sum → Ends → Sum
add_end n v p slots s a = add_all p slots s (other_end n v a)

-- arrow by arrow, and all
pub ends_all : (n v : ℕ) (p : ℕ → Bool) (slots : List Float) (s : Sum) (arrows : List Ends)
    → over (add_end n v p slots) s arrows ≡ add_all p slots s (neighbours n arrows v)
unfolding over neighbours flat_map add_all add_end filter_by
ends_all n v p slots s [] = refl
ends_all n v p slots s (a ∷ l) =
    ends_all n v p slots (add_end n v p slots s a) l
    ∙ sym (over_join (add_slot slots) s (filter_by p (other_end n v a)) (filter_by p (flat_map (other_end n v) l)))
    ∙ ap (over (add_slot slots) s) (sym (filter_join p (other_end n v a) (flat_map (other_end n v) l)))

-- the sum and the number of the slots
sum_from : (slots : List Float) (t : Float) (k : ℕ) (ws : List ℕ)
    → over (add_slot slots) (sum_of t k) ws ≡ sum_of (over (λ (s : Float) (w : ℕ). s ⊕ slot slots w) t ws) (k + length ws)
unfolding over
sum_from slots t k [] = ap (sum_of t) (sym (add-zero k))
sum_from slots t k (w ∷ ws) = sum_from slots (t ⊕ slot slots w) (k + 1) ws
    ∙ ap (sum_of (over (λ (s : Float) (w : ℕ). s ⊕ slot slots w) (t ⊕ slot slots w) ws)) (omega arith)

pub sum_is : (p : ℕ → Bool) (slots : List Float) (ws : List ℕ)
    → add_all p slots (sum_of f0 0) ws ≡ sum_of (slot_total slots (filter_by p ws)) (length (filter_by p ws))
unfolding add_all slot_total
sum_is p slots ws = sum_from slots f0 0 (filter_by p ws)
    ∙ ap (sum_of (over (λ (s : Float) (w : ℕ). s ⊕ slot slots w) f0 (filter_by p ws))) (omega arith)

-- the mean of the slots of some states; of none, nothing
abbrev pub mean_of : List Float → List ℕ → Option Float
mean_of slots [] = None
mean_of slots (w ∷ ws) = Some (slot_total slots (w ∷ ws) ⊘ of_nat (length (w ∷ ws)))

-- ---- sweeps: what each keeps, all keep
module _ (n : ℕ) (arrows : List Ends) (P : Arranged → Type 0) (d : (s : Arranged) → P s → P (sweep_down n arrows s))
    (u : (s : Arranged) → P s → P (sweep_up n arrows s)) where
  sweep_keeps : (k : ℕ) (s : Arranged) → P s → P (sweep_at n arrows k s)
  sweep_keeps k s h = by_bool (eqb (k % 2) 0) (λ t. rw t (d s h)) (λ t. rw t (u s h))

  pub sweeps-keep : (s : Arranged) → P s → P (four_sweeps n arrows s)
  unfolding four_sweeps
  sweeps-keep s h = up_keeps P (sweep_at n arrows) sweep_keeps 0 sweeps s h
