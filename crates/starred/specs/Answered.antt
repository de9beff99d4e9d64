-- A call that nothing refuses, with every lent slice that is long enough: `layout` and `write_num`. Assumes nothing.
use Rattle.std.specs.Prelude.{◌≡◌, refl, false, ◌||◌, List, ℕ, ◌≤◌, ltb, length, Float}
use Rattle.std.proofs.Math.Path.{ap, ap₂}
use Rattle.std.proofs.Common.{◌∙◌, arith, le-ltb, ltb-false}
use Rattle.laws.specs.Bools.{or_none}
use Rattle.laws.specs.Refusals.{decide, Clear, without, clear_none, clear_from, clear_decides}
use Rattle.number.specs.Number.{too_large, num_text}
use Rattle.sheet.specs.Sheet.{meaning}
use Rattle.sheet.specs.Refusals.{refusals, check_of}
use Rattle.sheet.specs.Order.{accepted_exactly}
use Rattle.sheet.specs.declared.Limits.{Limits}
use Rattle.layout.specs.Layout.{Layout, plan_of, last_kind}
use Rattle.plan.specs.Measured.{layout_beyond}
use Rattle.calls.specs.Calls.{number, values, capped_limits, short, onto, write_num, write_num_after}
use Rattle.calls.specs.Laws.{clear-capped}
use Rattle.calls.specs.Calls.{layout_for, layout_refusals, layout, xs_after, ys_after}

-- limits of so many states and nothing else
abbrev pub states_only : ℕ → Limits
states_only n = record { states = n; arrows = 0; lines = 0 }

-- a sheet of states alone, with this layout, under all limits that allow them
module _ (s : List ℕ) (kind : ℕ) (l : Layout)
    (accepted : check_of (states_only (length l.xs)) s ≡ values tt) (few : ltb 64 (length l.xs) ≡ false)
    (known : ltb last_kind kind ≡ false) (within : layout_beyond kind (plan_of (meaning s)) ≡ false)
    (placed : layout_for s kind ≡ l) (counted : length (meaning s).states ≡ length l.xs)
    (m : Limits) (fits : length l.xs ≤ m.states) where
  clear : Clear (refusals (capped_limits m) s)
  clear =
      let n = length l.xs in
      clear-capped (states_only n) m s (record { states = fits; arrows = omega arith; lines = omega arith })
      (record { states = ltb-false 64 n few; arrows = omega arith; lines = omega arith }) ((accepted_exactly (states_only n) s).0 accepted)

  enough : {A : Type 0} (refuse : ℕ → A) (answer : A) (a b : ℕ) → length l.xs ≤ a → length l.ys ≤ b
      → decide (layout_refusals s m kind a b) refuse answer ≡ answer
  enough refuse answer a b h i =
      let o : (short a (layout_for s kind).xs || short b (layout_for s kind).ys) ≡ false =
      ap (λ (p : Layout). short a p.xs || short b p.ys) placed ∙ or_none _ _ (le-ltb a (length l.xs) h) (le-ltb b (length l.ys) i) in
      clear_decides refuse answer (layout_refusals s m kind a b)
      (clear_from _ _ (refusals (capped_limits m) s) (without 11 known (without 9 within (without 7 o clear_none))) clear refl)

  pub lays : (x y : List Float) → length l.xs ≤ length x → length l.ys ≤ length y
      → (layout s m kind (length x) (length y) ≡ values (length l.xs, l.width, l.height))
      × (xs_after s m kind x (length y) ≡ onto l.xs x)
      × (ys_after s m kind (length x) y ≡ onto l.ys y)
  unfolding layout xs_after ys_after
  lays x y h i = (
    enough number _ (length x) (length y) h i ∙ ap₂ (λ (n : ℕ) (p : Layout). values (n, p.width, p.height)) counted placed,
    enough (λ (n : ℕ). x) _ (length x) (length y) h i ∙ ap (λ (p : Layout). onto p.xs x) placed,
    enough (λ (n : ℕ). y) _ (length x) (length y) h i ∙ ap (λ (p : Layout). onto p.ys y) placed,
  )

-- a number that 10 does not stop, with this text
pub number-written : (v : Float) (text : List ℕ) → too_large v ≡ false → num_text v ≡ text → (out : List ℕ) → length text ≤ length out
    → (write_num v out ≡ values (length text)) × (write_num_after v out ≡ onto text out)
unfolding write_num write_num_after decide
number-written v text small e out h =
    let enough = le-ltb (length out) (length text) h in
    (rw (small, e, enough), rw (small, e, enough))
