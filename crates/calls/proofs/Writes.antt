-- Writing a sheet, from what its check gives and what its records are. Assumes nothing.
use mathlib.Core.Path.{◌≡◌, sym, ap, ◌∙◌}
use mathlib.Core.List.{List, []}
use Prim.Native.Nat.{ℕ, ◌+◌, ◌*◌, ◌≤◌, ◌<◌}
use native.Mathlib.Omega.{arith}
use borrow.Author.Tests.{lt-ltb, le-ltb}
use lib.ListN.{length}
use Rattle.laws.specs.Put.{put, put_front}
use Rattle.laws.specs.Refusals.{decide-first, decide-rest, clear_none, clear_decides}
use Rattle.sheet.specs.Sheet.{states_of, arrows_of, meaning}
use Rattle.sheet.specs.Refusals.{check_of}
use Rattle.sheet.specs.Order.{accepted_exactly, check-refused, check_accepted}
use Rattle.sheet.specs.declared.Limits.{Limits}
use Rattle.encode.specs.Encode.{space_of, state_size, arrow_size, records_for}
use Rattle.encode.proofs.Means.{encode-length}
use Rattle.write_sheet.specs.Sheets.{Savable}
use Rattle.write_sheet.specs.Whole.{savable}
use Rattle.calls.specs.Calls.{Outcome, number, values, capped_limits, short, onto, fresh_sheet, write_sheet, write_sheet_after}
use Rattle.calls.specs.Saved.{room_refusals, saved_of, saved_after}

pub accepted_savable : (m : Limits) (s : List ℕ) → check_of m s ≡ values tt → Savable s
accepted_savable m s q =
    let c = (accepted_exactly m s).0 q in
    savable m s (c.none 1) (c.none 2) (c.none 4) (c.none 3) (c.none 5)

-- ---- a sheet that 1 to 6 do not refuse: n bytes, of so many records for the states and for the arrows

module _ (s out : List ℕ) {a b : ℕ} (d : a ≡ space_of state_size (states_of s)) (e : b ≡ space_of arrow_size (arrows_of s)) where
  -- r is answered, and o stands in the lent slice
  abbrev Saves : Outcome ℕ → List ℕ → Type 0
  Saves r o = (r ≡ saved_of s (length out)) × (o ≡ saved_after s out)

  abbrev n : ℕ
  n = 16 * (1 + a + b)

  fresh-length : n ≡ length (fresh_sheet s)
  fresh-length = let l : length (fresh_sheet s) ≡ 16 * (1 + records_for (meaning s)) = encode-length (meaning s) in omega arith

  pub write_short : length out < n → Saves (number 7) out
  write_short h =
      let l : n ≡ length (fresh_sheet s) = fresh-length in
      let t = lt-ltb (length out) (length (fresh_sheet s)) (omega arith) in
      (decide-first 7 (short (length out) (fresh_sheet s)) [] number _ t, decide-first 7 (short (length out) (fresh_sheet s)) [] (λ k. out) _ t)

  pub write_done : (o : List ℕ) → n ≤ length out → o ≡ put out 0 (fresh_sheet s) → Saves (values n) o
  write_done o h p =
      let l : n ≡ length (fresh_sheet s) = fresh-length in
      let t = le-ltb (length out) (length (fresh_sheet s)) (omega arith) in
      let w : put out 0 (fresh_sheet s) ≡ onto (fresh_sheet s) out = put_front out (fresh_sheet s) (omega arith) in (
        ap (λ (k : ℕ). values k) l
            ∙ sym (clear_decides number (values (length (fresh_sheet s))) [] clear_none)
            ∙ decide-rest 7 (short (length out) (fresh_sheet s)) [] number _ t,
        p
            ∙ w
            ∙ sym (clear_decides (λ k. out) (onto (fresh_sheet s) out) [] clear_none)
            ∙ decide-rest 7 (short (length out) (fresh_sheet s)) [] (λ k. out) _ t,
      )

-- ---- the call, by what the check under the limits that count has answered

module _ (s : List ℕ) (m : Limits) (out : List ℕ) {k : Limits} (c : k ≡ capped_limits m) where
  -- r is answered, and b stands in the lent slice
  abbrev WritesSheet : Outcome ℕ → List ℕ → Type 0
  WritesSheet r b = (r ≡ write_sheet s m (length out)) × (b ≡ write_sheet_after s m out)

  pub write_refused : (n : ℕ) → number n ≡ check_of k s → WritesSheet (number n) out
  unfolding write_sheet write_sheet_after
  write_refused n e =
      let q : number n ≡ check_of (capped_limits m) s = e ∙ ap (λ (l : Limits). check_of l s) c in
      let rs = room_refusals s (length out) in
      (check-refused (capped_limits m) s rs number _ n q, check-refused (capped_limits m) s rs (λ j. out) _ n q)

  pub write_saved : (r : Outcome ℕ) (b : List ℕ) → values tt ≡ check_of k s → (r ≡ saved_of s (length out)) × (b ≡ saved_after s out) → WritesSheet r b
  unfolding write_sheet write_sheet_after
  write_saved r b e h =
      let q : values tt ≡ check_of (capped_limits m) s = e ∙ ap (λ (l : Limits). check_of l s) c in
      let rs = room_refusals s (length out) in (
        h.0 ∙ check_accepted (capped_limits m) s rs number _ q,
        h.1 ∙ check_accepted (capped_limits m) s rs (λ j. out) _ q,
      )
