-- A sheet written afresh that 1 to 6 do not refuse: 7, or the bytes written.
use Rattle.std.specs.Prelude.{List, [], ◌∷◌, ℕ, length}
use Rattle.laws.specs.Refusals.{Refusal, refusal, decide}
use Rattle.refusal.specs.Refused.{Outcome, values, number}
use Rattle.calls.specs.Calls.{short, onto, fresh_sheet}

abbrev pub room_refusals : List ℕ → ℕ → List Refusal
room_refusals s room = refusal 7 (short room (fresh_sheet s)) ∷ []

abbrev pub saved_of : List ℕ → ℕ → Outcome ℕ
saved_of s room = decide (room_refusals s room) number (values (length (fresh_sheet s)))

abbrev pub saved_after : List ℕ → List ℕ → List ℕ
saved_after s out = decide (room_refusals s (length out)) (λ (n : ℕ). out) (onto (fresh_sheet s) out)
