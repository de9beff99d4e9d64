-- Document 02's claim on writing a sheet holds. Assumes nothing.
use Rattle.std.specs.Prelude.{◌≡◌, refl, Bool, ℕ, ◌+◌, ◌*◌, ◌≤◌, ◌<◌, length, drop}
use Rattle.std.proofs.Common.{sym, ap₂, subst, ◌∙◌, arith, ltb-true, ltb-false, lt-ltb, le-ltb}
use Rattle.std.proofs.Math.Path.{ap}
use mathlib.Core.List.{List, [], ◌∷◌, ◌++◌}
use Rattle.std.proofs.Math.Seq.{take-append_seam}
use Rattle.laws.specs.Bools.{clash}
use Rattle.laws.specs.Cases.{by_bool}
use Rattle.laws.specs.Flat.{table}
use Rattle.laws.specs.Refusals.{Refusal, refusal, decide, decide_join, decide-first, decide-rest, Clear, First, FirstOrClear, stops, goes, first_or_clear, first-listed, first-joined, clear_none, clear_from, clear_decides, clear-joined}
use Rattle.sheet.specs.Sheet.{count, Graph, meaning}
use Rattle.sheet.specs.Refusals.{over_limits, refusals, check_of}
use Rattle.sheet.specs.Meaning.{arrow_at}
use Rattle.sheet.specs.declared.Limits.{Limits}
use Rattle.sheet.specs.Order.{accepted_exactly}
use Rattle.sheet.specs.Accepted.{right_length, few, within-limits}
use Rattle.encode.specs.Encode.{records_for, encode}
use Rattle.encode.proofs.Means.{count_is, encode-length, encode_right, meaning-encode}
use Rattle.encode.proofs.Meets.{met_in_order}
use Rattle.encode.proofs.Accepts.{encode-clear}
use Rattle.encode.specs.Fewer.{records_fewer, meaning_encodable}
use Rattle.encode.proofs.Forward.{forward, full_first}
use Rattle.encode.proofs.Bytes.{sheet_bytes, meaning-bytes}
use Rattle.calls.specs.Calls.{values, number, capped_limits, short, onto, check, fresh_sheet, write_refusals, write_sheet, write_sheet_after}
use Rattle.calls.specs.Saved.{room_refusals}
use Rattle.calls.specs.Decided.{number_same, number-apart, answered-clear}
use Rattle.calls.specs.Refused.{check-answered, write_kept}
use Rattle.accents.specs.Sheets.{SameSizes, AnsweredAlike}
use Rattle.accents.specs.BySizes.{answered-alike}
use Rattle.editor.specs.Saves.{Saved, saved_sheet, AsEdited, EditorSaves}

-- ---- 7, once the sheet is accepted

module _ (s : List ℕ) (m : Limits) (room : ℕ) (c : Clear (refusals (capped_limits m) s)) where
  left_to_room : write_sheet s m room ≡ decide (room_refusals s room) number (values (length (fresh_sheet s)))
  unfolding write_sheet
  left_to_room = clear-joined number (values (length (fresh_sheet s))) (refusals (capped_limits m) s) (room_refusals s room) c

  room-enough : length (fresh_sheet s) ≤ room → write_sheet s m room ≡ values (length (fresh_sheet s))
  room-enough h =
      left_to_room
      ∙ sym (decide-rest 7 (short room (fresh_sheet s)) [] number (values (length (fresh_sheet s))) (le-ltb room (length (fresh_sheet s)) h))
      ∙ clear_decides number (values (length (fresh_sheet s))) [] clear_none

  room-short : room < length (fresh_sheet s) → write_sheet s m room ≡ number 7
  room-short h = left_to_room ∙ sym (decide-first 7 (short room (fresh_sheet s)) [] number (values (length (fresh_sheet s))) (lt-ltb room (length (fresh_sheet s)) h))

  -- refused, the room is too short
  refused-short : (n : ℕ) → write_sheet s m room ≡ number n → room < length (fresh_sheet s)
  refused-short n e =
      by_bool (short room (fresh_sheet s))
      (λ t. ltb-true room (length (fresh_sheet s)) t)
      (λ t. absurd (number-apart (length (fresh_sheet s)) n (sym e ∙ room-enough (ltb-false room (length (fresh_sheet s)) t))))

-- ---- an accepted sheet

module _ (s : List ℕ) (m : Limits) (c : Clear (refusals (capped_limits m) s)) where
  is_accepted : check_of (capped_limits m) s ≡ values tt
  is_accepted = (accepted_exactly (capped_limits m) s).1 c

  fresh-clear : Clear (refusals (capped_limits m) (fresh_sheet s))
  fresh-clear = encode-clear (capped_limits m) (meaning s) (meaning_encodable (capped_limits m) s c (within-limits (capped_limits m) s is_accepted))

  sheet_long : length s ≡ 16 * (1 + count s)
  sheet_long = right_length s (c.none 1)

  fresh_shorter : length (fresh_sheet s) ≤ length s
  fresh_shorter =
      let a : records_for (meaning s) ≤ count s = records_fewer s (c.none 2) (c.none 4) (c.none 3) in
      let b : length (fresh_sheet s) ≡ 16 * (1 + records_for (meaning s)) = encode-length (meaning s) in
      let d : length s ≡ 16 * (1 + count s) = sheet_long in
      omega arith

  save : (out : List ℕ) → length s ≤ length out → Saved s m out
  save out h =
      let a : length (fresh_sheet s) ≤ length s = fresh_shorter in
      record { bytes = length (fresh_sheet s); answer = room-enough s m (length out) c (omega arith) }

-- ---- the sheet of a graph

as_edited : (g : Graph) → AsEdited (encode g)
as_edited g = record {
  long = encode_right g;
  ordered = met_in_order g ∙ ap (table (λ (i : ℕ). i) 1) (sym (count_is g));
  forward = λ k h l. let b : k ≤ records_for g = rw (count_is g) at l in forward g k h b;
  full = λ k h l. let b : k ≤ records_for g = rw (count_is g) at l in full_first g k h b;
}

-- ---- lists that decide alike

-- the six refusals of a sheet, cause by cause
six : {a b c d e f a' b' c' d' e' f' : Bool} → a ≡ a' → b ≡ b' → c ≡ c' → d ≡ d' → e ≡ e' → f ≡ f'
    → refusal 1 a ∷ refusal 2 b ∷ refusal 4 c ∷ refusal 3 d ∷ refusal 5 e ∷ refusal 6 f ∷ []
    ≡ refusal 1 a' ∷ refusal 2 b' ∷ refusal 4 c' ∷ refusal 3 d' ∷ refusal 5 e' ∷ refusal 6 f' ∷ []
six p q r s t u = rw (p, q, r, s, t, u)

headed : {A : Type 0} (refuse : ℕ → A) (u v : A) (hs ks rs qs : List Refusal) → hs ≡ ks → decide rs refuse u ≡ decide qs refuse v
    → decide (hs ++ rs) refuse u ≡ decide (ks ++ qs) refuse v
headed {A} refuse u v hs ks rs qs p e =
    decide_join hs rs refuse u ∙ ap₂ (λ (l : List Refusal) (x : A). decide l refuse x) p e ∙ sym (decide_join ks qs refuse v)

same-sizes : (g h : Graph) → g ≡ h → SameSizes g h
same-sizes g h e = subst (SameSizes g) e (record {
  ends = record { states = refl; flags = λ k l. refl; many = refl; sources = λ k l. refl; targets = λ k l. refl };
  sizes = refl;
})

-- ---- a call that is answered

module _ (s : List ℕ) (m : Limits) (out : List ℕ) (a : Saved s m out) where
  heard : Clear (write_refusals s m (length out)) × (a.bytes ≡ length (fresh_sheet s))
  unfolding write_sheet
  heard = answered-clear (write_refusals s m (length out)) (length (fresh_sheet s)) a.bytes (sym a.answer)

  given_clear : Clear (refusals (capped_limits m) s)
  given_clear = clear_from (refusals (capped_limits m) s) [] (write_refusals s m (length out)) clear_none heard.0 refl

  given : check s m ≡ values tt
  given = (check-answered s m).answer.1 given_clear

  after : write_sheet_after s m out ≡ fresh_sheet s ++ drop (length (fresh_sheet s)) out
  unfolding write_sheet_after
  after = clear_decides (λ n. out) (onto (fresh_sheet s) out) (write_refusals s m (length out)) heard.0

  saved_is : saved_sheet s m out a ≡ fresh_sheet s
  saved_is = rw (after, heard.1) (take-append_seam (fresh_sheet s) (drop (length (fresh_sheet s)) out))

  saved_accepted : check (saved_sheet s m out a) m ≡ values tt
  saved_accepted = rw saved_is ((check-answered (fresh_sheet s) m).answer.1 (fresh-clear s m given_clear))

  saved_same : meaning (saved_sheet s m out a) ≡ meaning s
  saved_same = ap meaning saved_is ∙ meaning-encode (meaning s)

  saved_clear : Clear (refusals (capped_limits m) (saved_sheet s m out a))
  saved_clear = (check-answered (saved_sheet s m out a) m).answer.0 saved_accepted

  saved_whole : (length (saved_sheet s m out a) ≡ a.bytes) × (write_sheet_after s m out ≡ saved_sheet s m out a ++ drop a.bytes out)
  saved_whole = (ap length saved_is ∙ sym heard.1, rw (saved_is, heard.1) after)

  same-fresh : fresh_sheet (saved_sheet s m out a) ≡ fresh_sheet s
  same-fresh = ap encode saved_same

  -- the sheet given and the one written are refused alike under all limits k: neither has a cause of 1, 2, 4, 3 and 6, and they mean the same
  refused-alike : (k : Limits) → refusals (capped_limits k) s ≡ refusals (capped_limits k) (saved_sheet s m out a)
  refused-alike k =
      six (given_clear.none 1 ∙ sym (saved_clear.none 1)) (given_clear.none 2 ∙ sym (saved_clear.none 2)) (given_clear.none 4 ∙ sym (saved_clear.none 4))
      (given_clear.none 3 ∙ sym (saved_clear.none 3)) (ap (over_limits (capped_limits k)) (sym saved_same)) (given_clear.none 6 ∙ sym (saved_clear.none 6))

  module _ (k : Limits) where
    abbrev w : List ℕ
    w = saved_sheet s m out a

    saved_checked : check s k ≡ check w k
    unfolding check
    saved_checked = ap (λ (rs : List Refusal). decide rs number (values tt)) (refused-alike k)

    saved_drawn : AnsweredAlike s k w k
    saved_drawn =
        answered-alike s w k k (λ A refuse u v rs qs e. headed refuse u v (refusals (capped_limits k) s) (refusals (capped_limits k) w) rs qs (refused-alike k) e)
        (λ j h. ap (λ (g : Graph). length (arrow_at g j).lines) (sym saved_same)) (same-sizes (meaning s) (meaning w) (sym saved_same))

    module _ (lent : List ℕ) where
      decided : {A : Type 0} (refuse : ℕ → A) (answer : List ℕ → A)
          → decide (write_refusals s k (length lent)) refuse (answer (fresh_sheet s)) ≡ decide (write_refusals w k (length lent)) refuse (answer (fresh_sheet w))
      decided refuse answer =
          headed refuse (answer (fresh_sheet s)) (answer (fresh_sheet w)) (refusals (capped_limits k) s) (refusals (capped_limits k) w) (room_refusals s (length lent)) (room_refusals w (length lent)) (refused-alike k)
          (ap (λ (f : List ℕ). decide (refusal 7 (short (length lent) f) ∷ []) refuse (answer f)) (sym same-fresh))

      saved_again : (write_sheet s k (length lent) ≡ write_sheet w k (length lent)) × (write_sheet_after s k lent ≡ write_sheet_after w k lent)
      unfolding write_sheet write_sheet_after
      saved_again = (decided number (λ f. values (length f)), decided (λ n. lent) (λ f. onto f lent))

  module _ (lent : List ℕ) where
    saved_short : (write_sheet s m (length lent) ≡ number 7 → length lent < a.bytes)
        × (length lent < a.bytes → write_sheet s m (length lent) ≡ number 7)
        × (a.bytes ≤ length lent → write_sheet s m (length lent) ≡ values a.bytes)
    saved_short = (
      λ e. let h : length lent < length (fresh_sheet s) = refused-short s m (length lent) given_clear 7 e in let b = heard.1 in omega arith,
      λ h. let b : a.bytes ≡ length (fresh_sheet s) = heard.1 in room-short s m (length lent) given_clear (omega arith),
      λ h. let b : a.bytes ≡ length (fresh_sheet s) = heard.1 in room-enough s m (length lent) given_clear (omega arith) ∙ ap (λ (n : ℕ). values n) (sym b),
    )

  saved_shorter : a.bytes ≤ length s
  saved_shorter = let b : a.bytes ≡ length (fresh_sheet s) = heard.1 in let d : length (fresh_sheet s) ≤ length s = fresh_shorter s m given_clear in omega arith

-- ---- calls that are refused

module _ (s : List ℕ) (m : Limits) (room : ℕ) where
  carried : (n : ℕ) → First (refusals (capped_limits m) s) n → write_sheet s m room ≡ number n
  unfolding write_sheet
  carried n f = first-joined number (values (length (fresh_sheet s))) (refusals (capped_limits m) s) (room_refusals s room) n f

  check-carried : (n : ℕ) → check s m ≡ number n → write_sheet s m room ≡ number n
  check-carried n e = carried n (((check-answered s m).numbers n).0 e)

  -- none of the sheet's own refusals is 7
  seven_clear : write_sheet s m room ≡ number 7 → Clear (refusals (capped_limits m) s)
  seven_clear e = by (first_or_clear (refusals (capped_limits m) s))
    where
      by : FirstOrClear (refusals (capped_limits m) s) → Clear (refusals (capped_limits m) s)
      by (goes c) = c
      by (stops n f) =
          let q : n ≡ 7 = number_same n 7 (sym (carried n f) ∙ e) in
          clash (first-listed (refusals (capped_limits m) s) 7 (rw q at f)) refl

  seven_means : (e : write_sheet s m room ≡ number 7) → (check s m ≡ values tt) × (room < length s)
  seven_means e =
      let c = seven_clear e in
      let a : length (fresh_sheet s) ≤ length s = fresh_shorter s m c in
      let b : room < length (fresh_sheet s) = refused-short s m room c 7 e in
      ((check-answered s m).answer.1 c, omega arith)

-- ---- the claim

pub editor_saves : EditorSaves
editor_saves = record {
  accepted = saved_accepted;
  same = saved_same;
  alike = λ s t out lent l m a b e. saved_is s l out a ∙ ap encode e ∙ sym (saved_is t m lent b);
  apart = λ s t out lent l m a b e. sym (saved_same s l out a) ∙ ap meaning e ∙ saved_same t m lent b;
  again = λ s out lent l m a b. saved_is (saved_sheet s l out a) m lent b ∙ same-fresh s l out a ∙ sym (saved_is s l out a);
  laid = λ s m out a. rw (saved_is s m out a) (as_edited (meaning s));
  no_longer = saved_shorter;
  whole = saved_whole;
  drawn = saved_drawn;
  checked = saved_checked;
  rewritten = saved_again;
  enough = λ s m out e h. save s m ((check-answered s m).answer.0 e) out h;
  always = λ s m out e h.
      let c = (check-answered s m).answer.0 e in
      let a : length s ≡ 16 * (1 + count s) = sheet_long s m c in
      let b : count s < 4096 = few s (c.none 1) in
      save s m c out (omega arith);
  seven = λ s m out e. seven_means s m (length out) e;
  exactly = λ s m out lent a. saved_short s m out a lent;
  refused = λ s m out n e. check-carried s m (length out) n e;
  kept = write_kept;
  graphs = λ g. (meaning-encode g, as_edited g, count_is g);
  screens = λ m g o. (check-answered (encode g) m).answer.1 (encode-clear (capped_limits m) g o);
  of_bytes = sheet_bytes;
  encodable = λ m s q.
      let c = (check-answered s m).answer.0 q in
      (meaning_encodable (capped_limits m) s c (within-limits (capped_limits m) s ((accepted_exactly (capped_limits m) s).1 c)), records_fewer s (c.none 2) (c.none 4) (c.none 3));
  meant = meaning-bytes;
}
