-- Document 02, T-04: "The editor must save. From an accepted sheet it writes a fresh one: all states in order, then all arrows, each followed by its lines and each line by
-- its pieces, full pieces of 12 bytes first. Next indices point forward. The written sheet is accepted and means the same states, arrows and lines; two sheets of equal
-- meaning are written alike. A lent buffer too small is answered with 7, as it is for other calls."
-- Here is the claim, over what `write_sheet` leaves; `editor_saves` of Proof proves it.
use Rattle.std.specs.Prelude.{◌≡◌, List, ◌++◌, ℕ, ◌+◌, ◌*◌, ◌≤◌, ◌<◌, length, take, drop}
use Rattle.laws.specs.Flat.{table}
use Rattle.sheet.specs.Sheet.{byte_at, count, Graph, meaning}
use Rattle.sheet.specs.Refusals.{indices}
use Rattle.sheet.specs.declared.Limits.{Limits}
use Rattle.encode.specs.Encode.{records_for, encode}
use Rattle.encode.specs.Accepts.{Encodable}
use Rattle.encode.specs.Bytes.{OfBytes}
use Rattle.encode.specs.Forward.{Forward, FullFirst}
use Rattle.calls.specs.Calls.{values, number, capped_limits, check, write_sheet, write_sheet_after}
use Rattle.accents.specs.Sheets.{AnsweredAlike}

-- a call of `write_sheet` that is answered: how many bytes it wrote
pub record Saved (s : List ℕ) (m : Limits) (out : List ℕ) : Type 0 where
  pub bytes : ℕ
  pub answer : write_sheet s m (length out) ≡ values bytes

-- the written sheet: so many bytes of what the call leaves in `out`
abbrev pub saved_sheet : (s : List ℕ) (m : Limits) (out : List ℕ) → Saved s m out → List ℕ
saved_sheet s m out a = take a.bytes (write_sheet_after s m out)

-- how a sheet is laid: header and as many records as the count says. (A first state is record 1, and the first arrow stands behind the states, by `ordered`;
-- version 1, text counts from 1 on and zeros where no byte is named are what `check` asks.)
pub record AsEdited (w : List ℕ) : Type 0 where
  pub long : length w ≡ 16 * (1 + count w)
  -- the records stand in the order in which the chains meet them: "all states in order, then all arrows, each followed by its lines and each line by its pieces"
  pub ordered : indices w ≡ table (λ (i : ℕ). i) 1 (count w)
  -- "Next indices point forward."
  pub forward : (k : ℕ) → 1 ≤ k → k ≤ count w → Forward w k
  -- "full pieces of 12 bytes first"
  pub full : (k : ℕ) → 1 ≤ k → k ≤ count w → FullFirst w k

pub record EditorSaves : Type 0 where
  -- ---- of each call that is answered, under any limits m, whatever is lent

  -- "The written sheet is accepted": under the same limits, and by `checked` under all that accept the sheet given;
  pub accepted : (s : List ℕ) (m : Limits) (out : List ℕ) (a : Saved s m out) → check (saved_sheet s m out a) m ≡ values tt
  -- "and means the same states, arrows and lines", byte for byte: flags, ends that are no states and empty lines are kept
  pub same : (s : List ℕ) (m : Limits) (out : List ℕ) (a : Saved s m out) → meaning (saved_sheet s m out a) ≡ meaning s
  -- "two sheets of equal meaning are written alike", each under its limits, and no others are
  pub alike : (s t out lent : List ℕ) (l m : Limits) (a : Saved s l out) (b : Saved t m lent) → meaning s ≡ meaning t → saved_sheet s l out a ≡ saved_sheet t m lent b
  pub apart : (s t out lent : List ℕ) (l m : Limits) (a : Saved s l out) (b : Saved t m lent) → saved_sheet s l out a ≡ saved_sheet t m lent b → meaning s ≡ meaning t
  -- so what was written, written again under any limits that accept it, gives the same bytes
  pub again : (s out lent : List ℕ) (l m : Limits) (a : Saved s l out) (b : Saved (saved_sheet s l out a) m lent) → saved_sheet (saved_sheet s l out a) m lent b ≡ saved_sheet s l out a
  -- it is laid as the request says
  pub laid : (s : List ℕ) (m : Limits) (out : List ℕ) (a : Saved s m out) → AsEdited (saved_sheet s m out a)
  -- never longer than the sheet given
  pub no_longer : (s : List ℕ) (m : Limits) (out : List ℕ) (a : Saved s m out) → a.bytes ≤ length s
  -- it stands whole at the beginning of what is lent, and a longer output keeps its tail
  pub whole : (s : List ℕ) (m : Limits) (out : List ℕ) (a : Saved s m out) → (length (saved_sheet s m out a) ≡ a.bytes) × (write_sheet_after s m out ≡ saved_sheet s m out a ++ drop a.bytes out)
  -- under all limits k, whether they accept it or not, `route`, `clutter`, `layout` and `list` answer to it, and leave, what they do for the sheet given,
  pub drawn : (s : List ℕ) (m : Limits) (out : List ℕ) (a : Saved s m out) (k : Limits) → AnsweredAlike s k (saved_sheet s m out a) k
  -- and so do `check` and `write_sheet`
  pub checked : (s : List ℕ) (m : Limits) (out : List ℕ) (a : Saved s m out) (k : Limits) → check s k ≡ check (saved_sheet s m out a) k
  pub rewritten : (s : List ℕ) (m : Limits) (out : List ℕ) (a : Saved s m out) (k : Limits) (lent : List ℕ)
      → (write_sheet s k (length lent) ≡ write_sheet (saved_sheet s m out a) k (length lent)) × (write_sheet_after s k lent ≡ write_sheet_after (saved_sheet s m out a) k lent)
  -- ---- when a call is answered

  -- an accepted sheet, if as many bytes are lent as it has, and so where 65,536 are
  pub enough : (s : List ℕ) (m : Limits) (out : List ℕ) → check s m ≡ values tt → length s ≤ length out → Saved s m out
  pub always : (s : List ℕ) (m : Limits) (out : List ℕ) → check s m ≡ values tt → 65536 ≤ length out → Saved s m out
  -- 7 comes only from the output lent, of an accepted sheet;
  pub seven : (s : List ℕ) (m : Limits) (out : List ℕ) → write_sheet s m (length out) ≡ number 7 → (check s m ≡ values tt) × (length out < length s)
  -- it is given exactly where that is shorter than the written sheet, and any other is enough
  pub exactly : (s : List ℕ) (m : Limits) (out lent : List ℕ) (a : Saved s m out)
      → (write_sheet s m (length lent) ≡ number 7 → length lent < a.bytes)
      × (length lent < a.bytes → write_sheet s m (length lent) ≡ number 7)
      × (a.bytes ≤ length lent → write_sheet s m (length lent) ≡ values a.bytes)
  -- a sheet that `check` refuses is refused by that number (that no other is given: `write_answered`); refused by any, everything that is lent is as it was
  pub refused : (s : List ℕ) (m : Limits) (out : List ℕ) (n : ℕ) → check s m ≡ number n → write_sheet s m (length out) ≡ number n
  pub kept : (s : List ℕ) (m : Limits) (out : List ℕ) (n : ℕ) → write_sheet s m (length out) ≡ number n → write_sheet_after s m out ≡ out
  -- ---- of graphs

  -- every graph is what its sheet means, and its sheet is laid as the request says
  pub graphs : (g : Graph) → (meaning (encode g) ≡ g) × AsEdited (encode g) × (count (encode g) ≡ records_for g)
  -- it is accepted where the graph is within the limits that count, every line is well-formed, no flag bit above 1 is set, and there are at most 4,095 records
  pub screens : (m : Limits) (g : Graph) → Encodable (capped_limits m) g → check (encode g) m ≡ values tt
  -- it is bytes where the graph's flags and texts are, its ends are u16 and there are at most 65,535 records
  pub of_bytes : (g : Graph) → OfBytes g → records_for g ≤ 65535 → (i : ℕ) → byte_at (encode g) i < 256
  -- what an accepted sheet means can be written, in no more records than the sheet has; what a sheet of bytes means has bytes and u16 ends
  pub encodable : (m : Limits) (s : List ℕ) → check s m ≡ values tt → Encodable (capped_limits m) (meaning s) × (records_for (meaning s) ≤ count s)
  pub meant : (s : List ℕ) → ((i : ℕ) → byte_at s i < 256) → OfBytes (meaning s)
