-- What the program writes fits in what it lends, and an input that is longer than a sheet is refused by 1. Assumes nothing.
use Rattle.std.specs.Prelude.{◌≡◌, true, List, [], ◌∷◌, ℕ, ◌+◌, ◌/◌, ◌≤◌, ◌<◌, ltb, length, take, drop}
use Rattle.std.proofs.Common.{sym, ap, ◌∙◌, arith, length-append, length-take-le, take_all, lt-ltb, ltb-false}
use Rattle.std.proofs.Math.Seq.{take-append_seam}
use Rattle.laws.specs.Cases.{by_bool, by_lt}
use Rattle.laws.specs.Refusals.{Refusal, refusal, decide, clear_decides}
use Rattle.laws.specs.Writers.{Wrote, written_fits}
use Rattle.text.specs.Digits.{digits, digits_one, digits_more}
use Rattle.sheet.specs.Refusals.{wrong_length}
use Rattle.sheet.specs.declared.Limits.{Limits}
use Rattle.calls.specs.Calls.{Outcome, values, number, main_screen, short, onto, listing, list_refusals, list, list_after}
use Rattle.calls.specs.Decided.{answered-clear}
use Rattle.listing.specs.Listing.{asked, lent, refused_text, answer_text, output}

-- the value of an answer, 0 where it is refused
abbrev count : Outcome ℕ → ℕ
count (values n) = n
count (number n) = 0

refused_fits : (rs : List Refusal) (o : Outcome ℕ) (room : ℕ) → count o ≤ room → count (decide rs number o) ≤ room
unfolding decide
refused_fits [] o room h = h
refused_fits (r ∷ rs) o room h = by_bool r.cause (λ t. rw t (omega arith)) (λ t. rw t (refused_fits rs o room h))

last_fits : (room n : ℕ) → count (decide (refusal 7 (ltb room n) ∷ []) number (values n)) ≤ room
unfolding decide
last_fits room n = by_bool (ltb room n) (λ t. rw t (omega arith)) (λ t. rw t (ltb-false room n t))

-- all refusals but the last
abbrev but_last : List Refusal → List Refusal
but_last [] = []
but_last (r ∷ []) = []
but_last (r ∷ q ∷ rs) = r ∷ but_last (q ∷ rs)

-- "a longer listing is refused by 7"
list_fits : (s : List ℕ) (m : Limits) (kind room : ℕ) → count (list s m kind room) ≤ room
unfolding list decide
list_fits s m kind room = refused_fits (but_last (list_refusals s m kind room)) (decide (refusal 7 (short room (listing s kind)) ∷ []) number (values (length (listing s kind)))) room (last_fits room (length (listing s kind)))

-- ---- the refusal

digits-next : (n k : ℕ) → 10 ≤ n → length (digits (n / 10)) ≤ k → length (digits n) ≤ k + 1
digits-next n k h d = rw (digits_more n h, length-append) (omega arith)

digits_1 : (n : ℕ) → n < 10 → length (digits n) ≤ 1
digits_1 n h = rw (digits_one n h) (omega arith)

digits_2 : (n : ℕ) → n < 100 → length (digits n) ≤ 2
digits_2 n h = by_lt n 10 (λ b. omega (arith, digits_1 n b)) (λ b. digits-next n 1 b (digits_1 (n / 10) (omega arith)))

digits_3 : (n : ℕ) → n < 1000 → length (digits n) ≤ 3
digits_3 n h = by_lt n 100 (λ b. omega (arith, digits_2 n b)) (λ b. digits-next n 2 (omega arith) (digits_2 (n / 10) (omega arith)))

pub refused-short : (n : ℕ) → n < 256 → length (refused_text n) ≤ 12
unfolding refused_text
refused-short n h = rw (length-append, length-append) (omega (arith, digits_3 n (omega arith)))

-- what was written at the front
pub front : {l out txt : List ℕ} {n : ℕ} → Wrote l 0 out n txt → length txt ≤ length l → (n ≤ length l) × (take n out ≡ txt)
front {l} {out} {txt} {n} w h =
    let f = written_fits w h in
    (omega (arith, f.0), rw (f.0, f.1) (take-append_seam txt (drop (length txt) l)))

-- the slice by another name
pub front_as : {n k : ℕ} {out left txt : List ℕ} → left ≡ out → (n ≤ k) × (take n out ≡ txt) → (n ≤ k) × (take n left ≡ txt)
front_as {n} e f = (f.0, ap (take n) e ∙ f.1)

-- ---- the call, with as much lent as there is

-- a call that is answered leaves the listing at the front
front_listing : {n : ℕ} {after : List ℕ} (s out : List ℕ) → values n ≡ list s main_screen 0 (length out) → after ≡ list_after s main_screen 0 out
    → take n after ≡ listing s 0
unfolding list list_after
front_listing {n} s out e f =
    let rs : List Refusal = list_refusals s main_screen 0 (length out) in
    let c = answered-clear rs (length (listing s 0)) n e in
    rw (c.1, f, clear_decides (λ (k : ℕ). out) (onto (listing s 0) out) rs c.0)
    (take-append_seam (listing s 0) (drop (length (listing s 0)) out))

-- what is shown of an answer is what the program writes
shows : {o : Outcome ℕ} (s out : List ℕ) → length out ≡ lent → o ≡ list s main_screen 0 (length out) → answer_text o (listing s 0) ≡ output s
unfolding output
shows s out l e = ap (λ (p : Outcome ℕ). answer_text p (listing s 0)) (e ∙ ap (list s main_screen 0) l)

pub listed-output : {n : ℕ} {after : List ℕ} (s out : List ℕ) → length out ≡ lent → values n ≡ list s main_screen 0 (length out)
    → after ≡ list_after s main_screen 0 out → (n ≤ length out) × (take n after ≡ output s)
listed-output s out l e f = (omega (arith, ap count e, list_fits s main_screen 0 (length out)), front_listing s out e f ∙ shows s out l e)

pub refused-output : {n : ℕ} (s out : List ℕ) → length out ≡ lent → number n ≡ list s main_screen 0 (length out) → refused_text n ≡ output s
refused-output s out l e = shows s out l e

-- ---- inputs longer than a sheet

long : (s : List ℕ) → 65536 < length s → wrong_length s ≡ true
long s h = by_bool (ltb (length s) 16) (λ t. rw t) (λ t. rw (t, lt-ltb 65536 (length s) h))

refused_1 : (s : List ℕ) → 65536 < length s → output s ≡ refused_text 1
unfolding output list decide
refused_1 s h = rw (long s h)

-- "sheet .. over 65,536 bytes" is refused by 1: one byte more is enough to see it
pub over-long : (input : List ℕ) → 65536 < length input → output (take asked input) ≡ refused_text 1
over-long input h = refused_1 (take asked input) (omega (arith, length-take-le asked input h))

-- what is read decides as the whole input does
pub as_whole : (input : List ℕ) → output (take asked input) ≡ output input
as_whole input =
    by_lt 65536 (length input)
    (λ h. over-long input h ∙ sym (refused_1 input h))
    (λ h. ap output (take_all asked input (omega arith)))
