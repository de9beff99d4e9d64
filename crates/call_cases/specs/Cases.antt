-- The cases of the eight calls: whether the answer, and everything that the call leaves in what it is lent, are the definitions'. A lent output is
-- the middle of a longer one: sixteen places stand before it and more behind it. Before the call every byte is 170 and every number `unset`.
use Rattle.std.specs.Prelude.{◌≡◌, refl, Bool, true, false, cond, not, ◌&&◌, List, [], ◌∷◌, ◌++◌, ℕ, ◌+◌, ◌*◌, ◌^◌, eqb, leb, length, get_or, take, drop, replicate, Float, Option, find}
use Rattle.std.specs.Float.{binary64}
use Rattle.std.specs.Float.Ieee.{of_bits, round}
use Rattle.laws.specs.Loops.{any_up}
use Rattle.sheet.specs.declared.Limits.{Limits}
use Rattle.calls.specs.Calls.{Outcome, values, number, main_screen, check, label_size, write_num, write_num_after, route, records_after, text_after, clutter, layout, xs_after, ys_after, list, list_after, write_sheet, write_sheet_after}
use Rattle.cases.specs.Payload.{payload_byte, word_at, long_at, bits_at, float_at, floats_at, sizes_at, alike, same_float}
use Rattle.cases.specs.Kinds.{call_number, right_of}
use Rattle.cases.specs.declared.kind.Call.{Call}
use Rattle.cases.specs.declared.kind.Call.TheVariants as call

-- ---- a case of a call

-- the answer and the layout's kind, a byte each; the sheet, or a label's text; the limits; and what the call is given besides, with
-- what it must write
pub record Case : Type 0 where
  pub answer : ℕ
  pub layout_kind : ℕ
  pub sheet : List ℕ
  pub limits : Limits
  pub rest : List ℕ

-- a case at the centres that it gives; its rest is what it has behind them
pub record CentredCase : Type 0 where
  pub case : Case
  pub xs : List Float
  pub ys : List Float

-- ---- the answer

-- the case's answer, a byte: 0 where the values are right, or the refusal's number
abbrev pub outcome_right : {A : Type 0} → ℕ → (A → Bool) → Outcome A → Bool
outcome_right a right (values v) = right v && eqb a 0
outcome_right a right (number n) = eqb a n

-- ---- what is lent

-- 7 · 10^250, which no answer holds
abbrev pub unset : Float
unset = of_bits binary64 0x74038dc7360a27c4

unset_is : unset ≡ round binary64 false (7 * 10 ^ 250) 1
unfolding of_bits round
unset_is = refl

-- a value of `out` is not the answer's, or behind the answer not what `out` held before the call
abbrev pub differs : {A : Type 0} → (A → A → Bool) → A → List A → List A → ℕ → Bool
differs same before out answer i = not (same (get_or out i before) (get_or answer i before))

-- `out` has room for the answer, and holds it and after it what it held
unfoldable pub holds : {A : Type 0} → (A → A → Bool) → A → List A → List A → Bool
holds same before out answer = leb (length answer) (length out) && not (any_up (differs same before out answer) 0 (length out))

-- `out` holds the answer from place 16 on, and before and behind it what it held
unfoldable pub stands : {A : Type 0} → (A → A → Bool) → A → List A → List A → Bool
stands same before out answer = leb 16 (length out) && (holds same before (take 16 out) [] && holds same before (drop 16 out) answer)

abbrev pub numbers_stand : List Float → List Float → Bool
numbers_stand = stands alike unset

abbrev pub text_stands : List ℕ → List ℕ → Bool
text_stands = stands eqb 170

-- the same of the n numbers in a payload from a place on; no case has more than 5,120
unfoldable pub numbers_stand_in : List ℕ → ℕ → ℕ → List Float → Bool
numbers_stand_in p at n out = leb n 5120 && numbers_stand out (floats_at p at n)

-- a list whose middle, that many from place 16 on, was lent to a call
abbrev pub around : {A : Type 0} → ℕ → (List A → List A) → List A → List A
around room call l = take 16 l ++ (call (take room (drop 16 l)) ++ drop room (drop 16 l))

-- ---- check, size a label block, write a number

unfoldable pub check_is : Case → Bool
check_is k = outcome_right k.answer (λ u. true) (check k.sheet k.limits)

-- the number of lines; width and height; the lengths of the lines. No case has more than sixteen lines.
unfoldable pub size_is : List ℕ → Float × Float → Bool
size_is rest v = same_float rest 2 v.0 && same_float rest 10 v.1

unfoldable pub label_agrees : Case → Bool
label_agrees k =
    let n = word_at k.rest 0 in
    leb n 16 && outcome_right k.answer (size_is k.rest) (label_size k.sheet (sizes_at k.rest 18 n) k.limits)

-- a text was written to the middle of `out`
unfoldable pub wrote : ℕ → List ℕ → Outcome ℕ → List ℕ → Bool
wrote a text answer out = outcome_right a (λ n. eqb n (length text)) answer && text_stands out text

unfoldable pub number_is : Case → Float → ℕ → List ℕ → List ℕ → Bool
number_is k v room text out = wrote k.answer text (write_num v (take room (drop 16 out))) (around room (write_num_after v) out)

-- the number; the room that is lent; the text. No case lends more than 64 bytes.
unfoldable pub number_agrees : Case → Bool
number_agrees k =
    leb (word_at k.rest 8) 64
    && (leb 10 (length k.rest)
    && number_is k (float_at k.rest 0) (word_at k.rest 8) (drop 10 k.rest) (replicate 96 170))

-- ---- list a drawing: the room that is lent; the text

unfoldable pub list_is : Case → ℕ → List ℕ → List ℕ → Bool
list_is k room text out =
    wrote k.answer text (list k.sheet k.limits k.layout_kind room) (around room (list_after k.sheet k.limits k.layout_kind) out)

unfoldable pub list_agrees : Case → Bool
list_agrees k = leb 2 (length k.rest) && list_is k (word_at k.rest 0) (drop 2 k.rest) (replicate 65600 170)

-- ---- write a sheet: the room that is lent, four bytes; the sheet that is written. No case lends more than 65,568 bytes.

unfoldable pub sheet_is : Case → ℕ → List ℕ → List ℕ → Bool
sheet_is k room fresh out = wrote k.answer fresh (write_sheet k.sheet k.limits room) (around room (write_sheet_after k.sheet k.limits) out)

unfoldable pub sheet_agrees : Case → Bool
sheet_agrees k =
    leb (long_at k.rest 0) 65568
    && (leb 4 (length k.rest)
    && sheet_is k (long_at k.rest 0) (drop 4 k.rest) (replicate 65600 170))

-- ---- lay out a sheet: the rooms that are lent for x and for y; the number of states; width and height; the xs, the ys

unfoldable pub laid_is : List ℕ → ℕ × Float × Float → Bool
laid_is rest v = eqb v.0 (word_at rest 4) && (same_float rest 6 v.1 && same_float rest 14 v.2)

unfoldable pub layout_is : Case → List Float → List Float → Bool
layout_is k xs ys =
    let s = k.sheet in
    let m = k.limits in
    let by = k.layout_kind in
    let xRoom = word_at k.rest 0 in
    let yRoom = word_at k.rest 2 in
    let n = word_at k.rest 4 in
    outcome_right k.answer (laid_is k.rest) (layout s m by xRoom yRoom)
    && (numbers_stand_in k.rest 22 n (around xRoom (λ l. xs_after s m by l yRoom) xs)
    && numbers_stand_in k.rest (22 + 8 * n) n (around yRoom (ys_after s m by xRoom) ys))

-- no case lends more than 128
unfoldable pub layout_agrees : Case → Bool
layout_agrees k =
    leb (word_at k.rest 0) 128 && (leb (word_at k.rest 2) 128 && layout_is k (replicate 160 unset) (replicate 160 unset))

-- ---- route a sheet: the rooms that are lent for records and text; how many numbers the records have; these numbers; the text

unfoldable pub lengths_are : ℕ → List ℕ → ℕ × ℕ → Bool
lengths_are n text v = eqb v.0 n && eqb v.1 (length text)

unfoldable pub route_is : CentredCase → List ℕ → List Float → List ℕ → Bool
route_is k text records out =
    let s = k.case.sheet in
    let m = k.case.limits in
    let rest = k.case.rest in
    let room = word_at rest 0 in
    let textRoom = word_at rest 2 in
    let n = word_at rest 4 in
    outcome_right k.case.answer (lengths_are n text) (route s m k.xs k.ys room textRoom)
    && (numbers_stand_in rest 6 n (around room (λ l. records_after s m k.xs k.ys l textRoom) records)
    && text_stands (around textRoom (text_after s m k.xs k.ys room) out) text)

-- no case lends more than 5,200 numbers or 25,700 bytes
unfoldable pub route_agrees : CentredCase → Bool
route_agrees k =
    let rest = k.case.rest in
    let end = 6 + 8 * word_at rest 4 in
    leb (word_at rest 0) 5200
    && (leb (word_at rest 2) 25700
    && (leb end (length rest)
    && route_is k (drop end rest) (replicate 5248 unset) (replicate 25732 170)))

-- ---- count clutter: the count

unfoldable pub clutter_agrees : CentredCase → Bool
clutter_agrees k = outcome_right k.case.answer (λ n. eqb n (long_at k.case.rest 0)) (clutter k.case.sheet k.case.limits k.xs k.ys)

-- ---- given centres: the number of xs and of ys; the xs, the ys; and the rest. No case has more than 80 of either.

-- a case with another rest
abbrev pub with_rest : Case → List ℕ → Case
with_rest k rest = record { answer = k.answer; layout_kind = k.layout_kind; sheet = k.sheet; limits = k.limits; rest = rest }

unfoldable pub at_centres : (CentredCase → Bool) → Case → Bool
at_centres drawn k =
    let nx = word_at k.rest 0 in
    let ny = word_at k.rest 2 in
    let end = 4 + 8 * nx + 8 * ny in
    leb nx 80
    && (leb ny 80
    && (leb end (length k.rest)
    && drawn (record { case = with_rest k (drop end k.rest); xs = floats_at k.rest 4 nx; ys = floats_at k.rest (4 + 8 * nx) ny })))

-- ---- a call under the limits m: the answer and the layout's kind, a byte each; the length of the sheet, or of the label's text, four
-- bytes; the sheet; and the rest

-- the case in a payload
abbrev pub case_at : Limits → List ℕ → Case
case_at m p =
    let n = long_at p 2 in
    record { answer = payload_byte p 0; layout_kind = payload_byte p 1; sheet = take n (drop 6 p); limits = m; rest = drop (6 + n) p }

unfoldable pub called : Call → Case → Bool
called call.Route k = at_centres route_agrees k
called call.Layout k = layout_agrees k
called call.Clutter k = at_centres clutter_agrees k
called call.List k = list_agrees k
called call.Check k = check_is k
called call.LabelSize k = label_agrees k
called call.WriteNum k = number_agrees k
called call.WriteSheet k = sheet_agrees k

unfoldable pub called_under : Limits → Call → List ℕ → Bool
called_under m c p = leb (6 + long_at p 2) (length p) && called c (case_at m p)

-- the limits: states, arrows and lines, eight bytes each
unfoldable pub limits_at : List ℕ → Limits
limits_at p = record { states = bits_at p 0; arrows = bits_at p 8; lines = bits_at p 16 }

-- the call of a number
unfoldable pub call_of : ℕ → Option Call
call_of n =
    find (λ c. eqb (call_number c) n)
    (call.Route ∷ call.Layout ∷ call.Clutter ∷ call.List ∷ call.Check ∷ call.LabelSize ∷ call.WriteNum ∷ call.WriteSheet ∷ [])

-- a case with limits of its own has them in front, then the call's number, a byte, and what that call's case has
unfoldable pub under_limits_agrees : List ℕ → Bool
under_limits_agrees p = leb 25 (length p) && right_of (λ c. called_under (limits_at p) c (drop 25 p)) (call_of (payload_byte p 24))

-- a case by its kind's number: 60 to 67 under the main screen's limits (`write_num` takes none), 68 under limits of its own; one of any other number is never right
unfoldable pub call_agrees : ℕ → List ℕ → Bool
call_agrees n p = cond (eqb n 68) (under_limits_agrees p) (right_of (λ c. called_under main_screen c p) (call_of n))
