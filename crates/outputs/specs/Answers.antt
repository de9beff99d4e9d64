-- Answers that are ready: what still refuses them, what is answered, and what the lent slices then hold.
use Rattle.std.specs.Prelude.{◌≡◌, Bool, not, ◌||◌, ℕ, ltb, length, drop, Float}
use mathlib.Core.List.{List, [], ◌∷◌, ◌++◌, flat_map}
use Rattle.laws.specs.Refusals.{Refusal, refusal, decide}
use Rattle.label_spots.specs.declared.Geometry.{Geometry}
use Rattle.records.specs.Records.{fields}
use Rattle.drawing_text.specs.Lines.{paths_text, paths_writable}
use Rattle.refusal.specs.Refused.{Outcome, values, number}

-- ---- a lent output

-- 7: "a lent output shorter than the answer"
abbrev pub short : {A : Type 0} → ℕ → List A → Bool
short room answer = ltb room (length answer)

-- "Longer outputs keep their tail."
abbrev pub onto : {A : Type 0} → List A → List A → List A
onto answer out = answer ++ drop (length answer) out

-- ---- records and path text: 10, then 7

-- "A record's twenty f64", record after record
abbrev pub numbers_of : List Geometry → List Float
numbers_of gs = flat_map fields gs

abbrev pub fill_refusals : List Geometry → ℕ → ℕ → List Refusal
fill_refusals gs room textRoom =
    refusal 10 (not (paths_writable gs))
    ∷ refusal 7 (short room (numbers_of gs) || short textRoom (paths_text gs))
    ∷ []

abbrev pub filled_as : List Geometry → ℕ → ℕ → Outcome (ℕ × ℕ)
filled_as gs room textRoom = decide (fill_refusals gs room textRoom) number (values (length (numbers_of gs), length (paths_text gs)))

abbrev pub records_filled : List Geometry → List Float → ℕ → List Float
records_filled gs records textRoom = decide (fill_refusals gs (length records) textRoom) (λ (n : ℕ). records) (onto (numbers_of gs) records)

abbrev pub text_filled : List Geometry → ℕ → List ℕ → List ℕ
text_filled gs room text = decide (fill_refusals gs room (length text)) (λ (n : ℕ). text) (onto (paths_text gs) text)

-- r is answered, and a and b stand in the lent slices
abbrev pub FilledInto : List Geometry → List Float → List ℕ → Outcome (ℕ × ℕ) → List Float → List ℕ → Type 0
FilledInto gs records text r a b =
    (r ≡ filled_as gs (length records) (length text))
    × (a ≡ records_filled gs records (length text))
    × (b ≡ text_filled gs (length records) text)

-- ---- centres: 7

abbrev pub place_refusals : List Float → List Float → ℕ → ℕ → List Refusal
place_refusals across down xRoom yRoom = refusal 7 (short xRoom across || short yRoom down) ∷ []

abbrev pub placed_as : List Float → List Float → Float → Float → ℕ → ℕ → Outcome (ℕ × Float × Float)
placed_as across down w h xRoom yRoom = decide (place_refusals across down xRoom yRoom) number (values (length across, w, h))

abbrev pub xs_placed : List Float → List Float → List Float → ℕ → List Float
xs_placed across down xs yRoom = decide (place_refusals across down (length xs) yRoom) (λ (n : ℕ). xs) (onto across xs)

abbrev pub ys_placed : List Float → List Float → ℕ → List Float → List Float
ys_placed across down xRoom ys = decide (place_refusals across down xRoom (length ys)) (λ (n : ℕ). ys) (onto down ys)

abbrev pub PlacedInto : List Float → List Float → Float → Float → List Float → List Float → Outcome (ℕ × Float × Float)
    → List Float → List Float → Type 0
PlacedInto across down w h xs ys r a b =
    (r ≡ placed_as across down w h (length xs) (length ys))
    × (a ≡ xs_placed across down xs (length ys))
    × (b ≡ ys_placed across down (length xs) ys)

-- ---- a text, and whether its numbers may be written: 10, then 7

abbrev pub text_refusals : Bool → List ℕ → ℕ → List Refusal
text_refusals writable txt room = refusal 10 (not writable) ∷ refusal 7 (short room txt) ∷ []

abbrev pub written_of : Bool → List ℕ → ℕ → Outcome ℕ
written_of writable txt room = decide (text_refusals writable txt room) number (values (length txt))

abbrev pub out_written : Bool → List ℕ → List ℕ → List ℕ
out_written writable txt out = decide (text_refusals writable txt (length out)) (λ (n : ℕ). out) (onto txt out)

abbrev pub WrittenInto : Bool → List ℕ → List ℕ → Outcome ℕ → List ℕ → Type 0
WrittenInto writable txt out r b = (r ≡ written_of writable txt (length out)) × (b ≡ out_written writable txt out)
