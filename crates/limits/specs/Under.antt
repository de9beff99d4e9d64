-- Document 02, T-05: "The small panel on the back opens sheets of at most 24 states, 64 arrows and 4 lines an arrow. The main screen keeps its 64, 256 and 8. The limits become a
-- value given to every call that takes a sheet or a label block, and every property is shown for all limits not above the main screen's. Over them, the answer is 5. A sheet that
-- both open is drawn alike by both. Each limit above the main screen's counts as the main screen's."
-- Here is what the calls owe to the limits, for all limits, whatever else is given; `under_limits` of Proof proves it.
use Rattle.std.specs.Prelude.{◌≡◌, List, ℕ, ◌≤◌, ◌<◌, length, get_or, Float}
use Rattle.sheet.specs.Sheet.{Graph, meaning}
use Rattle.sheet.specs.Meaning.{arrow_at}
use Rattle.sheet.specs.Refusals.{AtMost}
use Rattle.sheet.specs.Accepted.{Within, OnMainScreen}
use Rattle.sheet.specs.Over.{SoundSheet, Over}
use Rattle.sheet.specs.declared.Limits.{Limits}
use Rattle.label.specs.Label.{total_length}
use Rattle.layout.specs.Layout.{last_kind}
use Rattle.calls.specs.Calls.{Outcome, values, number, main_screen, service_panel, capped_limits, check, label_size, route, records_after, text_after, clutter, layout, xs_after, ys_after, list, list_after, write_sheet, write_sheet_after}

-- ---- a call, by its limits: what it answers, and what it leaves in what it is lent

-- not refused by 5
abbrev pub NotFive : {A : Type 0} → Outcome A → Type 0
NotFive r = r ≡ number 5 → ⊥

-- the same is answered, a refusal too, and the same is left
abbrev pub SameBy : {A B : Type 0} → (Limits → Outcome A) → (Limits → B) → Limits → Limits → Type 0
SameBy answer left l m = (answer l ≡ answer m) × (left l ≡ left m)

pub record ByLimits {A B : Type 0} (answer : Limits → Outcome A) (left : Limits → B) : Type 0 where
  -- "A sheet that both open is drawn alike by both": under any two limits that do not refuse it by 5
  pub alike : (l m : Limits) → NotFive (answer l) → NotFive (answer m) → SameBy answer left l m
  -- lower limits let less through: what they do not refuse by 5 is the same under higher ones
  pub higher : (l m : Limits) → AtMost (capped_limits l) (capped_limits m) → NotFive (answer l) → SameBy answer left l m
  -- "Each limit above the main screen's counts as the main screen's": nothing but the limits that count is looked at,
  pub counting : (l m : Limits) → capped_limits l ≡ capped_limits m → SameBy answer left l m
  -- and so limits that are all at least the main screen's answer as that
  pub above : (m : Limits) → AtMost main_screen m → SameBy answer left m main_screen

-- where nothing is lent
abbrev pub none_lent : Limits → Unit {0}
none_lent m = tt

-- ---- 5

-- "Over them, the answer is 5": where what comes before a sheet's own refusals lets it through, of a sound sheet with more states, arrows or lines of an arrow than the limits
-- that count, or with a line of more than 96 bytes; and of no other
pub record FiveOver {A : Type 0} (s : List ℕ) (passed : Type 0) (answer : Limits → Outcome A) : Type 0 where
  pub five : passed → SoundSheet s → (m : Limits) → Over (capped_limits m) (meaning s) → answer m ≡ number 5
  pub only : (m : Limits) → answer m ≡ number 5 → passed × SoundSheet s × Over (capped_limits m) (meaning s)

-- a label block of more lines than the limit, with a line of more than 96 bytes, or whose lengths do not add up to the text
pub data BlockOver (m : Limits) (text lengths : List ℕ) : Type 0 where
  block_lines : m.lines < length lengths → BlockOver m text lengths
  block_bytes : (j : ℕ) → j < length lengths → 96 < get_or lengths j 0 → BlockOver m text lengths
  block_sum : (length text ≡ total_length lengths → ⊥) → BlockOver m text lengths

-- ---- what the panel opens

pub record OnPanel (g : Graph) : Type 0 where
  pub states : length g.states ≤ 24
  pub arrows : length g.arrows ≤ 64
  pub lines : (k : ℕ) → k < length g.arrows → length (arrow_at g k).lines ≤ 4

-- ---- the claim

pub record UnderLimits : Type 0 where
  -- ---- the limits that count: of each the largest that is neither above the one given nor above the main screen's

  pub most : (m : Limits) → AtMost (capped_limits m) m × AtMost (capped_limits m) main_screen
  pub largest : (l m : Limits) → AtMost l m → AtMost l main_screen → AtMost l (capped_limits m)
  -- "The main screen keeps its 64, 256 and 8"; the panel's are 24, 64 and 4
  pub numbers : (main_screen ≡ record { states = 64; arrows = 256; lines = 8 }) × (service_panel ≡ record { states = 24; arrows = 64; lines = 4 })
  -- those of the panel and of the main screen count as they are; higher limits count as higher ones, so that `higher` speaks of limits that are higher as they are given, too
  pub panel : capped_limits service_panel ≡ service_panel
  pub main : capped_limits main_screen ≡ main_screen
  pub rises : (l m : Limits) → AtMost l m → AtMost (capped_limits l) (capped_limits m)
  -- ---- each call that takes a sheet or a label block

  pub checks : (s : List ℕ) → ByLimits (λ m. check s m) none_lent
  pub sizes : (text lengths : List ℕ) → ByLimits (λ m. label_size text lengths m) none_lent
  pub lays : (s : List ℕ) (kind : ℕ) (xs ys : List Float)
      → ByLimits {B = List Float × List Float} (λ m. layout s m kind (length xs) (length ys)) (λ m. (xs_after s m kind xs (length ys), ys_after s m kind (length xs) ys))
  pub routes : (s : List ℕ) (xs ys records : List Float) (text : List ℕ)
      → ByLimits {B = List Float × List ℕ} (λ m. route s m xs ys (length records) (length text)) (λ m. (records_after s m xs ys records (length text), text_after s m xs ys (length records) text))
  pub counts : (s : List ℕ) (xs ys : List Float) → ByLimits (λ m. clutter s m xs ys) none_lent
  pub lists : (s : List ℕ) (kind : ℕ) (out : List ℕ) → ByLimits (λ m. list s m kind (length out)) (λ m. list_after s m kind out)
  pub saves : (s out : List ℕ) → ByLimits (λ m. write_sheet s m (length out)) (λ m. write_sheet_after s m out)
  -- ---- 5: of a layout and a listing by a kind that is one, as 11 comes first. (Refused, all is as before: `route-kept` and the others.)

  pub checks_five : (s : List ℕ) → FiveOver s (Unit {0}) (λ m. check s m)
  pub lays_five : (s : List ℕ) (kind xRoom yRoom : ℕ) → FiveOver s (kind ≤ last_kind) (λ m. layout s m kind xRoom yRoom)
  pub routes_five : (s : List ℕ) (xs ys : List Float) (room textRoom : ℕ) → FiveOver s (Unit {0}) (λ m. route s m xs ys room textRoom)
  pub counts_five : (s : List ℕ) (xs ys : List Float) → FiveOver s (Unit {0}) (λ m. clutter s m xs ys)
  pub lists_five : (s : List ℕ) (kind room : ℕ) → FiveOver s (kind ≤ last_kind) (λ m. list s m kind room)
  pub saves_five : (s : List ℕ) (room : ℕ) → FiveOver s (Unit {0}) (λ m. write_sheet s m room)
  pub sizes_five : (text lengths : List ℕ) (m : Limits)
      → (BlockOver (capped_limits m) text lengths → label_size text lengths m ≡ number 5)
      × (label_size text lengths m ≡ number 5 → BlockOver (capped_limits m) text lengths)
  -- of the three limits a label block looks at the lines alone
  pub sizes_lines : (text lengths : List ℕ) (l m : Limits) → l.lines ≡ m.lines → label_size text lengths l ≡ label_size text lengths m
  -- ---- what is opened

  -- exactly the sound sheets within the limits that count, whose lines are well-formed and have at most 96 bytes
  pub opened : (s : List ℕ) (m : Limits) → check s m ≡ values tt → SoundSheet s × Within (capped_limits m) (meaning s)
  pub opens : (s : List ℕ) (m : Limits) → SoundSheet s → Within (capped_limits m) (meaning s) → check s m ≡ values tt
  -- accepted under lower limits, accepted under higher ones
  pub lower : (s : List ℕ) (l m : Limits) → AtMost l m → check s l ≡ values tt → check s m ≡ values tt
  -- under any limits at most 64 states, 256 arrows, 8 lines an arrow and 96 bytes a line; on the panel "at most 24 states, 64 arrows and 4 lines an arrow", and what it opens the
  -- main screen does
  pub on_main : (s : List ℕ) (m : Limits) → check s m ≡ values tt → OnMainScreen (meaning s)
  pub on_panel : (s : List ℕ) → check s service_panel ≡ values tt → OnPanel (meaning s) × (check s main_screen ≡ values tt)
