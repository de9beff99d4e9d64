-- Document 02, T-02: sheets and label blocks that differ in accents only are measured, placed and drawn alike. Here is what it says; `accents_take_no_width` of proofs/Claim proves it.
use Rattle.std.specs.Prelude.{◌≡◌, true, false, cond, ℕ, suc, ◌≤◌, ◌<◌, ltb, length, get_or, Float}
use mathlib.Core.List.{List, [], ◌∷◌, ◌++◌, map, flat_map}
use Rattle.laws.specs.Any.{any_of}
use Rattle.laws.specs.Every.{every}
use Rattle.float.specs.Constants.{f0, f12, f15, label_char_width, label_wide_char_width}
use Rattle.text.specs.Utf8.{well_formed}
use Rattle.text.specs.Encode.{utf8, Scalar}
use Rattle.sheet.specs.Sheet.{Graph, meaning}
use Rattle.sheet.specs.Meaning.{arrow_at}
use Rattle.sheet.specs.Accepted.{line_at}
use Rattle.sheet.specs.Over.{SoundSheet}
use Rattle.sheet.specs.declared.Limits.{Limits}
use Rattle.label.specs.Label.{accent, char_width, line_width, block_width, block_height, block, cut, total_length}
use Rattle.label.specs.Accents.{AmongAccents, bare, WithAccents}
use Rattle.routing.specs.Routing.{kept}
use Rattle.routing.specs.Sheets.{sizes_of, SameFrame}
use Rattle.calls.specs.Calls.{values, check, label_size, route, records_after, text_after, clutter, layout, xs_after, ys_after, list, list_after}
use Rattle.demand3.specs.Demand.{Call, Answered, record_at, path_at, graph, frame}

-- ---- two label blocks, two sheets

-- As many lines, each of the second is that of the first with accents put in.
pub record LinesPut (l m : List (List ℕ)) : Type 0 where
  pub many : length l ≡ length m
  pub each : (j : ℕ) → j < length l → WithAccents (get_or l j []) (get_or m j [])

-- The same states and arrow ends; each arrow has as many lines in both, each of the same characters once its accents are left out.
pub record AccentsOnly (g h : Graph) : Type 0 where
  pub ends : SameFrame g h
  pub lines : (k : ℕ) → k < length g.arrows → map bare (arrow_at g k).lines ≡ map bare (arrow_at h k).lines

-- The same states and arrow ends; the lines of each arrow of the second are those of the first with accents put in.
pub record AccentsPut (g h : Graph) : Type 0 where
  pub ends : SameFrame g h
  pub lines : (k : ℕ) → k < length g.arrows → LinesPut (arrow_at g k).lines (arrow_at h k).lines

-- The same states and arrow ends, and the labels have the same sizes.
pub record SameSizes (g h : Graph) : Type 0 where
  pub ends : SameFrame g h
  pub sizes : sizes_of g ≡ sizes_of h

-- No cause of 1, 2, 4 and 3 holds, and no line has more than 96 bytes.
pub record Sound (t : List ℕ) : Type 0 where
  pub records : SoundSheet t
  pub bytes : (k j : ℕ) → k < length (meaning t).arrows → j < length (arrow_at (meaning t) k).lines → length (line_at (meaning t) k j) ≤ 96

-- ---- answered alike

-- The calls that draw, place or list answer alike, the one sheet under the limits l and the other under m, refusals too, and leave the same in what they are lent:
-- at all centres, by every kind, whatever is lent.
pub record AnsweredAlike (s : List ℕ) (l : Limits) (t : List ℕ) (m : Limits) : Type 0 where
  pub routed : (xs ys : List Float) (room textRoom : ℕ) → route s l xs ys room textRoom ≡ route t m xs ys room textRoom
  pub records : (xs ys lent : List Float) (textRoom : ℕ) → records_after s l xs ys lent textRoom ≡ records_after t m xs ys lent textRoom
  pub paths : (xs ys : List Float) (room : ℕ) (lent : List ℕ) → text_after s l xs ys room lent ≡ text_after t m xs ys room lent
  pub counted : (xs ys : List Float) → clutter s l xs ys ≡ clutter t m xs ys
  pub placed : (kind xRoom yRoom : ℕ) → layout s l kind xRoom yRoom ≡ layout t m kind xRoom yRoom
  pub xs : (kind : ℕ) (lent : List Float) (yRoom : ℕ) → xs_after s l kind lent yRoom ≡ xs_after t m kind lent yRoom
  pub ys : (kind xRoom : ℕ) (lent : List Float) → ys_after s l kind xRoom lent ≡ ys_after t m kind xRoom lent
  pub listed : (kind room : ℕ) → list s l kind room ≡ list t m kind room
  pub lines : (kind : ℕ) (lent : List ℕ) → list_after s l kind lent ≡ list_after t m kind lent

-- Two routings that are answered: as many numbers and bytes, every record alike in all twenty numbers, and its path.
pub record RecordsAlike (c d : Call) (a : Answered c) (b : Answered d) : Type 0 where
  pub numbers : a.numbers ≡ b.numbers
  pub bytes : a.bytes ≡ b.bytes
  pub records : (k : ℕ) → k < length (kept (frame c)) → record_at c k ≡ record_at d k
  pub paths : (k : ℕ) → k < length (kept (frame c)) → path_at c k ≡ path_at d k

-- ---- the claim

pub record AccentsTakeNoWidth : Type 0 where
  -- "Characters U+0300 to U+036F now have width 0": these and no others
  pub exactly : (c : ℕ) → (char_width c ≡ f0 → AmongAccents c) × (AmongAccents c → char_width c ≡ f0)
  -- "all others stay", U+02FF and U+0370 among them
  pub others : (c : ℕ) → (AmongAccents c → ⊥) → char_width c ≡ cond (ltb c 0x80) label_char_width label_wide_char_width
  pub borders : (char_width 0x2ff ≡ f12) × (char_width 0x300 ≡ f0) × (char_width 0x36f ≡ f0) × (char_width 0x370 ≡ f12)
  -- what `label_size` answers to a line of one character, where the limits allow a line
  pub one : (c : ℕ) (m : Limits) → Scalar c → 1 ≤ m.lines → label_size (utf8 c) (length (utf8 c) ∷ []) m ≡ values (char_width c, f15)
  -- accents put into a line, before, between or after its characters: it has the other characters that it had, its width, and is well-formed exactly where it was
  pub put : (line l : List ℕ) → WithAccents line l → (bare l ≡ bare line) × (line_width l ≡ line_width line) × (well_formed l ≡ well_formed line)
  -- a line of accents alone has width 0, and counts as a line
  pub alone : (marks : List ℕ) → every accent marks ≡ true
      → (line_width (flat_map utf8 marks) ≡ f0)
      × ((l m : List (List ℕ)) → block (l ++ (flat_map utf8 marks ∷ m)) ≡ record { width = block_width (l ++ m); height = block_height (suc (length (l ++ m))) })
  -- what `label_size` answers is the size of the block of lines;
  pub measured : (text lengths : List ℕ) (m : Limits) (a : Float × Float) → label_size text lengths m ≡ values a → a ≡ ((block (cut text lengths)).width, (block (cut text lengths)).height)
  -- two blocks that it measures, each under its limits, and that differ in accents only have the same size;
  pub blocks : (text lengths text' lengths' : List ℕ) (l m : Limits) (a b : Float × Float) → label_size text lengths l ≡ values a → label_size text' lengths' m ≡ values b
      → map bare (cut text lengths) ≡ map bare (cut text' lengths') → a ≡ b
  -- and with accents put into the lines of one that it measures it measures the other too, if no line gets more than 96 bytes
  pub blocks_put : (text lengths text' lengths' : List ℕ) (m : Limits) (a : Float × Float) → label_size text lengths m ≡ values a → LinesPut (cut text lengths) (cut text' lengths')
      → any_of (ltb 96) lengths' ≡ false → length text' ≡ total_length lengths' → label_size text' lengths' m ≡ values a
  -- "Column gaps, rings, boxes and label choice follow from the new width": labels enter by their sizes alone
  pub by_sizes : (s t : List ℕ) (l m : Limits) → check s l ≡ values tt → check t m ≡ values tt → SameSizes (meaning s) (meaning t) → AnsweredAlike s l t m
  pub records_by_sizes : (c d : Call) (a : Answered c) (b : Answered d) → SameSizes (graph c) (graph d) → (frame c).centres ≡ (frame d).centres → RecordsAlike c d a b
  -- and these are the same where accents alone differ
  pub same_sizes : (g h : Graph) → AccentsOnly g h → SameSizes g h
  -- so two sheets that differ in accents only, each accepted under its limits, are answered alike,
  pub sheets : (s t : List ℕ) (l m : Limits) → check s l ≡ values tt → check t m ≡ values tt → AccentsOnly (meaning s) (meaning t) → AnsweredAlike s l t m
  -- and at the same centres, whatever else is lent, their records are alike
  pub routings : (c d : Call) (a : Answered c) (b : Answered d) → AccentsOnly (graph c) (graph d) → (frame c).centres ≡ (frame d).centres → RecordsAlike c d a b
  -- accents put into the lines of an accepted sheet: the two differ in accents only, and the second is accepted if its records are sound and no line gets more than 96 bytes
  pub only : (g h : Graph) → AccentsPut g h → AccentsOnly g h
  pub accepted : (s t : List ℕ) (m : Limits) → check s m ≡ values tt → AccentsPut (meaning s) (meaning t) → Sound t → check t m ≡ values tt
