-- The lines of a listing, found by their numbers from 0. Assumes nothing.
use Rattle.std.specs.Prelude.{◌≡◌, refl, eqb, Float}
use Rattle.std.proofs.Common.{sym, ◌∙◌, not-suc-le-zero, add-zero, ne_eqb, length-append}
use Rattle.std.proofs.Math.Path.{ap, ap₂}
use mathlib.Core.List.{List, [], ◌∷◌, ◌++◌, append_assoc, append-nil, map, flat_map}
use Prim.Native.Nat.{ℕ, zero, suc, ◌+◌, ◌-◌, ◌*◌, ◌<◌}
use native.Mathlib.Omega.{arith}
use Rattle.std.proofs.Math.ListN.{length, get_or, length-map, get_or-append}
use Rattle.std.proofs.Math.Seq.{get_or-append-add}
use Rattle.laws.specs.Counting.{how_many, how_many_join}
use Rattle.laws.specs.Joined.{flat_snoc}
use Rattle.laws.specs.Lists.{map_at}
use Rattle.laws.specs.Flats.{flat_at, length_flat}
use Rattle.shape.specs.declared.«V».{«V»}
use Rattle.svg.specs.declared.Head.{Head}
use Rattle.svg.specs.Paths.{head_of, head_path, curve_text}
use Rattle.label_spots.specs.declared.Anchor.{Anchor}
use Rattle.label_spots.specs.declared.Anchor.TheVariants.{Start, Middle, End}
use Rattle.label_spots.specs.declared.Geometry.{Geometry}
use Rattle.totals.specs.declared.Totals.{Totals}
use Rattle.drawing_text.specs.Lines.{Field, whole_field, float_field, path_field, word_field, TextLine, ListedState, field_text, fields_text, body_text, line_text, lines_text, anchor_word, states_from, starts, size_line, state_line, start_line, total_line, record_lines, list_lines, list_text}
use Rattle.demand3.specs.Demand.{until_newline, after_newline, text_line_at}
use Rattle.demand3.specs.Newlines.{Above, join, digits_above, num_above, Letters, path_above, curve_letters, line_first, line-later}
use Rattle.listing_shows.specs.Shown.{last_line, record_line, edge_text, total_text}

-- ---- no newline within a line

-- the letters of a field's path, and the bytes of a word, are above the newline
abbrev Within : Field → Type 0
Within (whole_field n) = Unit {0}
Within (float_field v) = Unit {0}
Within (path_field cs) = Letters cs
Within (word_field w) = Above w

abbrev AllWithin : List Field → Type 0
AllWithin [] = Unit {0}
AllWithin (f ∷ fs) = Within f × AllWithin fs

-- a line with no newline but its last
pub record Single (x : TextLine) : Type 0 where
  name : Above x.name
  fields : AllWithin x.fields

field_above : (f : Field) → Within f → Above (field_text f)
unfolding field_text
field_above (whole_field n) h = digits_above n
field_above (float_field v) h = num_above v
field_above (path_field cs) h = path_above cs h
field_above (word_field w) h = h

fields_above : (fs : List Field) → AllWithin fs → Above (fields_text fs)
unfolding fields_text flat_map
fields_above [] h = tt
fields_above (f ∷ fs) h = join (32 ∷ field_text f) (fields_text fs) (omega arith, field_above f h.0) (fields_above fs h.1)

body_above : (x : TextLine) → Single x → Above (body_text x)
unfolding body_text
body_above x h = join x.name (fields_text x.fields) h.name (fields_above x.fields h.fields)

-- ---- line n of such lines, with anything behind them

abbrev pub AllSingle : List TextLine → Type 0
AllSingle [] = Unit {0}
AllSingle (x ∷ xs) = Single x × AllSingle xs

regroup : (x : TextLine) (xs : List TextLine) (tail : List ℕ) → lines_text (x ∷ xs) ++ tail ≡ body_text x ++ 10 ∷ (lines_text xs ++ tail)
unfolding lines_text line_text flat_map
regroup x xs tail = append_assoc (body_text x ++ (10 ∷ [])) (lines_text xs) tail ∙ append_assoc (body_text x) (10 ∷ []) (lines_text xs ++ tail)

pub line_at : (xs : List TextLine) (tail : List ℕ) (n : ℕ) (d : TextLine) → AllSingle xs → n < length xs → text_line_at n (lines_text xs ++ tail) ≡ body_text (get_or xs n d)
unfolding text_line_at
line_at [] tail n d h i = absurd (not-suc-le-zero i)
line_at (x ∷ xs) tail zero d h i = ap until_newline (regroup x xs tail) ∙ line_first (body_text x) (lines_text xs ++ tail) (body_above x h.0)
line_at (x ∷ xs) tail (suc n) d h i =
    ap (λ (t : List ℕ). text_line_at n (after_newline t)) (regroup x xs tail)
    ∙ ap (text_line_at n) (line-later (body_text x) (lines_text xs ++ tail) (body_above x h.0))
    ∙ line_at xs tail n d h.1 (omega arith)

-- such lines have a newline each
none_above : (l : List ℕ) → Above l → how_many (eqb 10) l ≡ 0
unfolding how_many
none_above [] h = refl
none_above (b ∷ l) h = rw (ne_eqb 10 b (λ e. absurd (omega (arith, h.0)))) (omega (arith, none_above l h.1))

newlines_many : (xs : List TextLine) → AllSingle xs → how_many (eqb 10) (lines_text xs) ≡ length xs
unfolding lines_text line_text flat_map how_many
newlines_many [] h = refl
newlines_many (x ∷ xs) h =
    how_many_join (eqb 10) (body_text x ++ (10 ∷ [])) (lines_text xs)
    ∙ ap₂ (λ (m n : ℕ). m + n) (how_many_join (eqb 10) (body_text x) (10 ∷ []) ∙ ap (λ (n : ℕ). n + 1) (none_above (body_text x) (body_above x h.0))) (newlines_many xs h.1)
    ∙ omega arith

-- ---- the lines of a listing are such

single_join : (xs ys : List TextLine) → AllSingle xs → AllSingle ys → AllSingle (xs ++ ys)
single_join [] ys p q = q
single_join (x ∷ xs) ys p q = (p.0, single_join xs ys p.1 q)

single_map : {A : Type 0} (g : A → TextLine) → ((x : A) → Single (g x)) → (l : List A) → AllSingle (map g l)
single_map g h [] = tt
single_map g h (x ∷ l) = (h x, single_map g h l)

single_all : {A : Type 0} (g : A → List TextLine) → ((x : A) → AllSingle (g x)) → (l : List A) → AllSingle (flat_map g l)
unfolding flat_map
single_all g h [] = tt
single_all g h (x ∷ l) = single_join (g x) (flat_map g l) (h x) (single_all g h l)

anchor_above : (a : Anchor) → Above (anchor_word a)
anchor_above Start = (omega arith, (omega arith, (omega arith, (omega arith, (omega arith, tt)))))
anchor_above Middle = (omega arith, (omega arith, (omega arith, (omega arith, (omega arith, (omega arith, tt))))))
anchor_above End = (omega arith, (omega arith, (omega arith, tt)))

head-letters : (h : Head) → Letters (head_path h)
head-letters h = (omega arith, (omega arith, (omega arith, (omega arith, tt))))

size_single : (w h : Float) → Single (size_line w h)
size_single w h = record { name = (omega arith, (omega arith, (omega arith, (omega arith, tt)))); fields = (tt, (tt, tt)) }

state_single : (s : ListedState) → Single (state_line s)
state_single s = record { name = (omega arith, (omega arith, (omega arith, (omega arith, (omega arith, tt))))); fields = (tt, (tt, (tt, tt))) }

record_single : (g : Geometry) → AllSingle (record_lines g)
record_single g = (
  record { name = (omega arith, (omega arith, (omega arith, (omega arith, tt)))); fields = (tt, (curve_letters g.curve, tt)) },
  (
    record { name = (omega arith, (omega arith, (omega arith, tt))); fields = (tt, (tt, (tt, (tt, tt)))) },
    (
      record { name = (omega arith, (omega arith, (omega arith, (omega arith, tt)))); fields = (tt, (head-letters (head_of g.tip g.tip_angle), tt)) },
      (
        record { name = (omega arith, (omega arith, (omega arith, (omega arith, (omega arith, tt))))); fields = (tt, (tt, (tt, (anchor_above g.anchor, tt)))) },
        tt,
      ),
    ),
  ),
)

total_single : (t : Totals) → Single (total_line t)
total_single t = record { name = (omega arith, (omega arith, (omega arith, (omega arith, (omega arith, tt))))); fields = (tt, (tt, (tt, (tt, (tt, tt))))) }

start_single : (s : ListedState) → Single (start_line s)
start_single s = record { name = (omega arith, (omega arith, (omega arith, (omega arith, (omega arith, tt))))); fields = (tt, ((omega arith, (omega arith, (omega arith, (omega arith, tt)))), tt)) }

-- ---- where each stands among them

states-many : (k : ℕ) (cs : List «V») → length (states_from k cs) ≡ length cs
unfolding states_from
states-many k [] = refl
states-many k (c ∷ cs) = ap suc (states-many (suc k) cs)

-- the lines before the last
abbrev pub lines_before : Float → Float → List «V» → List ℕ → List Geometry → List TextLine
lines_before w h cs flags gs =
    let states = states_from 0 cs in
    size_line w h ∷ (map state_line states ++ (flat_map record_lines gs ++ map start_line (starts flags states)))

pub total_ends : (w h : Float) (cs : List «V») (flags : List ℕ) (gs : List Geometry) (t : Totals) → list_text w h cs flags gs t ≡ lines_text (lines_before w h cs flags gs) ++ line_text (total_line t)
unfolding list_text list_lines lines_text
total_ends w h cs flags gs t =
    let states : List TextLine = map state_line (states_from 0 cs) in
    let drawn : List TextLine = flat_map record_lines gs in
    let begun : List TextLine = map start_line (starts flags (states_from 0 cs)) in
    ap (λ (l : List TextLine). flat_map line_text (size_line w h ∷ l))
    (ap (λ (l : List TextLine). states ++ l) (sym (append_assoc drawn begun (total_line t ∷ []))) ∙ sym (append_assoc states (drawn ++ begun) (total_line t ∷ [])))
    ∙ flat_snoc line_text (lines_before w h cs flags gs) (total_line t)

module _ (w h : Float) (cs : List «V») (flags : List ℕ) (gs : List Geometry) (t : Totals) (tail : List ℕ) (d : TextLine) where
  abbrev its : List TextLine
  its = list_lines w h cs flags gs t

  -- the lines behind the records
  abbrev last : List TextLine
  last = map start_line (starts flags (states_from 0 cs)) ++ (total_line t ∷ [])

  all_single : AllSingle its
  unfolding list_lines
  all_single = (
    size_single w h,
    single_join (map state_line (states_from 0 cs)) _ (single_map state_line state_single (states_from 0 cs))
        (single_join (flat_map record_lines gs) _ (single_all record_lines record_single gs)
        (single_join (map start_line (starts flags (states_from 0 cs))) (total_line t ∷ []) (single_map start_line start_single (starts flags (states_from 0 cs))) (total_single t, tt))),
  )

  -- the lines behind the size and the states
  behind : (n : ℕ) → get_or its (1 + length cs + n) d ≡ get_or (flat_map record_lines gs ++ last) n d
  unfolding list_lines
  behind n =
      let a : List TextLine = map state_line (states_from 0 cs) in
      let e : length a ≡ length cs = length-map (states_from 0 cs) state_line ∙ states-many 0 cs in
      let m : 1 + length cs + n ≡ suc (length a) + n = omega (arith, e) in
      ap (λ (m : ℕ). get_or (size_line w h ∷ (a ++ (flat_map record_lines gs ++ last))) m d) m
      ∙ get_or-append-add (size_line w h ∷ a) (flat_map record_lines gs ++ last) n d

  -- the lines behind the records, too
  behind_records : (n : ℕ) → get_or its (record_line (length cs) (length gs) + n) d ≡ get_or last n d
  behind_records n =
      let e : length (flat_map record_lines gs) ≡ 4 * length gs = length_flat record_lines 4 (λ g. refl) gs in
      ap (λ (m : ℕ). get_or its m d) (omega (arith, e))
      ∙ behind (length (flat_map record_lines gs) + n)
      ∙ get_or-append-add (flat_map record_lines gs) last n d

  last-many : length last ≡ length (starts flags (states_from 0 cs)) + 1
  last-many = length-append (map start_line (starts flags (states_from 0 cs))) (total_line t ∷ []) ∙ ap (λ (n : ℕ). n + 1) (length-map (starts flags (states_from 0 cs)) start_line)

  its-many : length its ≡ record_line (length cs) (length gs) + (length (starts flags (states_from 0 cs)) + 1)
  unfolding list_lines
  its-many =
      ap suc
      (length-append (map state_line (states_from 0 cs)) _
      ∙ ap₂ (λ (m n : ℕ). m + n) (length-map (states_from 0 cs) state_line ∙ states-many 0 cs)
      (length-append (flat_map record_lines gs) _ ∙ ap₂ (λ (m n : ℕ). m + n) (length_flat record_lines 4 (λ g. refl) gs) last-many))
      ∙ omega arith

  -- line j of record k, and the line of start j, among them
  module _ (k j : ℕ) (g : Geometry) (i : k < length gs) (l : j < 4) where
    pub record_line_inside : record_line (length cs) k + j < length its
    record_line_inside = omega (arith, its-many)

    pub record_in_lem : get_or its (record_line (length cs) k + j) d ≡ get_or (record_lines (get_or gs k g)) j d
    record_in_lem =
        let n : length (flat_map record_lines gs) ≡ 4 * length gs = length_flat record_lines 4 (λ g. refl) gs in
        ap (λ (m : ℕ). get_or its m d) (omega arith)
        ∙ behind (4 * k + j)
        ∙ get_or-append (flat_map record_lines gs) _ d (4 * k + j) (omega (arith, n))
        ∙ flat_at record_lines 4 (λ g. refl) gs k j g d i l

    pub record_at_lem : text_line_at (record_line (length cs) k + j) (list_text w h cs flags gs t ++ tail) ≡ body_text (get_or (record_lines (get_or gs k g)) j d)
    unfolding list_text
    record_at_lem = line_at its tail (record_line (length cs) k + j) d all_single record_line_inside ∙ ap body_text record_in_lem

  module _ (j : ℕ) (s : ListedState) (i : j < length (starts flags (states_from 0 cs))) where
    pub start-inside : record_line (length cs) (length gs) + j < length its
    start-inside = omega (arith, its-many)

    pub start_in : get_or its (record_line (length cs) (length gs) + j) d ≡ start_line (get_or (starts flags (states_from 0 cs)) j s)
    start_in =
        let n : length (map start_line (starts flags (states_from 0 cs))) ≡ length (starts flags (states_from 0 cs)) = length-map (starts flags (states_from 0 cs)) start_line in
        behind_records j
        ∙ get_or-append (map start_line (starts flags (states_from 0 cs))) (total_line t ∷ []) d j (omega (arith, n))
        ∙ sym (map_at start_line (starts flags (states_from 0 cs)) j s d i)

    pub start-at : text_line_at (record_line (length cs) (length gs) + j) (list_text w h cs flags gs t ++ tail) ≡ body_text (start_line (get_or (starts flags (states_from 0 cs)) j s))
    unfolding list_text
    start-at = line_at its tail (record_line (length cs) (length gs) + j) d all_single start-inside ∙ ap body_text start_in

  -- the first of record k, with its path as text
  pub edge_at : (k : ℕ) (g : Geometry) → k < length gs → text_line_at (record_line (length cs) k) (list_text w h cs flags gs t ++ tail) ≡ edge_text (get_or gs k g).edge (curve_text (get_or gs k g).curve)
  unfolding body_text fields_text field_text curve_text flat_map
  edge_at k g i = ap (λ (n : ℕ). text_line_at n (list_text w h cs flags gs t ++ tail)) (sym (add-zero (record_line (length cs) k))) ∙ record_at_lem k 0 g i (omega arith)

  -- the last of all
  total_in : get_or its (length its - 1) d ≡ total_line t
  total_in =
      let a : List TextLine = map start_line (starts flags (states_from 0 cs)) in
      let n : length a ≡ length (starts flags (states_from 0 cs)) = length-map (starts flags (states_from 0 cs)) start_line in
      let e : length its - 1 ≡ record_line (length cs) (length gs) + (length a + 0) = omega (arith, its-many, n) in
      ap (λ (m : ℕ). get_or its m d) e
      ∙ behind_records (length a + 0)
      ∙ get_or-append-add a (total_line t ∷ []) 0 d

  pub last-at : last_line (list_text w h cs flags gs t) ≡ total_text t
  unfolding list_text
  last-at =
      ap (λ (n : ℕ). text_line_at (n - 1) (lines_text its)) (newlines_many its all_single)
      ∙ ap (text_line_at (length its - 1)) (sym (append-nil (lines_text its)))
      ∙ line_at its [] (length its - 1) d all_single (omega (arith, its-many))
      ∙ ap body_text total_in
