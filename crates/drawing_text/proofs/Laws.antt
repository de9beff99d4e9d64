-- What a loop meets at number k: the record, the state, and what is left. How lines grow field by field, and tests in a row. Assumes nothing.
use mathlib.Core.Path.{◌≡◌, refl, sym, ap, ap₂, ◌∙◌}
use mathlib.Core.Bool.{Bool, true, ◌&&◌}
use mathlib.Core.List.{List, [], ◌∷◌, ◌++◌, append_assoc, append-nil, map, flat_map}
use Prim.Native.Nat.{ℕ, suc, ◌+◌, ◌≤◌, ◌<◌}
use native.Mathlib.Numerals.{add-one}
use lib.Ieee.{Float, nan}
use lib.ListN.{length, drop, get_or}
use Rattle.text.specs.declared.Writer.{Writer}
use Rattle.text.specs.Writing.{Adds, adds_as, adds-more}
use Rattle.laws.specs.Every.{every, every_join, every_map, every-all}
use Rattle.laws.specs.Joined.{flat_join}
use Rattle.laws.specs.Bools.{and_true}
use Rattle.shape.specs.declared.«V».{«V»}
use Rattle.shape.specs.Plane.{vec, rect}
use Rattle.shape.specs.declared.Curve.TheVariants.{Line}
use Rattle.label_spots.specs.declared.Anchor.TheVariants.{Start}
use Rattle.number.specs.Number.{writable, num_text}
use Rattle.svg.specs.Paths.{curve_path, path_writable, point_text, point_writable, head_of, head_path}
use Rattle.std.specs.List.{list_all}
use Rattle.std.proofs.Common.{drop-cons, drop_of_length-le}
use Rattle.laws.specs.Chains.{every_list}
use Rattle.label_spots.specs.declared.Geometry.{Geometry}
use Rattle.totals.specs.declared.Totals.{Totals}
use Rattle.drawing_text.specs.Lines.{paths_of, paths_writable, Field, TextLine, named, listed_state, states_from, starts, field_text, fields_text, body_text, line_text, lines_text, float_field, word_field, anchor_word, label_line, field_writable, fields_writable, line_writable, lines_writable, point_fields, tip_line, size_line, state_line, start_line, total_line, record_lines, list_lines, list_writable}

-- ---- the states from state k on
pub states_front : (nodes : List «V») (k : ℕ) → k < length nodes
    → states_from k (drop k nodes) ≡ listed_state k (get_or nodes k (vec nan nan)) ∷ states_from (k + 1) (drop (k + 1) nodes)
unfolding states_from
states_front nodes k h = rw (drop-cons nodes k (vec nan nan) h, add-one)

pub states_none : (nodes : List «V») (k : ℕ) → length nodes ≤ k → states_from k (drop k nodes) ≡ []
unfolding states_from
states_none nodes k h = rw (drop_of_length-le nodes h)

-- ---- the arrows drawn, from number i on

-- what an index beyond a slice would read
abbrev pub no_geometry : Geometry
no_geometry = record { edge = 0; curve = Line (vec nan nan) (vec nan nan); tip = vec nan nan; tip_angle = nan; label = vec nan nan; anchor = Start; label_box = rect nan nan nan nan }

pub drawn_front : (l : List Geometry) (i : ℕ) → i < length l → drop i l ≡ get_or l i no_geometry ∷ drop (i + 1) l
drawn_front l i h = rw add-one (drop-cons l i no_geometry h)

-- tests of all, in the library's words
pub paths_list : (l : List Geometry) → list_all (λ g. path_writable (curve_path g.curve)) l ≡ paths_writable l
unfolding paths_writable paths_of
paths_list l = sym (every_map path_writable (λ (g : Geometry). curve_path g.curve) l ∙ every_list _ l)

pub records_list : (l : List Geometry) → list_all (λ g. lines_writable (record_lines g)) l ≡ lines_writable (flat_map record_lines l)
unfolding lines_writable
records_list l = sym (every-all line_writable record_lines l ∙ every_list _ l)

-- ---- a field is written after a blank
pub adds_field : {u v w : Writer} (f : Field) → Adds u v (32 ∷ []) → Adds v w (field_text f) → Adds u w (fields_text (f ∷ []))
unfolding fields_text flat_map
adds_field f u v = adds_as (sym (append-nil (32 ∷ field_text f))) (adds-more u v)

pub adds-fields : {u v w : Writer} (fs gs : List Field) → Adds u v (fields_text fs) → Adds v w (fields_text gs) → Adds u w (fields_text (fs ++ gs))
unfolding fields_text
adds-fields fs gs u v = adds_as (sym (flat_join (λ (f : Field). 32 ∷ field_text f) fs gs)) (adds-more u v)

-- a point's two floats
pub adds_point : {u v : Writer} (p : «V») → Adds u v (point_text p) → Adds u v (fields_text (point_fields p))
unfolding fields_text field_text flat_map point_text
adds_point p u = adds_as (ap (λ (t : List ℕ). 32 ∷ num_text p.x ++ t) (sym (append-nil (32 ∷ num_text p.y)))) u

-- ---- a line: its name, some fields more, its newline
pub adds-name : {u v x : Writer} (w : List ℕ) (fs : List Field) → Adds u v w → Adds v x (fields_text fs) → Adds u x (body_text (named w fs))
unfolding body_text
adds-name w fs u v = adds-more u v

pub adds_body : {u v w : Writer} (x : TextLine) (gs : List Field) → Adds u v (body_text x) → Adds v w (fields_text gs)
    → Adds u w (body_text (named x.name (x.fields ++ gs)))
unfolding body_text fields_text
adds_body x gs u v =
    adds_as
    (append_assoc x.name (fields_text x.fields) (fields_text gs)
    ∙ ap (λ (t : List ℕ). x.name ++ t) (sym (flat_join (λ (f : Field). 32 ∷ field_text f) x.fields gs)))
    (adds-more u v)

pub adds-line : {u v w : Writer} (x : TextLine) → Adds u v (body_text x) → Adds v w (10 ∷ []) → Adds u w (line_text x)
unfolding line_text
adds-line x u v = adds-more u v

-- lines in a row
pub adds-last : {u w : Writer} (x : TextLine) → Adds u w (line_text x) → Adds u w (lines_text (x ∷ []))
unfolding lines_text flat_map
adds-last x u = adds_as (sym (append-nil (line_text x))) u

pub adds_lines : {u v w : Writer} (x : TextLine) (xs : List TextLine) → Adds u v (line_text x) → Adds v w (lines_text xs) → Adds u w (lines_text (x ∷ xs))
unfolding lines_text flat_map
adds_lines x xs u v = adds-more u v

pub adds-both : {u v w : Writer} (xs ys : List TextLine) → Adds u v (lines_text xs) → Adds v w (lines_text ys) → Adds u w (lines_text (xs ++ ys))
unfolding lines_text
adds-both xs ys u v = adds_as (sym (flat_join line_text xs ys)) (adds-more u v)

-- ---- a test, and then another

-- the last test of all
pub last : {a r : Bool} → r ≡ a → r ≡ (a && true)
last {a} e = e ∙ sym (and_true a)

-- the tests of fields in a row
pub tests_fields : (fs gs : List Field) → fields_writable (fs ++ gs) ≡ (fields_writable fs && fields_writable gs)
unfolding fields_writable
tests_fields fs gs = every_join field_writable fs gs

-- the totals are whole numbers, which may always be written
total-passes : (ls : List TextLine) (t : Totals) → lines_writable (ls ++ (total_line t ∷ [])) ≡ lines_writable ls
unfolding lines_writable line_writable fields_writable field_writable every
total-passes ls t = every_join line_writable ls (total_line t ∷ []) ∙ and_true (every line_writable ls)

-- a size, a point, a line of an arrowhead's tip, the four lines of a record: what is tested of each
pub size_tests : (w h : Float) → line_writable (size_line w h) ≡ (writable w && writable h)
unfolding line_writable fields_writable field_writable every
size_tests w h = ap (λ (b : Bool). writable w && b) (and_true (writable h))

pub point_tests : (p : «V») → fields_writable (point_fields p) ≡ point_writable p
unfolding fields_writable field_writable every
point_tests p = ap (λ (b : Bool). writable p.x && b) (and_true (writable p.y))

pub tip_tests : (g : Geometry) → line_writable (tip_line g) ≡ (point_writable g.tip && writable g.tip_angle)
unfolding line_writable fields_writable field_writable every
tip_tests g = tests_fields (point_fields g.tip) (float_field g.tip_angle ∷ []) ∙ ap₂ ◌&&◌ (point_tests g.tip) (and_true (writable g.tip_angle))

pub label_tests : (g : Geometry) → line_writable (label_line g) ≡ point_writable g.label
unfolding line_writable fields_writable field_writable every
label_tests g = tests_fields (point_fields g.label) (word_field (anchor_word g.anchor) ∷ [])
    ∙ ap (λ (b : Bool). b && true) (point_tests g.label) ∙ and_true (point_writable g.label)

pub record_tests : (g : Geometry) → lines_writable (record_lines g)
    ≡ (path_writable (curve_path g.curve) && (line_writable (tip_line g) && (path_writable (head_path (head_of g.tip g.tip_angle)) && line_writable (label_line g))))
unfolding lines_writable line_writable fields_writable field_writable every
record_tests g = rw (and_true, and_true, and_true, and_true) refl

states_every : (k : ℕ) (nodes : List «V») → lines_writable (map state_line (states_from k nodes)) ≡ every point_writable nodes
unfolding lines_writable line_writable fields_writable field_writable every states_from
states_every k [] = refl
states_every k (p ∷ nodes) = ap₂ ◌&&◌ (point_tests p) (states_every (suc k) nodes)

pub states_tests : (k : ℕ) (nodes : List «V») → lines_writable (map state_line (states_from k nodes)) ≡ list_all point_writable nodes
states_tests k nodes = states_every k nodes ∙ every_list _ nodes

-- "Order: size, states, then four lines a record, then starts."
pub list_tests : (w h : Float) (cs : List «V») (flags : List ℕ) (gs : List Geometry) (t : Totals) → let states = states_from 0 cs in
    list_writable w h cs flags gs t ≡ (line_writable (size_line w h) && (lines_writable (map state_line states) && (lines_writable (flat_map record_lines gs) && lines_writable (map start_line (starts flags states)))))
unfolding list_writable list_lines lines_writable every
list_tests w h cs flags gs t =
    let states : List TextLine = map state_line (states_from 0 cs) in
    let begun : List TextLine = map start_line (starts flags (states_from 0 cs)) in
    let ending : List TextLine = begun ++ (total_line t ∷ []) in
    ap (λ (b : Bool). line_writable (size_line w h) && b)
    (every_join line_writable states (flat_map record_lines gs ++ ending)
    ∙ ap (λ (b : Bool). every line_writable states && b)
    (every_join line_writable (flat_map record_lines gs) ending ∙ ap (λ (b : Bool). every line_writable (flat_map record_lines gs) && b) (total-passes begun t)))
