-- The paths that the calls leave are read by the grammar as what their records say. Assumes nothing.
use Rattle.std.specs.Prelude.{◌≡◌, ℕ, ◌+◌, ◌*◌, ◌/◌, ◌≤◌, ◌<◌, drop}
use Rattle.std.proofs.Math.Path.{sym}
use Rattle.std.proofs.Common.{ap, ap₂, ◌∙◌, add-zero, arith}
use Rattle.std.proofs.Math.Bool.{true}
use mathlib.Core.List.{List, [], ◌∷◌, ◌++◌, flat_map}
use Rattle.std.proofs.lemmas.Bool.{not-false}
use Rattle.std.proofs.Math.ListN.{length, get_or}
use Prim.Native.String.{String}
use Rattle.laws.specs.Every.{every, every-at, every_map}
use Rattle.laws.specs.Bools.{and_first}
use Rattle.float.specs.Constants.{f0}
use Rattle.sheet.specs.Sheet.{meaning, flags_of}
use Rattle.shape.specs.declared.«V».{«V»}
use Rattle.svg.specs.Paths.{Command, curve_path, head_of, head_path, curve_text, head_text, path_text, path_writable}
use Rattle.svg.specs.Reads.{ReadsAs}
use Rattle.svg.specs.Reading.{svg_paths}
use Rattle.shape.specs.Centres.{centres}
use Rattle.label_spots.specs.declared.Geometry.{Geometry}
use Rattle.records.specs.Records.{decode_geometry}
use Rattle.totals.specs.declared.Totals.{Totals}
use Rattle.drawing_text.specs.Lines.{paths_of, paths_writable, TextLine, text_line, whole_field, path_field, field_text, fields_text, body_text, field_writable, fields_writable, line_writable, lines_writable, ListedState, start_tip, size_line, record_lines, list_lines, list_text, list_writable}
use Rattle.demand3.specs.Demand.{Call, Answered, path_at, text_line_at}
use Rattle.demand3.specs.Proof.{call_records}
use Rattle.demand3.proofs.Claim.{stands, path_is}
use Rattle.listing_shows.specs.Shown.{Lent, ListAnswered, LayoutAnswered, xs_left, ys_left, route_call, records_read, totals_read, out_left, record_line, arrow_number}
use Rattle.listing_shows.specs.Shown as Shown
use Rattle.listing_shows.specs.Found.{record_in_lem, record_line_inside, record_at_lem, start_in, start-inside, start-at}
use Rattle.listing_shows.specs.Proof.{numbers-many, read_back, record_read, centres-many, all-writable, listing_shows}
use Rattle.paths_read.specs.Read.{Path, PathLine, record_in, curve_in, head_in, start_states, Starts, PathsRead}

-- past the last record
abbrev other : Geometry
other = decode_geometry []

module _ (c : Call) (a : Answered c) where
  many : length (records_read c a) ≡ length (call_records c)
  many = ap length (read_back c a)

  -- record k as it is drawn
  drawn_in : (k : ℕ) → 20 * k + 20 ≤ a.numbers → record_in c k ≡ get_or (call_records c) k other
  drawn_in k h = sym (record_read c a k other h) ∙ ap (λ (l : List Geometry). get_or l k other) (read_back c a)

  paths_writable_lem : paths_writable (call_records c) ≡ true
  paths_writable_lem = not-false (paths_writable (call_records c)) ((stands c a).0.none 10)

  pub route_paths : (k : ℕ) → 20 * k + 20 ≤ a.numbers → Path (path_at c k) (curve_in c k)
  unfolding paths_writable paths_of
  route_paths k h =
      let i : k < length (call_records c) = omega (arith, numbers-many c a) in
      let g : Geometry = get_or (call_records c) k other in
      let each : every (λ g. path_writable (curve_path g.curve)) (call_records c) ≡ true = sym (every_map path_writable (λ (g : Geometry). curve_path g.curve) (call_records c)) ∙ paths_writable_lem in
      rw (drawn_in k h, path_is c a k other i) (record {
        reads = svg_paths.curves g.curve;
        writable = every-at (λ (g : Geometry). path_writable (curve_path g.curve)) (call_records c) k other each i;
      })

-- ---- the lines of a listing

-- a line of a number and a path: the path is read, and may be written if the line may
module _ (name : String) (n : ℕ) (cs : List (Command «V»)) (t : List ℕ) where
  abbrev its_line : TextLine
  its_line = text_line name (whole_field n ∷ path_field cs ∷ [])

  path-line : t ≡ body_text its_line → line_writable its_line ≡ true → ReadsAs (path_text cs) cs → PathLine t name n cs
  unfolding body_text fields_text field_text flat_map line_writable fields_writable field_writable every
  path-line e w h = record { path = path_text cs; line = e; read = record { reads = h; writable = and_first (path_writable cs) true w } }

module _ (c : Lent) (a : ListAnswered c) (l : LayoutAnswered c) (r : Answered (route_call c l)) where
  abbrev cs : List «V»
  cs = centres (xs_left c l) (ys_left c l)

  abbrev flags : List ℕ
  flags = flags_of (meaning c.sheet)

  abbrev gs : List Geometry
  gs = records_read (route_call c l) r

  abbrev totals : Totals
  totals = totals_read (route_call c l) r

  abbrev its : List TextLine
  its = list_lines l.width l.height cs flags gs totals

  -- past the last line
  abbrev past : TextLine
  past = size_line l.width l.height

  abbrev tail : List ℕ
  tail = drop (length (Shown.shown c l r)) c.out

  line_is : (n : ℕ) → text_line_at n (out_left c) ≡ text_line_at n (list_text l.width l.height cs flags gs totals ++ tail)
  line_is n = ap (text_line_at n) (listing_shows.shows c a l r).text

  writable-at : (n : ℕ) → n < length its → line_writable (get_or its n past) ≡ true
  unfolding list_writable lines_writable
  writable-at n i = every-at line_writable its n past (all-writable c a l r) i

  gs-many : length gs ≡ r.numbers / 20
  gs-many = omega (arith, many (route_call c l) r, numbers-many (route_call c l) r)

  -- line j of record k: its text, and that it may be written
  module _ (k : ℕ) (h : 20 * k + 20 ≤ r.numbers) where
    inside : k < length gs
    inside = omega (arith, gs-many)

    it : get_or gs k other ≡ record_in (route_call c l) k
    it = record_read (route_call c l) r k other h

    text_of : (j : ℕ) → j < 4 → text_line_at (record_line l.states k + j) (out_left c) ≡ body_text (get_or (record_lines (record_in (route_call c l) k)) j past)
    text_of j i =
        ap (λ (n : ℕ). text_line_at (record_line n k + j) (out_left c)) (sym (centres-many c l))
        ∙ line_is (record_line (length cs) k + j)
        ∙ record_at_lem l.width l.height cs flags gs totals tail past k j other inside i
        ∙ ap (λ (g : Geometry). body_text (get_or (record_lines g) j past)) it

    test_of : (j : ℕ) → j < 4 → line_writable (get_or (record_lines (record_in (route_call c l) k)) j past) ≡ true
    test_of j i =
        sym (ap (λ (g : Geometry). line_writable (get_or (record_lines g) j past)) it)
        ∙ sym (ap line_writable (record_in_lem l.width l.height cs flags gs totals tail past k j other inside i))
        ∙ writable-at (record_line (length cs) k + j) (record_line_inside l.width l.height cs flags gs totals tail past k j other inside i)

    pub edge : PathLine (text_line_at (record_line l.states k) (out_left c)) "edge" (arrow_number (route_call c l) k) (curve_in (route_call c l) k)
    unfolding decode_geometry curve_text
    edge =
        let g : Geometry = record_in (route_call c l) k in
        path-line "edge" g.edge (curve_path g.curve) _
        (ap (λ (n : ℕ). text_line_at n (out_left c)) (sym (add-zero (record_line l.states k))) ∙ text_of 0 (omega arith)) (test_of 0 (omega arith)) (svg_paths.curves g.curve)

    pub head-path : PathLine (text_line_at (record_line l.states k + 2) (out_left c)) "head" (arrow_number (route_call c l) k) (head_in (route_call c l) k)
    unfolding decode_geometry head_text
    head-path =
        let g : Geometry = record_in (route_call c l) k in
        path-line "head" g.edge (head_path (head_of g.tip g.tip_angle)) _ (text_of 2 (omega arith)) (test_of 2 (omega arith)) (svg_paths.heads g.tip g.tip_angle)

  pub start_paths : Starts c l r
  unfolding head_text
  start_paths j s i =
      let b : ListedState = get_or (start_states c l r) j s in
      path-line "start" b.number (head_path (head_of (start_tip b.centre) f0)) _
      (ap₂ (λ (n m : ℕ). text_line_at (record_line n m + j) (out_left c)) (sym (centres-many c l)) (sym gs-many)
      ∙ line_is (record_line (length cs) (length gs) + j)
      ∙ start-at l.width l.height cs flags gs totals tail past j s i)
      (sym (ap line_writable (start_in l.width l.height cs flags gs totals tail past j s i))
      ∙ writable-at (record_line (length cs) (length gs) + j) (start-inside l.width l.height cs flags gs totals tail past j s i))
      (svg_paths.heads (start_tip b.centre) f0)

pub paths_read : PathsRead
paths_read = record { routes = route_paths; edges = edge; heads = head-path; starts = start_paths }
