-- A listing shows what routing gives at its layout's centres. Assumes nothing.
use Rattle.std.specs.Prelude.{◌≡◌, Bool, true, not, ◌&&◌, ◌||◌, ℕ, ◌+◌, ◌*◌, ◌/◌, ◌≤◌, get_or, take, Float}
use Rattle.std.proofs.Math.Path.{refl, sym, ap, ap₂}
use Rattle.std.proofs.Common.{◌∙◌, zero-add, arith, ltb-false, le-ltb}
use Rattle.std.proofs.Math.Bool.{false}
use mathlib.Core.List.{List, [], ◌∷◌, ◌++◌, map, flat_map}
use Rattle.std.proofs.lemmas.Bool.{not-false}
use Rattle.std.proofs.Math.ListN.{length, drop, length-map}
use Rattle.std.proofs.Math.Seq.{take_at}
use Rattle.laws.specs.Put.{put, put-eq}
use Rattle.laws.specs.Refusals.{Clear, clear_none, without, clear_from, clear_decides}
use Rattle.laws.specs.Zip.{zip_length}
use Rattle.laws.specs.Bools.{or_false_left, or_false_right, or_none, and_first, and_second}
use Rattle.laws.specs.Flats.{records-at}
use Rattle.laws.specs.Every.{every, every_join, every-all}
use Rattle.sheet.specs.Sheet.{meaning, flags_of}
use Rattle.sheet.specs.Refusals.{refusals}
use Rattle.sheet.specs.Accepted.{OnMainScreen}
use Rattle.shape.specs.declared.«V».{«V»}
use Rattle.shape.specs.Plane.{vec}
use Rattle.shape.specs.Centres.{centres}
use Rattle.svg.specs.Paths.{curve_path, curve_text, path_writable}
use Rattle.label_spots.specs.declared.Geometry.{Geometry}
use Rattle.records.specs.Records.{decode_geometry, decode_records}
use Rattle.records.specs.Back.{length-records}
use Rattle.beyond.specs.Beyond.{beyond}
use Rattle.routing.specs.Sheets.{frame_of, sizes_of, ends_of}
use Rattle.routing_laws.proofs.Decoded.{records_decoded}
use Rattle.totals.specs.declared.Totals.{Totals}
use Rattle.totals.specs.Totals.{totals_of}
use Rattle.drawing_text.specs.Lines.{paths_of, paths_text, paths_writable, states_from, starts, field_writable, fields_writable, line_writable, lines_writable, size_line, state_line, edge_line, record_lines, start_line, total_line, list_lines, list_text, list_writable}
use Rattle.draw.specs.Drawn.{far_centre}
use Rattle.layout.specs.Layout.{Layout, plan_of, last_kind}
use Rattle.plan.specs.Measured.{layout_beyond}
use Rattle.layout.specs.Alike.{layout-whole}
use Rattle.calls.specs.Calls.{number, values, capped_limits, short, onto, drawn_of, numbers_of, route_refusals, route, records_after, layout_for, layout_refusals, layout, xs_after, ys_after, listing, listing_writable, list_refusals, list, list_after}
use Rattle.calls.specs.Laws.{accepted_shown}
use Rattle.calls.specs.Decided.{answered-clear}
use Rattle.demand3.specs.Demand.{Call, Answered, records_left, record_at, path_at, text_line_at}
use Rattle.demand3.specs.Proof.{call_records}
use Rattle.demand3.proofs.Claim.{stands, path_is}
use Rattle.listing_shows.specs.Shown.{Lent, ListAnswered, LayoutAnswered, xs_left, ys_left, route_call, records_read, totals_read, out_left, list_wrote, last_line, record_line, edge_text, total_text, arrow_number, Shows, Enough, ListingShows}
use Rattle.listing_shows.specs.Shown as Spec
use Rattle.listing_shows.specs.Found.{edge_at, last-at}

-- ---- a listing whose numbers may be written has paths that may be written

paths_ok : (gs : List Geometry) → every (λ g. lines_writable (record_lines g)) gs ≡ true → paths_writable gs ≡ true
unfolding paths_writable paths_of lines_writable line_writable fields_writable field_writable every
paths_ok [] e = refl
paths_ok (g ∷ gs) e =
    let one = lines_writable (record_lines g) in
    let more = every (λ g. lines_writable (record_lines g)) gs in
    ap₂ (λ (a b : Bool). a && b) (and_first (path_writable (curve_path g.curve)) true (and_first (line_writable (edge_line g)) _ (and_first one more e))) (paths_ok gs (and_second one more e))

list_paths : (w h : Float) (cs : List «V») (flags : List ℕ) (gs : List Geometry) (t : Totals) → list_writable w h cs flags gs t ≡ true → paths_writable gs ≡ true
unfolding list_writable list_lines lines_writable every
list_paths w h cs flags gs t e =
    let front = map state_line (states_from 0 cs) in
    let last = map start_line (starts flags (states_from 0 cs)) ++ (total_line t ∷ []) in
    let behind : every line_writable (flat_map record_lines gs ++ last) ≡ true =
    and_second (every line_writable front) _ (sym (every_join line_writable front (flat_map record_lines gs ++ last)) ∙ and_second (line_writable (size_line w h)) _ e) in
    paths_ok gs (sym (every-all line_writable record_lines gs) ∙ and_first _ (every line_writable last) (sym (every_join line_writable (flat_map record_lines gs) last) ∙ behind))

-- ---- records are read back

module _ (r : Call) (a : Answered r) where
  few_arrows : length (frame_of (meaning r.sheet) r.xs r.ys).arrows ≤ 65536
  unfolding frame_of
  few_arrows =
      let c : Clear (refusals (capped_limits r.limits) r.sheet) = clear_from (refusals (capped_limits r.limits) r.sheet) [] _ clear_none (stands r a).0 refl in
      let g : OnMainScreen (meaning r.sheet) = accepted_shown r.limits r.sheet c in
      omega (arith, g.arrows, length-map (meaning r.sheet).arrows ends_of)

  pub numbers-many : a.numbers ≡ 20 * length (call_records r)
  numbers-many = ap (λ (p : ℕ × ℕ). p.0) (stands r a).1 ∙ length-records (call_records r)

  room : length (numbers_of (call_records r)) ≤ length r.records
  room = ltb-false (length r.records) (length (numbers_of (call_records r))) (or_false_left (short (length r.records) (numbers_of (call_records r))) _ ((stands r a).0.none 7))

  pub read_back : records_read r a ≡ call_records r
  unfolding records_after
  read_back =
      let n : a.numbers / 20 ≡ length (call_records r) = omega (arith, numbers-many) in
      let e : records_left r ≡ put r.records 0 (numbers_of (call_records r)) =
      clear_decides (λ (k : ℕ). r.records) (onto (numbers_of (call_records r)) r.records) _ (stands r a).0
      ∙ sym (put-eq r.records 0 (numbers_of (call_records r)) (omega (arith, room)) ∙ ap (λ (k : ℕ). numbers_of (call_records r) ++ drop k r.records) (zero-add (length (numbers_of (call_records r))))) in
      ap₂ decode_records n e
      ∙ records_decoded (frame_of (meaning r.sheet) r.xs r.ys) (sizes_of (meaning r.sheet)) r.records few_arrows (omega (arith, room, length-records (call_records r)))

  pub record_read : (k : ℕ) (d : Geometry) → 20 * k + 20 ≤ a.numbers → get_or (records_read r a) k d ≡ decode_geometry (record_at r k)
  record_read k d h = records-at decode_geometry 20 (a.numbers / 20) (records_left r) k d (omega arith)

-- ---- what `layout` leaves

module _ (c : Lent) (l : LayoutAnswered c) where
  abbrev its : Layout
  its = layout_for c.sheet c.kind

  laying : Clear (layout_refusals c.sheet c.limits c.kind (length c.xs) (length c.ys))
      × (◌≡◌ {A = ℕ × Float × Float} (l.states, l.width, l.height) (length (meaning c.sheet).states, its.width, its.height))
  unfolding layout
  laying = answered-clear (layout_refusals c.sheet c.limits c.kind (length c.xs) (length c.ys)) (length (meaning c.sheet).states, its.width, its.height) (l.states, l.width, l.height) (sym l.answer)

  many : l.states ≡ length (meaning c.sheet).states
  many = ap (λ (t : ℕ × Float × Float). t.0) laying.1

  xs_many : length its.xs ≡ l.states
  xs_many = (layout-whole c.kind (meaning c.sheet) (ltb-false last_kind c.kind (laying.0.none 11))).0 ∙ sym many

  ys_many : length its.ys ≡ l.states
  ys_many = (layout-whole c.kind (meaning c.sheet) (ltb-false last_kind c.kind (laying.0.none 11))).1 ∙ sym many

  xs_are : xs_left c l ≡ its.xs
  unfolding xs_after
  xs_are =
      ap (take l.states) (clear_decides (λ (n : ℕ). c.xs) (onto its.xs c.xs) (layout_refusals c.sheet c.limits c.kind (length c.xs) (length c.ys)) laying.0)
      ∙ take_at its.xs (drop (length its.xs) c.xs) l.states xs_many

  ys_are : ys_left c l ≡ its.ys
  unfolding ys_after
  ys_are =
      ap (take l.states) (clear_decides (λ (n : ℕ). c.ys) (onto its.ys c.ys) (layout_refusals c.sheet c.limits c.kind (length c.xs) (length c.ys)) laying.0)
      ∙ take_at its.ys (drop (length its.ys) c.ys) l.states ys_many

  pub centres-many : length (centres (xs_left c l) (ys_left c l)) ≡ l.states
  centres-many = ap₂ (λ (xs ys : List Float). length (centres xs ys)) xs_are ys_are ∙ zip_length vec its.xs its.ys (ys_many ∙ sym xs_many) ∙ xs_many

-- ---- where `list` answers

module _ (c : Lent) (a : ListAnswered c) where
  abbrev plan : Layout
  plan = layout_for c.sheet c.kind

  -- what is drawn at the layout's centres
  abbrev gs : List Geometry
  gs = drawn_of c.sheet plan.xs plan.ys

  abbrev refused : Bool
  refused = layout_beyond c.kind (plan_of (meaning c.sheet))

  abbrev far : Bool
  far = far_centre (length (meaning c.sheet).states) plan.xs plan.ys

  heard : Clear (list_refusals c.sheet c.limits c.kind (length c.out)) × (a.bytes ≡ length (listing c.sheet c.kind))
  unfolding list
  heard = answered-clear (list_refusals c.sheet c.limits c.kind (length c.out)) (length (listing c.sheet c.kind)) a.bytes (sym a.answer)

  -- what is left in the slice lent to `list`, and what was written of it
  out_is : out_left c ≡ onto (listing c.sheet c.kind) c.out
  unfolding list_after
  out_is = clear_decides (λ (n : ℕ). c.out) (onto (listing c.sheet c.kind) c.out) (list_refusals c.sheet c.limits c.kind (length c.out)) heard.0

  pub wrote_is : list_wrote c a ≡ listing c.sheet c.kind
  wrote_is =
      let t : List ℕ = listing c.sheet c.kind in
      ap₂ (λ (n : ℕ) (o : List ℕ). take n o) heard.1 out_is ∙ take_at t (drop (length t) c.out) (length t) refl

  not-refused : refused ≡ false
  not-refused = or_false_left refused (beyond (frame_of (meaning c.sheet) plan.xs plan.ys)) (heard.0.none 9)

  not-far : far ≡ false
  not-far = ap (λ (b : Bool). not b && far) (sym not-refused) ∙ heard.0.none 8

  writable : not (paths_writable gs) ≡ false
  writable =
      ap not
      (list_paths plan.width plan.height (centres plan.xs plan.ys) (flags_of (meaning c.sheet)) gs (totals_of (meaning c.sheet) gs)
      (not-false (listing_writable c.sheet c.kind) (heard.0.none 10)))

  lays : length (meaning c.sheet).states ≤ length c.xs → length (meaning c.sheet).states ≤ length c.ys → LayoutAnswered c
  unfolding layout
  lays h i =
      let k = layout-whole c.kind (meaning c.sheet) (ltb-false last_kind c.kind (heard.0.none 11)) in
      let o : (short (length c.xs) plan.xs || short (length c.ys) plan.ys) ≡ false =
      or_none _ _ (le-ltb (length c.xs) (length plan.xs) (omega (arith, k.0))) (le-ltb (length c.ys) (length plan.ys) (omega (arith, k.1))) in
      record {
        states = length (meaning c.sheet).states;
        width = plan.width;
        height = plan.height;
        answer =
            clear_decides number _ (layout_refusals c.sheet c.limits c.kind (length c.xs) (length c.ys))
            (clear_from _ _ _ (without 9 not-refused (without 7 o clear_none)) heard.0 refl);
      }

  routes-at : (n m : ℕ) → length (numbers_of gs) ≤ n → length (paths_text gs) ≤ m → route c.sheet c.limits plan.xs plan.ys n m ≡ values (length (numbers_of gs), length (paths_text gs))
  unfolding route
  routes-at n m h i =
      let o : (short n (numbers_of gs) || short m (paths_text gs)) ≡ false = or_none _ _ (le-ltb n (length (numbers_of gs)) h) (le-ltb m (length (paths_text gs)) i) in
      let pairs : beyond (frame_of (meaning c.sheet) plan.xs plan.ys) ≡ false = or_false_right refused _ (heard.0.none 9) in
      clear_decides number _ (route_refusals c.sheet c.limits plan.xs plan.ys n m)
      (clear_from _ _ _ (without 8 not-far (without 9 pairs (without 10 writable (without 7 o clear_none)))) heard.0 refl)

  module _ (l : LayoutAnswered c) where
    routes : Enough (route_call c l)
    routes = record {
      numbers = length (numbers_of gs);
      bytes = length (paths_text gs);
      answers = λ n m h i. ap₂ (λ (xs ys : List Float). route c.sheet c.limits xs ys n m) (xs_are c l) (ys_are c l) ∙ routes-at n m h i;
    }

    module _ (r : Answered (route_call c l)) where
      pub listed-records : records_read (route_call c l) r ≡ gs
      listed-records = read_back (route_call c l) r ∙ ap₂ (drawn_of c.sheet) (xs_are c l) (ys_are c l)

      -- whatever is made of the size, the centres, the flags and the records
      module _ {A : Type 0} (f : Float → Float → List «V» → List ℕ → List Geometry → A) where
        pub same-listed : f l.width l.height (centres (xs_left c l) (ys_left c l)) (flags_of (meaning c.sheet)) (records_read (route_call c l) r)
            ≡ f plan.width plan.height (centres plan.xs plan.ys) (flags_of (meaning c.sheet)) gs
        same-listed =
            let flags = flags_of (meaning c.sheet) in
            ap₂ (λ (w h : Float). f w h (centres (xs_left c l) (ys_left c l)) flags (records_read (route_call c l) r)) (ap (λ (t : ℕ × Float × Float). t.1) (laying c l).1) (ap (λ (t : ℕ × Float × Float). t.2) (laying c l).1)
            ∙ ap₂ (λ (xs ys : List Float). f plan.width plan.height (centres xs ys) flags (records_read (route_call c l) r)) (xs_are c l) (ys_are c l)
            ∙ ap (f plan.width plan.height (centres plan.xs plan.ys) flags) listed-records

      same_text : Spec.shown c l r ≡ listing c.sheet c.kind
      same_text = same-listed (λ w h cs flags gs. list_text w h cs flags gs (totals_of (meaning c.sheet) gs))

      pub all-writable : list_writable l.width l.height (centres (xs_left c l) (ys_left c l)) (flags_of (meaning c.sheet)) (records_read (route_call c l) r) (totals_read (route_call c l) r) ≡ true
      all-writable = same-listed (λ w h cs flags gs. list_writable w h cs flags gs (totals_of (meaning c.sheet) gs)) ∙ not-false (listing_writable c.sheet c.kind) (heard.0.none 10)

      text : out_left c ≡ onto (Spec.shown c l r) c.out
      text = out_is ∙ ap (λ (t : List ℕ). onto t c.out) (sym same_text)

      module _ (k : ℕ) (h : 20 * k + 20 ≤ r.numbers) where
        -- past the last record
        abbrev other : Geometry
        other = decode_geometry []

        path : curve_text (get_or (records_read (route_call c l) r) k other).curve ≡ path_at (route_call c l) k
        path =
            ap (λ (l : List Geometry). curve_text (get_or l k other).curve) (read_back (route_call c l) r)
            ∙ sym (path_is (route_call c l) r k other (omega (arith, numbers-many (route_call c l) r)))

        arrow : (get_or (records_read (route_call c l) r) k other).edge ≡ arrow_number (route_call c l) k
        unfolding decode_geometry
        arrow = ap (λ (g : Geometry). g.edge) (record_read (route_call c l) r k other h)

        edge : text_line_at (record_line l.states k) (out_left c) ≡ edge_text (arrow_number (route_call c l) k) (path_at (route_call c l) k)
        edge =
            let t : List ℕ = Spec.shown c l r in
            ap₂ (λ (n : ℕ) (o : List ℕ). text_line_at (record_line n k) o) (sym (centres-many c l)) text
            ∙ edge_at l.width l.height (centres (xs_left c l) (ys_left c l)) (flags_of (meaning c.sheet)) (records_read (route_call c l) r) (totals_read (route_call c l) r) (drop (length t) c.out) (size_line l.width l.height) k other
            (omega (arith, numbers-many (route_call c l) r, ap length (read_back (route_call c l) r)))
            ∙ ap₂ edge_text arrow path

      total : last_line (list_wrote c a) ≡ total_text (totals_read (route_call c l) r)
      total =
          ap last_line (wrote_is ∙ sym same_text)
          ∙ last-at l.width l.height (centres (xs_left c l) (ys_left c l)) (flags_of (meaning c.sheet)) (records_read (route_call c l) r) (totals_read (route_call c l) r) [] (size_line l.width l.height)

      shows : Shows c a l r
      shows = record { bytes = heard.1 ∙ ap length (sym same_text); text = text; edge = edge; total = total }

pub listing_shows : ListingShows
listing_shows = record { lays = lays; routes = routes; shows = shows }
