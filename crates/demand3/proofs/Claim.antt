-- Demand 3 holds. Assumes nothing.
use Rattle.std.specs.Prelude.{◌≡◌, refl, true, ℕ, ◌*◌, ◌≤◌, ◌<◌, get_or, take, drop, Float}
use Rattle.std.proofs.Common.{sym, ap₂, ◌∙◌, subst, arith}
use Rattle.std.proofs.Math.Path.{ap}
use mathlib.Core.List.{List, [], ◌∷◌, map}
use Rattle.std.proofs.Math.ListN.{length, length-map, get_or-map}
use Rattle.std.specs.Float.{nan}
use Rattle.laws.specs.Best.{FirstLeast}
use Rattle.laws.proofs.Best.{first_least_unique}
use Rattle.laws.specs.Refusals.{Refusal, Clear, clear_decides}
use Rattle.laws.specs.Flat.{part}
use Rattle.laws.specs.Flats.{length_flat, part_flat}
use Rattle.sheet.specs.Meaning.{arrow_at}
use Rattle.float.specs.Ops.{of_nat}
use Rattle.shape.specs.declared.«V».{«V»}
use Rattle.shape.specs.declared.Curve.{Curve}
use Rattle.svg.specs.Paths.{curve_text}
use Rattle.label_spots.specs.declared.Geometry.{Geometry}
use Rattle.records.specs.Records.{fields, corners_of}
use Rattle.drawing_text.specs.Lines.{paths_text}
use Rattle.routing.specs.Routing.{Frame, Step, is_kept_in, kept, order, step_of, listed_by, cost, numbered_at, no_item}
use Rattle.routing_laws.proofs.Slots.{own_turn, drawn_edge, records-length}
use Rattle.routing_laws.specs.Demand.{edge_at, record_for, Stroke, stroke_of}
use Rattle.routing_laws.proofs.Demand.{records_cheapest, turn_number_lem, turn_kept}
use Rattle.routing_laws.specs.Demand as Routing
use Rattle.routing_laws.proofs.Demand as RoutingLaws
use Rattle.routing.specs.Sheets.{frame_of, ends_of}
use Rattle.routing_laws.specs.Agree.{lines_at}
use Rattle.routing_laws.specs.Agree.{graph_record}
use Rattle.routing_laws.proofs.Agree.{same-frame, arrow-kept}
use Rattle.routing_laws.specs.Agree as Agree
use Rattle.routing_laws.proofs.Agree as AgreeLaws
use Rattle.calls.specs.Calls.{route, records_after, text_after, route_refusals, numbers_of, onto}
use Rattle.calls.specs.Decided.{answered-clear}
use Rattle.demand3.specs.Demand.{Call, Answered, record_at, path_at, text_line_at, curve_at, tip_at, graph, frame, sizes, turns, step_at, turn_arrow, scene, cost_at, taken_at, listed_at, record_number, record_number_of, turn_number, drawn_at, Held, Cheapest, Same, Agree, Alike, Prefix, Between, Curves, Demand3}
use Rattle.demand3.specs.Newlines.{line-path}
use Rattle.demand3.specs.Places.{number-inside, record_inside, record_only, number_turn}
use Rattle.demand3.specs.Proof.{call_records, past_records}

module _ (c : Call) (a : Answered c) where
  abbrev pub rs : List Refusal
  rs = route_refusals c.sheet c.limits c.xs c.ys (length c.records) (length c.text)

  -- no cause holds, and the answer is what was written
  pub stands : Clear rs × (◌≡◌ {A = ℕ × ℕ} (a.numbers, a.bytes) (length (numbers_of (call_records c)), length (paths_text (call_records c))))
  unfolding route
  stands = answered-clear rs (length (numbers_of (call_records c)), length (paths_text (call_records c))) (a.numbers, a.bytes) (sym a.answer)

  numbers_are : a.numbers ≡ 20 * length (kept (frame c))
  numbers_are =
      ap (λ (p : ℕ × ℕ). p.0) stands.1 ∙ length_flat fields 20 (λ g. refl) (call_records c)
      ∙ ap (λ (n : ℕ). 20 * n) (records-length (frame c) (sizes c))

  -- the numbers and the path of record k
  pub record_is : (k : ℕ) (d : Geometry) → k < length (call_records c) → record_at c k ≡ fields (get_or (call_records c) k d)
  unfolding records_after
  record_is k d h =
      ap (part 20 k) (clear_decides (λ (n : ℕ). c.records) (onto (numbers_of (call_records c)) c.records) rs stands.0)
      ∙ part_flat fields 20 (λ g. refl) (call_records c) (drop (length (numbers_of (call_records c))) c.records) k d h

  pub path_is : (k : ℕ) (d : Geometry) → k < length (call_records c) → path_at c k ≡ curve_text (get_or (call_records c) k d).curve
  unfolding text_after
  path_is k d h =
      ap (text_line_at k) (clear_decides (λ (n : ℕ). c.text) (onto (paths_text (call_records c)) c.text) rs stands.0)
      ∙ line-path (call_records c) (drop (length (paths_text (call_records c))) c.text) k d h

  -- those of a kept arrow
  module _ (e : ℕ) (h : e < length (frame c).arrows) (k : is_kept_in (frame c) (numbered_at (frame c) e) ≡ true) where
    abbrev pub record_drawn : Geometry
    record_drawn = get_or (call_records c) (record_number_of c e) (past_records c)

    pub arrow_record_lem : record_at c (record_number_of c e) ≡ fields record_drawn
    arrow_record_lem = record_is (record_number_of c e) (past_records c) (record_inside (frame c) (sizes c) e h k)

    arrow-path : path_at c (record_number_of c e) ≡ curve_text record_drawn.curve
    arrow-path = path_is (record_number_of c e) (past_records c) (record_inside (frame c) (sizes c) e h k)

    pub arrow_only : record_for (frame c) (sizes c) e ≡ record_drawn ∷ []
    arrow_only = record_only (frame c) (sizes c) e h k (past_records c)

  -- ---- (1)

  module _ (t : ℕ) (h : t < length (turns c)) where
    within : turn_arrow c t < length (frame c).arrows
    within = turn_number_lem (frame c) t h

    stays : is_kept_in (frame c) (numbered_at (frame c) (turn_arrow c t)) ≡ true
    stays = turn_kept (frame c) t h

    taken_least : FirstLeast (cost_at c t) (listed_at c t) (taken_at c t)
    taken_least =
        subst (λ (s : Step). FirstLeast (cost (frame c) (scene c t) s) (listed_by (frame c) s.item) (taken_at c t))
        (get_or-map (step_of (sizes c)) (turns c) t no_item)
        (RoutingLaws.cheapest (frame c) (sizes c) (step_of (sizes c) no_item) t (omega (arith, length-map (turns c) (step_of (sizes c)))))

    held : Held c a t
    held =
        let r : Routing.TurnCheapest (frame c) (sizes c) t = records_cheapest (frame c) (sizes c) t h in
        let e : ℕ = turn_arrow c t in
        let g : record_drawn e within stays ≡ drawn_at c t r.place = ap (λ (l : List Geometry). get_or l 0 (past_records c)) (sym (arrow_only e within stays) ∙ r.held) in
        let n : record_at c (turn_number c t) ≡ fields (drawn_at c t r.place) = arrow_record_lem e within stays ∙ ap fields g in
        record {
          inside = omega (arith, number-inside (frame c) e within stays, numbers_are);
          place = r.place;
          least = r.least;
          taken = first_least_unique (cost_at c t) (listed_at c t) r.place (taken_at c t) r.least taken_least;
          numbers = n;
          path = arrow-path e within stays ∙ ap (λ (x : Geometry). curve_text x.curve) g;
          arrow = ap (λ (l : List Float). get_or l 0 nan) n ∙ ap of_nat (drawn_edge (frame c) (step_at c t).item (step_at c t).size r.place);
        }

  arrows-many : length (frame c).arrows ≡ length (graph c).arrows
  unfolding frame_of
  arrows-many = length-map (graph c).arrows ends_of

  cheapest : Cheapest c a
  cheapest = record {
    one = λ e h. own_turn (frame c) e (omega (arith, arrows-many));
    many = numbers_are;
    each = λ k h. number_turn (frame c) k h;
    held = held;
  }

-- ---- two calls

-- the number of points and the eight coordinates
abbrev corners : Curve → List Float
corners k = let p = corners_of k in p.n ∷ p.a.x ∷ p.a.y ∷ p.b.x ∷ p.b.y ∷ p.c.x ∷ p.c.y ∷ p.d.x ∷ p.d.y ∷ []

module _ (c d : Call) (s : Same c d) where
  -- d's sheet at c's centres
  abbrev there : Frame
  there = frame_of (graph d) c.xs c.ys

  frame-there : frame c ≡ there
  frame-there = same-frame (graph c) (graph d) c.xs c.ys s.ends

  pub call_frames : frame c ≡ frame d
  unfolding frame_of
  call_frames =
      ap (λ (f : Frame). record { flags = f.flags; centres = (frame c).centres; arrows = f.arrows }) frame-there
      ∙ ap (λ (l : List «V»). record { flags = there.flags; centres = l; arrows = there.arrows }) s.centres

module _ (c d : Call) (a : Answered c) (b : Answered d) (s : Same c d) where
  others : there c d s ≡ frame d
  others = sym (frame-there c d s) ∙ call_frames c d s

  -- what holds of d's sheet at c's centres
  over-sheets : Agree.GraphDemand (graph c) c.xs c.ys
  over-sheets = AgreeLaws.graph_demand (graph c) c.xs c.ys

  records_d : (e : ℕ) → graph_record (graph d) c.xs c.ys e ≡ record_for (frame d) (sizes d) e
  records_d e = ap (λ (f : Frame). record_for f (sizes d) e) others

  -- ---- (2)

  module _ (t : ℕ) (h : t < length (turns c)) (l : (j : ℕ) → j ≤ t → Agree c d j) where
    in_turns : t < length (turns d)
    in_turns = subst (λ (f : Frame). t < length (order f)) (call_frames c d s) h

    -- what is drawn at that turn
    abbrev drawn_c : Geometry
    drawn_c = record_drawn c a (turn_arrow c t) (within c a t h) (stays c a t h)

    abbrev drawn_d : Geometry
    drawn_d = record_drawn d b (turn_arrow d t) (within d b t in_turns) (stays d b t in_turns)

    drawn-alike : drawn_c ≡ drawn_d
    drawn-alike =
        let e : ℕ = turn_arrow c t in
        let e' : ℕ = turn_arrow d t in
        let back : (j : ℕ) → lines_at (graph d) d.xs d.ys no_item j ≡ lines_at (graph d) c.xs c.ys no_item j =
        λ j. sym (ap (λ (f : Frame). (arrow_at (graph d) (edge_at f j)).lines) others) in
        let both : record_for (frame c) (sizes c) e ≡ record_for (frame d) (sizes d) e =
        over-sheets.prefix (graph d) s.ends t h (λ j k. l j k ∙ back j) ∙ records_d e in
        ap (λ (m : List Geometry). get_or m 0 (past_records c))
        (sym (arrow_only c a e (within c a t h) (stays c a t h))
        ∙ both
        ∙ ap (λ (f : Frame). record_for (frame d) (sizes d) (edge_at f t)) (call_frames c d s)
        ∙ arrow_only d b e' (within d b t in_turns) (stays d b t in_turns))

    numbers-alike : record_at c (turn_number c t) ≡ record_at d (turn_number d t)
    numbers-alike =
        arrow_record_lem c a (turn_arrow c t) (within c a t h) (stays c a t h)
        ∙ ap fields drawn-alike
        ∙ sym (arrow_record_lem d b (turn_arrow d t) (within d b t in_turns) (stays d b t in_turns))

    path-alike : path_at c (turn_number c t) ≡ path_at d (turn_number d t)
    path-alike =
        arrow-path c a (turn_arrow c t) (within c a t h) (stays c a t h)
        ∙ ap (λ (g : Geometry). curve_text g.curve) drawn-alike
        ∙ sym (arrow-path d b (turn_arrow d t) (within d b t in_turns) (stays d b t in_turns))

    alike : Alike c d t
    alike = record { numbers = numbers-alike; curve = ap₂ (λ (x : List Float) (y : List ℕ). (take 9 (drop 1 x), y)) numbers-alike path-alike }

  prefix : Prefix c d
  prefix = record { order = ap order (call_frames c d s); numbers = λ e. ap (λ (f : Frame). record_number f e) (call_frames c d s); alike = alike }

  -- ---- (3)

  module _ (e : ℕ) (w : Between (graph c) e) where
    in_c : e < length (frame c).arrows
    in_c = omega (arith, arrows-many c a, w.inside)

    in_d : e < length (frame d).arrows
    in_d = subst (λ (f : Frame). e < length f.arrows) (call_frames c d s) in_c

    kept_c : is_kept_in (frame c) (numbered_at (frame c) e) ≡ true
    kept_c = arrow-kept (graph c) c.xs c.ys e w.source w.target

    kept_d : is_kept_in (frame d) (numbered_at (frame d) e) ≡ true
    kept_d = subst (λ (f : Frame). is_kept_in f (numbered_at f e) ≡ true) (call_frames c d s) kept_c

    strokes : stroke_of (record_drawn c a e in_c kept_c) ≡ stroke_of (record_drawn d b e in_d kept_d)
    strokes =
        ap (λ (l : List Stroke). get_or l 0 (stroke_of (past_records c)))
        (sym (ap (map stroke_of) (arrow_only c a e in_c kept_c))
        ∙ over-sheets.curves (graph d) s.ends e w.inside w.apart
        ∙ ap (map stroke_of) (records_d e ∙ arrow_only d b e in_d kept_d))

    curve : curve_at c (record_number_of c e) ≡ curve_at d (record_number_of d e)
    curve =
        ap₂ (λ (x : List Float) (y : List ℕ). (take 9 (drop 1 x), y)) (arrow_record_lem c a e in_c kept_c) (arrow-path c a e in_c kept_c)
        ∙ ap (λ (k : Stroke). (corners k.curve, curve_text k.curve)) strokes
        ∙ sym (ap₂ (λ (x : List Float) (y : List ℕ). (take 9 (drop 1 x), y)) (arrow_record_lem d b e in_d kept_d) (arrow-path d b e in_d kept_d))

    tip : tip_at c (record_number_of c e) ≡ tip_at d (record_number_of d e)
    tip =
        ap (λ (x : List Float). take 3 (drop 10 x)) (arrow_record_lem c a e in_c kept_c)
        ∙ ap (λ (k : Stroke). k.tip.x ∷ k.tip.y ∷ k.angle ∷ []) strokes
        ∙ sym (ap (λ (x : List Float). take 3 (drop 10 x)) (arrow_record_lem d b e in_d kept_d))

  curves : Curves c d
  curves = record { curve = curve; tip = tip }

-- for all sheets, all limits, all centres and all lent slices, two sheets each under limits of their own
pub demand3 : Demand3
demand3 = record { cheapest = cheapest; prefix = prefix; curves = curves }
