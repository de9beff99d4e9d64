-- The totals of a listing are counts over its sheet and its records. Assumes nothing.
use Rattle.std.specs.Prelude.{◌≡◌, refl, Bool, true, false, cond, not, ◌&&◌, ◌||◌, ℕ, suc, ◌+◌, ◌/◌, ◌<◌, ltb, eqb, get_or, Float}
use Rattle.std.proofs.Common.{sym, ap₂, ◌∙◌, arith, length-append}
use Rattle.std.proofs.Math.Path.{ap}
use mathlib.Core.List.{List, [], ◌∷◌, map, flat_map}
use Rattle.std.proofs.Math.ListN.{length}
use Rattle.std.proofs.lemmas.List.{length-map}
use Rattle.std.specs.Float.{nan}
use Rattle.std.specs.Float.Ieee.{of_bits}
use Rattle.std.specs.Float.Ieee as Ieee
use Rattle.laws.specs.Best.{total_from}
use Rattle.laws.specs.Cases.{by_bool}
use Rattle.laws.specs.Counting.{how_many, how_many-map, how_many-chosen, how_many-same, how_many-both, how_many-rest}
use Rattle.laws.specs.Filter.{filter_by}
use Rattle.laws.specs.Flat.{table}
use Rattle.laws.specs.Tables.{table_of}
use Rattle.laws.specs.Joined.{map_flat}
use Rattle.float.specs.Ops.{eq}
use Rattle.float.specs.Constants.{f0, f2, f3, f4, whole}
use Rattle.shape.specs.declared.Curve.{Curve}
use Rattle.shape.specs.declared.Curve.TheVariants.{Line, Quad, Cubic}
use Rattle.sheet.specs.Sheet.{Arrow, Graph, meaning, flags_of}
use Rattle.sheet.specs.Meaning.{ends_below, is_kept}
use Rattle.free.specs.declared.Chord.{Chord}
use Rattle.bend.specs.Between.{straight, bowed, with_bow, between}
use Rattle.label_spots.specs.declared.Geometry.{Geometry}
use Rattle.label_spots.specs.Labels.{labelled}
use Rattle.directions.specs.Loop.{loop_curve}
use Rattle.self_loop.specs.Looped.{loop_at}
use Rattle.records.specs.Records.{corners_of, decode_geometry}
use Rattle.routing.specs.Routing.{Frame, BlockSize, Numbered, numbered_from, numbered_by, numbered, numbered_at, is_kept_in, is_loop, joined, route_of, is_arc, arc_shape, Item, loop, label, edge_of, order, no_item, item_for, drawn_by, drawn_for, drawing, records}
use Rattle.routing.specs.Sheets.{ends_of, frame_of, sizes_of, records_of}
use Rattle.routing_laws.specs.Numbers.{flat_numbered}
use Rattle.routing_laws.proofs.Slots.{records-each}
use Rattle.routing_laws.specs.Demand.{size_at, record_for, turn_at, place_at}
use Rattle.routing_laws.proofs.Demand.{record_drawn_lem, kept_turn, record_held}
use Rattle.laws.specs.Places.{At}
use Rattle.totals.specs.declared.Totals.{Totals}
use Rattle.totals.specs.Totals.{point_count, has_points, is_left_out, totals_of}
use Rattle.drawing_text.specs.Lines.{lines_text, total_line}
use Rattle.shape.specs.Centres.{centres}
use Rattle.layout.specs.Layout.{Layout}
use Rattle.calls.specs.Calls.{drawn_of, layout_for}
use Rattle.demand3.specs.Demand.{Call, Answered, record_at}
use Rattle.demand3.specs.Proof.{call_records}
use Rattle.demand3.proofs.Claim.{record_is}
use Rattle.listing_shows.specs.Shown.{Lent, ListAnswered, LayoutAnswered, route_call, records_read, last_line}
use Rattle.listing_shows.specs.Totalled.{point_numbers, records_with, end_missing, ends_same, ends_differ, lines_of_kept, Totalled, ListingTotals}
use Rattle.listing_shows.specs.Found.{last-at, lines_before, total_ends}
use Rattle.listing_shows.specs.Proof.{numbers-many, read_back, wrote_is, listed-records}

-- ---- the points of each record

abbrev record_points : Geometry → ℕ
record_points g = point_count g.curve

-- of a kept arrow: a loop has four, an arc three, a straight arrow two
abbrev points_for : Frame → Numbered → ℕ
points_for f a = cond (is_loop a) 4 (cond (is_arc (route_of f a)) 3 2)

bow_points : (c : Chord) (h : Float) → point_count (with_bow c h).curve ≡ cond (arc_shape (with_bow c h).shape) 3 2
unfolding with_bow straight bowed
bow_points c h = by_bool (eq h f0) (λ t. rw t) (λ t. rw t)

joined_points : (f : Frame) (a : Numbered) → point_count (joined f a).curve ≡ cond (is_arc (route_of f a)) 3 2
unfolding joined between
joined_points f a = bow_points _ _

loop_points : (f : Frame) (a : Numbered) (z : BlockSize) (j : ℕ) → record_points (drawn_by f (loop a) z j) ≡ 4
unfolding loop_at labelled loop_curve
loop_points f a z j = refl

label_points : (f : Frame) (a : Numbered) (z : BlockSize) (j : ℕ) → record_points (drawn_by f (label (route_of f a)) z j) ≡ cond (is_arc (route_of f a)) 3 2
unfolding labelled
label_points f a z j = joined_points f a

module _ (f : Frame) (sizes : List BlockSize) where
  -- at turn t, which is i
  turn_points : (t : ℕ) (i : Item) → t < length (order f) → turn_at f t ≡ i
      → map record_points (record_for f sizes (edge_of i)) ≡ record_points (drawn_by f i (size_at f sizes no_item t) (place_at f sizes t)) ∷ []
  turn_points t i h e =
      ap (λ (i : Item). map record_points (record_for f sizes (edge_of i))) (sym e)
      ∙ ap (map record_points) (record_held f sizes t h)
      ∙ ap (λ (i : Item). record_points (drawn_by f i (size_at f sizes no_item t) (place_at f sizes t)) ∷ []) e

  record_points_lem : (k : ℕ) → k < length f.arrows → map record_points (record_for f sizes k) ≡ cond (is_kept_in f (numbered_at f k)) (points_for f (numbered_at f k) ∷ []) []
  record_points_lem k h =
      let a : Numbered = numbered_at f k in
      by_bool (is_kept_in f a)
      (λ c.
      let at : At (order f) no_item (item_for f a) = kept_turn f k h c in
      by_bool (is_loop a)
      (λ b.
      let e : turn_at f at.place ≡ loop a = at.there ∙ ap (λ (b : Bool). cond b (loop a) (label (route_of f a))) b in
      rw (c, b) (turn_points at.place (loop a) at.inside e ∙ ap (λ (n : ℕ). n ∷ []) (loop_points f a (size_at f sizes no_item at.place) (place_at f sizes at.place))))
      (λ b.
      let e : turn_at f at.place ≡ label (route_of f a) = at.there ∙ ap (λ (b : Bool). cond b (loop a) (label (route_of f a))) b in
      rw (c, b)
      (turn_points at.place (label (route_of f a)) at.inside e ∙ ap (λ (n : ℕ). n ∷ []) (label_points f a (size_at f sizes no_item at.place) (place_at f sizes at.place)))))
      (λ c.
      let none : record_for f sizes k ≡ [] = rw c at (record_drawn_lem f sizes k h) in
      rw c (ap (map record_points) none))

  all_points : map record_points (records f sizes) ≡ flat_map (λ a. cond (is_kept_in f a) (points_for f a ∷ []) []) (numbered f)
  all_points =
      ap (map record_points) (records-each f sizes)
      ∙ map_flat record_points (λ a. cond (is_kept_in f a) (drawn_for (drawing f sizes) a) []) (numbered f)
      ∙ flat_numbered _ _ f (λ k h. ap (map record_points) (sym (record_drawn_lem f sizes k h)) ∙ record_points_lem k h)

  points_many : (n : ℕ) → how_many (has_points n) (records f sizes) ≡ how_many (λ a. is_kept_in f a && eqb (points_for f a) n) (numbered f)
  points_many n =
      sym (how_many-map (λ m. eqb m n) record_points (records f sizes))
      ∙ ap (how_many (λ m. eqb m n)) all_points
      ∙ how_many-chosen (λ m. eqb m n) (is_kept_in f) (points_for f) (numbered f)

-- ---- over the arrows of the sheet

numbered-many : (p : Numbered → Bool) (q : Arrow → Bool) → ((k : ℕ) (a : Arrow) → p (numbered_by k (ends_of a)) ≡ q a)
    → (k : ℕ) (l : List Arrow) → how_many p (numbered_from k (map ends_of l)) ≡ how_many q l
unfolding how_many numbered_from
numbered-many p q h k [] = refl
numbered-many p q h k (a ∷ l) = ap₂ (λ (b : Bool) (n : ℕ). cond b 1 0 + n) (h k a) (numbered-many p q h (suc k) l)

-- by whether an arrow is kept, a loop, an arc
four_points : (k l r : Bool) → (k && eqb (cond l 4 (cond r 3 2)) 4) ≡ (k && l)
four_points false l r = refl
four_points true true r = refl
four_points true false true = refl
four_points true false false = refl

fewer_points : (k l r : Bool) → cond (k && eqb (cond l 4 (cond r 3 2)) 2) 1 0 + cond (k && eqb (cond l 4 (cond r 3 2)) 3) 1 0 ≡ cond (k && not l) 1 0
fewer_points false l r = refl
fewer_points true true r = refl
fewer_points true false true = refl
fewer_points true false false = refl

kept_ends : (k s : Bool) → cond (k && not s) 1 0 + cond (k && s) 1 0 ≡ cond k 1 0
kept_ends false s = refl
kept_ends true true = refl
kept_ends true false = refl

one_missing : (a b : Bool) → not (a && b) ≡ (not a || not b)
one_missing true b = refl
one_missing false b = refl

-- the lines of the arrows, from n on
lines_from : (g : Graph) (n : ℕ) (l : List Arrow) → total_from n (map (lines_of_kept g) l) ≡ n + length (flat_map (λ (a : Arrow). a.lines) (filter_by (is_kept g) l))
unfolding total_from filter_by flat_map
lines_from g n [] = omega arith
lines_from g n (a ∷ l) =
    let more : List (List ℕ) = flat_map (λ (a : Arrow). a.lines) (filter_by (is_kept g) l) in
    let e : end_missing g a ≡ not (is_kept g a) = sym (one_missing (ltb a.source (length g.states)) (ltb a.target (length g.states))) in
    lines_from g (n + lines_of_kept g a) l
    ∙ by_bool (is_kept g a)
    (λ t. rw (e, t) (omega (arith, length-append a.lines more)))
    (λ t. rw (e, t) (omega arith))

module _ (g : Graph) (xs ys : List Float) where
  abbrev gs : List Geometry
  gs = records_of g xs ys

  kept_is : (k : ℕ) (a : Arrow) → is_kept_in (frame_of g xs ys) (numbered_by k (ends_of a)) ≡ is_kept g a
  unfolding frame_of
  kept_is k a = ap (λ (n : ℕ). ends_below n a.source a.target) (length-map g.states (λ s. s.flags))

  arrows-many : (p : Numbered → Bool) (q : Arrow → Bool) → ((k : ℕ) (a : Arrow) → p (numbered_by k (ends_of a)) ≡ q a) → how_many p (numbered (frame_of g xs ys)) ≡ how_many q g.arrows
  unfolding frame_of
  arrows-many p q h = numbered-many p q h 0 g.arrows

  loops_are : how_many (has_points 4) gs ≡ how_many (ends_same g) g.arrows
  loops_are =
      let f : Frame = frame_of g xs ys in
      points_many f (sizes_of g) 4
      ∙ arrows-many _ (ends_same g)
      (λ k a.
      let n : Numbered = numbered_by k (ends_of a) in
      four_points (is_kept_in f n) (is_loop n) (is_arc (route_of f n)) ∙ ap (λ (b : Bool). b && eqb a.source a.target) (kept_is k a))

  others_are : how_many (has_points 2) gs + how_many (has_points 3) gs ≡ how_many (ends_differ g) g.arrows
  others_are =
      let f : Frame = frame_of g xs ys in
      ap₂ (λ (m n : ℕ). m + n) (points_many f (sizes_of g) 2) (points_many f (sizes_of g) 3)
      ∙ how_many-both _ _ (λ n. is_kept_in f n && not (is_loop n)) (numbered f) (λ n. fewer_points (is_kept_in f n) (is_loop n) (is_arc (route_of f n)))
      ∙ arrows-many _ (ends_differ g) (λ k a. ap (λ (b : Bool). b && not (eqb a.source a.target)) (kept_is k a))

  missing_are : how_many (is_left_out g) g.arrows ≡ how_many (end_missing g) g.arrows
  missing_are = how_many-same (is_left_out g) (end_missing g) g.arrows (λ a. one_missing (ltb a.source (length g.states)) (ltb a.target (length g.states)))

  kept_are : how_many (ends_differ g) g.arrows + how_many (ends_same g) g.arrows ≡ how_many (is_kept g) g.arrows
  kept_are = how_many-both (ends_differ g) (ends_same g) (is_kept g) g.arrows (λ a. kept_ends (is_kept g a) (eqb a.source a.target))

  all_are : how_many (has_points 2) gs + how_many (has_points 3) gs + how_many (has_points 4) gs + how_many (is_left_out g) g.arrows ≡ length g.arrows
  all_are = omega (arith, others_are, loops_are, kept_are, how_many-rest (is_kept g) g.arrows)

-- ---- over the records as they are left

-- the written numbers of points are n where the numbers are
abbrev Tells : ℕ → Type 0
Tells n = (eq f2 (whole n) ≡ eqb 2 n) × (eq f3 (whole n) ≡ eqb 3 n) × (eq f4 (whole n) ≡ eqb 4 n)

tells : Tells 2 × Tells 3 × Tells 4
unfolding of_bits Ieee.of_fields Ieee.eq Ieee.round Ieee.size Ieee.span Ieee.climb Ieee.units Ieee.odd
tells = ((refl, refl, refl), (refl, refl, refl), (refl, refl, refl))

point-number : (n : ℕ) → Tells n → (c : Curve) → eq (corners_of c).n (whole n) ≡ eqb (point_count c) n
point-number n t (Line p q) = t.0
point-number n t (Quad p c q) = t.1
point-number n t (Cubic p c d q) = t.2

module _ (r : Call) (a : Answered r) where
  numbers_are : point_numbers r a ≡ map (λ (g : Geometry). (corners_of g.curve).n) (call_records r)
  numbers_are =
      let d : Geometry = decode_geometry [] in
      let m : a.numbers / 20 ≡ length (call_records r) = omega (arith, numbers-many r a) in
      ap (table (λ k. get_or (record_at r k) 1 nan) 0) m
      ∙ table_of _ (λ (g : Geometry). (corners_of g.curve).n) (call_records r) d (λ k h. ap (λ (l : List Float). get_or l 1 nan) (record_is r a k d h))

  records_with_lem : (n : ℕ) → Tells n → how_many (has_points n) (records_read r a) ≡ records_with r a n
  records_with_lem n t =
      ap (how_many (has_points n)) (read_back r a)
      ∙ how_many-same (has_points n) (λ g. eq (corners_of g.curve).n (whole n)) (call_records r) (λ g. sym (point-number n t g.curve))
      ∙ sym (how_many-map (λ v. eq v (whole n)) (λ (g : Geometry). (corners_of g.curve).n) (call_records r))
      ∙ ap (how_many (λ v. eq v (whole n))) (sym numbers_are)

-- every curve has two, three or four
all_counted : (gs : List Geometry) → how_many (has_points 2) gs + how_many (has_points 3) gs + how_many (has_points 4) gs ≡ length gs
unfolding how_many
all_counted [] = refl
all_counted (g ∷ gs) = go g.curve (all_counted gs)
  where
    go : (c : Curve) → how_many (has_points 2) gs + how_many (has_points 3) gs + how_many (has_points 4) gs ≡ length gs
        → (cond (eqb (point_count c) 2) 1 0 + how_many (has_points 2) gs) + (cond (eqb (point_count c) 3) 1 0 + how_many (has_points 3) gs) + (cond (eqb (point_count c) 4) 1 0 + how_many (has_points 4) gs) ≡ suc (length gs)
    go (Line p q) e = omega arith
    go (Quad p c q) e = omega arith
    go (Cubic p c d q) e = omega arith

-- ---- the claim

module _ (c : Lent) (a : ListAnswered c) where
  abbrev graph : Graph
  graph = meaning c.sheet

  abbrev plan : Layout
  plan = layout_for c.sheet c.kind

  -- what is listed
  abbrev listed : List Geometry
  listed = drawn_of c.sheet plan.xs plan.ys

  abbrev counts : Totals
  counts = totals_of graph listed

  -- with these points, as `route` leaves them
  left_with : (n : ℕ) → Tells n → (l : LayoutAnswered c) (r : Answered (route_call c l)) → how_many (has_points n) listed ≡ records_with (route_call c l) r n
  left_with n t l r = ap (how_many (has_points n)) (sym (listed-records c a l r)) ∙ records_with_lem (route_call c l) r n t

  totalled : Totalled c a
  unfolding totals_of
  totalled =
      let cs = centres plan.xs plan.ys in
      let flags = flags_of graph in
      record {
        totals = counts;
        before = lines_text (lines_before plan.width plan.height cs flags listed);
        ends = wrote_is c a ∙ total_ends plan.width plan.height cs flags listed counts;
        line = ap last_line (wrote_is c a) ∙ last-at plan.width plan.height cs flags listed counts [] (total_line counts);
        left_out = missing_are graph plan.xs plan.ys;
        lines = omega (arith, lines_from graph 0 graph.arrows);
        same_ends = loops_are graph plan.xs plan.ys;
        other_ends = others_are graph plan.xs plan.ys;
        all = all_are graph plan.xs plan.ys;
        straight = left_with 2 tells.0;
        arcs = left_with 3 tells.1;
        loops = left_with 4 tells.2;
        every_record = λ l r. omega (arith, all_counted listed, ap length (listed-records c a l r), ap length (read_back (route_call c l) r), numbers-many (route_call c l) r);
      }

pub listing-totals : ListingTotals
listing-totals = totalled
