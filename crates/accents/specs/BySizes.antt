-- Labels enter a drawing by their sizes alone: sheets whose labels have the same sizes are answered alike. Assumes nothing.
use Rattle.std.specs.Prelude.{◌≡◌, refl, not, ◌&&◌, ◌||◌, ℕ, zero, suc, ◌+◌, ◌*◌, ◌≤◌, ◌<◌, ltb, get_or, Float}
use Rattle.std.proofs.Common.{sym, ap₂, ◌∙◌, arith}
use Rattle.std.proofs.Math.Path.{ap}
use Rattle.std.proofs.Math.Bool.{cond}
use mathlib.Core.List.{List, [], ◌∷◌, ◌++◌, map}
use Rattle.std.proofs.Math.ListN.{length}
use Rattle.std.specs.Float.Ieee.{of_bits, to_unsigned}
use Rattle.std.specs.Float.Ieee as Ieee
use Rattle.laws.specs.Counting.{how_many}
use Rattle.laws.specs.Lists.{map_at, map-alike}
use Rattle.laws.specs.Loops.{over, over-map}
use Rattle.laws.specs.Refusals.{Refusal, refusal, decide, clear-joined}
use Rattle.sheet.specs.Sheet.{Arrow, Graph, meaning, flags_of}
use Rattle.sheet.specs.Meaning.{ends_below, no_arrow, arrow_at}
use Rattle.sheet.specs.Refusals.{refusals}
use Rattle.sheet.specs.Accepted.{OnMainScreen}
use Rattle.sheet.specs.declared.Limits.{Limits}
use Rattle.label.specs.Label.{block_height}
use Rattle.label_spots.specs.declared.Geometry.{Geometry}
use Rattle.svg.specs.Paths.{curve_text}
use Rattle.records.specs.Records.{fields}
use Rattle.shape.specs.Centres.{centres}
use Rattle.totals.specs.declared.Totals.{Totals}
use Rattle.totals.specs.declared.ArrowCounts.{ArrowCounts}
use Rattle.totals.specs.Totals.{has_points, is_left_out, counted_lines, totals_of}
use Rattle.totals.specs.Arrows.{arrow_counts, none_counted, left_out_add, lines_add, arrows_counted}
use Rattle.drawing_text.specs.Lines.{paths_text, paths_writable, list_text, list_writable}
use Rattle.clutter.specs.Clutter.{clutter_of}
use Rattle.routing.specs.Routing.{Ends, Frame, BlockSize, no_size, kept}
use Rattle.routing.specs.Routing as Routing
use Rattle.routing.specs.Sheets.{ends_of, ends_by, frame_of, size_of, SameFrame}
use Rattle.routing_laws.proofs.Agree.{same-frame}
use Rattle.routing_laws.proofs.Slots.{records-length}
use Rattle.draw.specs.Drawn.{far_centre, draw_refusals}
use Rattle.beyond.specs.Beyond.{beyond}
use Rattle.layout.specs.Layout.{Plan, Layout, plan_of, last_kind, layout_of}
use Rattle.layout.specs.Alike.{same-plan, same_layout}
use Rattle.plan.specs.Measured.{layout_beyond}
use Rattle.calls.specs.Calls.{values, number, capped_limits, onto, short, check, drawn_of, numbers_of, route_refusals, route, records_after, text_after, clutter, layout_for, layout_refusals, layout, xs_after, ys_after, listing, list_refusals, list, list_after}
use Rattle.calls.specs.Laws.{accepted_shown}
use Rattle.calls.specs.Refused.{check-answered}
use Rattle.demand3.specs.Demand.{Call, Answered, record_at, path_at, graph, frame, sizes, drawn_at}
use Rattle.demand3.specs.Proof.{call_records}
use Rattle.demand3.proofs.Claim.{stands, record_is, path_is, call_frames}
use Rattle.accents.specs.Sheets.{SameSizes, AnsweredAlike, RecordsAlike}

-- ---- the totals of a listing: by the ends of the arrows and the numbers of their lines

abbrev ends_and_lines : Arrow → Ends × ℕ
ends_and_lines a = (ends_of a, length a.lines)

-- what an arrow with these adds in a drawing of n states
abbrev with_ends : ℕ → ArrowCounts → Ends × ℕ → ArrowCounts
with_ends n t x =
    let kept = ends_below n x.0.source x.0.target in
    arrow_counts (t.left_out + cond kept 0 1) (t.lines + cond kept x.1 0)

counted_by : (g : Graph) → over (with_ends (length g.states)) none_counted (map ends_and_lines g.arrows) ≡ arrow_counts (how_many (is_left_out g) g.arrows) (length (counted_lines g))
unfolding left_out_add lines_add
counted_by g = over-map (with_ends (length g.states)) ends_and_lines none_counted g.arrows ∙ arrows_counted g

totals-alike : (g h : Graph) → SameFrame g h → ((k : ℕ) → k < length g.arrows → length (arrow_at g k).lines ≡ length (arrow_at h k).lines) → (gs : List Geometry) → totals_of g gs ≡ totals_of h gs
unfolding totals_of
totals-alike g h e many gs =
    let q : map ends_and_lines g.arrows ≡ map ends_and_lines h.arrows =
    map-alike ends_and_lines ends_and_lines g.arrows h.arrows no_arrow no_arrow e.many
    (λ k l. ap₂ (λ (x : Ends) (y : ℕ). (x, y)) (ap₂ ends_by (e.sources k l) (e.targets k l)) (many k l)) in
    ap (λ (t : ArrowCounts). record { straight = how_many (has_points 2) gs; arcs = how_many (has_points 3) gs; loops = how_many (has_points 4) gs; left_out = t.left_out; lines = t.lines })
    (sym (counted_by g)
    ∙ ap₂ (λ (n : ℕ) (l : List (Ends × ℕ)). over (with_ends n) none_counted l) e.states q
    ∙ counted_by h)

-- ---- as many lines where blocks of at most 8 are as high

height_is : (n : ℕ) → n ≤ 8 → to_unsigned 64 (block_height n) ≡ 15 * n
unfolding Ieee.of_int Ieee.mul Ieee.round of_bits to_unsigned
height_is zero h = refl
height_is (suc zero) h = refl
height_is (suc (suc zero)) h = refl
height_is (suc (suc (suc zero))) h = refl
height_is (suc (suc (suc (suc zero)))) h = refl
height_is (suc (suc (suc (suc (suc zero))))) h = refl
height_is (suc (suc (suc (suc (suc (suc zero)))))) h = refl
height_is (suc (suc (suc (suc (suc (suc (suc zero))))))) h = refl
height_is (suc (suc (suc (suc (suc (suc (suc (suc zero)))))))) h = refl
height_is (suc (suc (suc (suc (suc (suc (suc (suc (suc n))))))))) h = absurd (omega arith)

same-many : (n m : ℕ) → n ≤ 8 → m ≤ 8 → block_height n ≡ block_height m → n ≡ m
same-many n m h i e = let d : 15 * n ≡ 15 * m = sym (height_is n h) ∙ ap (to_unsigned 64) e ∙ height_is m i in omega arith

-- ---- what a call decides once the sheet is accepted: from the number of states, the frame and the sizes, or from the plan

-- 8 and 9, of a count
abbrev clutter_left : ℕ → Frame → List Float → List Float → List Refusal
clutter_left n f xs ys = refusal 8 (far_centre n xs ys) ∷ refusal 9 (beyond f) ∷ []

-- 8, 9, 10 and 7, of a routing
abbrev route_left : ℕ → Frame → List Geometry → List Float → List Float → ℕ → ℕ → List Refusal
route_left n f gs xs ys room textRoom =
    refusal 8 (far_centre n xs ys)
    ∷ refusal 9 (beyond f)
    ∷ refusal 10 (not (paths_writable gs))
    ∷ refusal 7 (short room (numbers_of gs) || short textRoom (paths_text gs))
    ∷ []

-- 9 and 7, of a layout
abbrev layout_left : ℕ → Plan → ℕ → ℕ → List Refusal
layout_left kind p xRoom yRoom =
    let l = layout_of kind p in
    refusal 9 (layout_beyond kind p) ∷ refusal 7 (short xRoom l.xs || short yRoom l.ys) ∷ []

-- 8, 9, 10 and 7, of a listing, and its text
abbrev listing_left : Layout → List ℕ → List Geometry → Totals → List ℕ
listing_left l flags gs totals = list_text l.width l.height (centres l.xs l.ys) flags gs totals

abbrev list_left : ℕ → ℕ → Plan → Frame → List ℕ → List Geometry → Totals → ℕ → List Refusal
list_left n kind p f flags gs totals room =
    let l = layout_of kind p in
    refusal 8 (not (layout_beyond kind p) && far_centre n l.xs l.ys)
    ∷ refusal 9 (layout_beyond kind p || beyond f)
    ∷ refusal 10 (not (list_writable l.width l.height (centres l.xs l.ys) flags gs totals))
    ∷ refusal 7 (short room (listing_left l flags gs totals))
    ∷ []

-- what follows 1 to 6 decides alike, the one sheet under the limits l and the other under m
abbrev pub DecidesAlike : List ℕ → Limits → List ℕ → Limits → Type 1
DecidesAlike s l t m =
    (A : Type 0) (refuse : ℕ → A) (u v : A) (rs qs : List Refusal) → decide rs refuse u ≡ decide qs refuse v
    → decide (refusals (capped_limits l) s ++ rs) refuse u ≡ decide (refusals (capped_limits m) t ++ qs) refuse v

-- as many lines at each arrow
abbrev pub LinesMany : Graph → Graph → Type 0
LinesMany g h = (k : ℕ) → k < length g.arrows → length (arrow_at g k).lines ≡ length (arrow_at h k).lines

module _ (s t : List ℕ) (l m : Limits) (past : DecidesAlike s l t m) (lines-many : LinesMany (meaning s) (meaning t)) (o : SameSizes (meaning s) (meaning t)) where
  same-states : length (meaning s).states ≡ length (meaning t).states
  same-states = o.ends.states

  same_flags : flags_of (meaning s) ≡ flags_of (meaning t)
  unfolding frame_of
  same_flags = ap (λ (f : Frame). f.flags) (same-frame (meaning s) (meaning t) [] [] o.ends)

  -- at given centres
  module _ (xs ys : List Float) where
    frame_same : frame_of (meaning s) xs ys ≡ frame_of (meaning t) xs ys
    frame_same = same-frame (meaning s) (meaning t) xs ys o.ends

    drawn-same : drawn_of s xs ys ≡ drawn_of t xs ys
    drawn-same = ap₂ Routing.records frame_same o.sizes

    route_decides : {A : Type 0} (refuse : ℕ → A) (room textRoom : ℕ) (answer : List Geometry → A)
        → decide (route_refusals s l xs ys room textRoom) refuse (answer (drawn_of s xs ys)) ≡ decide (route_refusals t m xs ys room textRoom) refuse (answer (drawn_of t xs ys))
    route_decides refuse room textRoom answer =
        past _ refuse (answer (drawn_of s xs ys)) (answer (drawn_of t xs ys))
        (route_left (length (meaning s).states) (frame_of (meaning s) xs ys) (drawn_of s xs ys) xs ys room textRoom)
        (route_left (length (meaning t).states) (frame_of (meaning t) xs ys) (drawn_of t xs ys) xs ys room textRoom)
        (same same-states frame_same drawn-same)
      where
        same : {n k : ℕ} {f g : Frame} {gs hs : List Geometry} → n ≡ k → f ≡ g → gs ≡ hs
            → decide (route_left n f gs xs ys room textRoom) refuse (answer gs) ≡ decide (route_left k g hs xs ys room textRoom) refuse (answer hs)
        same p q r = rw (p, q, r)

    clutter_decides : {A : Type 0} (refuse : ℕ → A) (answer : Frame → List Geometry → A)
        → decide (draw_refusals (capped_limits l) s xs ys) refuse (answer (frame_of (meaning s) xs ys) (drawn_of s xs ys)) ≡ decide (draw_refusals (capped_limits m) t xs ys) refuse (answer (frame_of (meaning t) xs ys) (drawn_of t xs ys))
    clutter_decides refuse answer =
        past _ refuse (answer (frame_of (meaning s) xs ys) (drawn_of s xs ys)) (answer (frame_of (meaning t) xs ys) (drawn_of t xs ys))
        (clutter_left (length (meaning s).states) (frame_of (meaning s) xs ys) xs ys)
        (clutter_left (length (meaning t).states) (frame_of (meaning t) xs ys) xs ys)
        (same same-states frame_same drawn-same)
      where
        same : {n k : ℕ} {f g : Frame} {gs hs : List Geometry} → n ≡ k → f ≡ g → gs ≡ hs
            → decide (clutter_left n f xs ys) refuse (answer f gs) ≡ decide (clutter_left k g xs ys) refuse (answer g hs)
        same p q r = rw (p, q, r)

  -- by a kind
  module _ (kind : ℕ) where
    plan-same : plan_of (meaning s) ≡ plan_of (meaning t)
    plan-same = same-plan (meaning s) (meaning t) o.ends o.sizes

    layout_decides : {A : Type 0} (refuse : ℕ → A) (xRoom yRoom : ℕ) (answer : ℕ → Layout → A)
        → decide (layout_refusals s l kind xRoom yRoom) refuse (answer (length (meaning s).states) (layout_for s kind)) ≡ decide (layout_refusals t m kind xRoom yRoom) refuse (answer (length (meaning t).states) (layout_for t kind))
    unfolding decide
    layout_decides {A} refuse xRoom yRoom answer =
        ap (λ (x : A). cond (ltb last_kind kind) (refuse 11) x)
        (past _ refuse (answer (length (meaning s).states) (layout_for s kind)) (answer (length (meaning t).states) (layout_for t kind))
        (layout_left kind (plan_of (meaning s)) xRoom yRoom)
        (layout_left kind (plan_of (meaning t)) xRoom yRoom)
        (same same-states plan-same))
      where
        same : {n k : ℕ} {p q : Plan} → n ≡ k → p ≡ q
            → decide (layout_left kind p xRoom yRoom) refuse (answer n (layout_of kind p)) ≡ decide (layout_left kind q xRoom yRoom) refuse (answer k (layout_of kind q))
        same p q = rw (p, q)

    -- the drawing at the layout's centres
    abbrev frame_laid : List ℕ → Frame
    frame_laid u = frame_of (meaning u) (layout_for u kind).xs (layout_for u kind).ys

    abbrev drawn_laid : List ℕ → List Geometry
    drawn_laid u = drawn_of u (layout_for u kind).xs (layout_for u kind).ys

    abbrev list_left_of : List ℕ → ℕ → List Refusal
    list_left_of u room = list_left (length (meaning u).states) kind (plan_of (meaning u)) (frame_laid u) (flags_of (meaning u)) (drawn_laid u) (totals_of (meaning u) (drawn_laid u)) room

    laid_same : layout_for s kind ≡ layout_for t kind
    laid_same = same_layout kind (meaning s) (meaning t) o.ends o.sizes

    frame_laid_lem : frame_laid s ≡ frame_laid t
    frame_laid_lem = frame_same (layout_for s kind).xs (layout_for s kind).ys ∙ ap (λ (l : Layout). frame_of (meaning t) l.xs l.ys) laid_same

    drawn_laid_lem : drawn_laid s ≡ drawn_laid t
    drawn_laid_lem = ap₂ Routing.records frame_laid_lem o.sizes

    list_decides : {A : Type 0} (refuse : ℕ → A) (room : ℕ) (answer : List ℕ → A)
        → decide (list_refusals s l kind room) refuse (answer (listing s kind)) ≡ decide (list_refusals t m kind room) refuse (answer (listing t kind))
    unfolding decide
    list_decides {A} refuse room answer =
        ap (λ (x : A). cond (ltb last_kind kind) (refuse 11) x)
        (past _ refuse (answer (listing s kind)) (answer (listing t kind)) (list_left_of s room) (list_left_of t room)
        (same same-states plan-same frame_laid_lem same_flags drawn_laid_lem (totals-alike (meaning s) (meaning t) o.ends lines-many (drawn_laid s) ∙ ap (totals_of (meaning t)) drawn_laid_lem)))
      where
        same : {n k : ℕ} {p q : Plan} {f g : Frame} {x y : List ℕ} {gs hs : List Geometry} {u v : Totals} → n ≡ k → p ≡ q → f ≡ g → x ≡ y → gs ≡ hs → u ≡ v
            → decide (list_left n kind p f x gs u room) refuse (answer (listing_left (layout_of kind p) x gs u)) ≡ decide (list_left k kind q g y hs v room) refuse (answer (listing_left (layout_of kind q) y hs v))
        same a b c d e f = rw (a, b, c, d, e, f)

  pub answered-alike : AnsweredAlike s l t m
  unfolding route records_after text_after clutter layout xs_after ys_after list list_after
  answered-alike = record {
    routed = λ xs ys room textRoom. route_decides xs ys number room textRoom (λ gs. values (length (numbers_of gs), length (paths_text gs)));
    records = λ xs ys lent textRoom. route_decides xs ys (λ n. lent) (length lent) textRoom (λ gs. onto (numbers_of gs) lent);
    paths = λ xs ys room lent. route_decides xs ys (λ n. lent) room (length lent) (λ gs. onto (paths_text gs) lent);
    counted = λ xs ys. clutter_decides xs ys number (λ f gs. values (clutter_of f.centres gs));
    placed = λ kind xRoom yRoom. layout_decides kind number xRoom yRoom (λ n p. values (n, p.width, p.height));
    xs = λ kind lent yRoom. layout_decides kind (λ n. lent) (length lent) yRoom (λ n p. onto p.xs lent);
    ys = λ kind xRoom lent. layout_decides kind (λ n. lent) xRoom (length lent) (λ n p. onto p.ys lent);
    listed = λ kind room. list_decides kind number room (λ text. values (length text));
    lines = λ kind lent. list_decides kind (λ n. lent) (length lent) (λ text. onto text lent);
  }

-- both accepted, each under its limits
module _ (s t : List ℕ) (l m : Limits) (a : check s l ≡ values tt) (b : check t m ≡ values tt) (o : SameSizes (meaning s) (meaning t)) where
  -- the causes of 1 to 6 do not hold
  past : DecidesAlike s l t m
  past A refuse u v rs qs e =
      clear-joined refuse u (refusals (capped_limits l) s) rs ((check-answered s l).answer.0 a)
      ∙ e
      ∙ sym (clear-joined refuse v (refusals (capped_limits m) t) qs ((check-answered t m).answer.0 b))

  -- at most 8 lines an arrow
  same_lines_many : LinesMany (meaning s) (meaning t)
  same_lines_many k h =
      let i : k < length (meaning t).arrows = omega (arith, o.ends.many) in
      let f : OnMainScreen (meaning s) = accepted_shown l s ((check-answered s l).answer.0 a) in
      let g : OnMainScreen (meaning t) = accepted_shown m t ((check-answered t m).answer.0 b) in
      same-many (length (arrow_at (meaning s) k).lines) (length (arrow_at (meaning t) k).lines) (f.lines k h) (g.lines k i)
      (ap (λ (z : BlockSize). z.height)
      (map_at size_of (meaning s).arrows k no_arrow no_size h ∙ ap (λ (y : List BlockSize). get_or y k no_size) o.sizes ∙ sym (map_at size_of (meaning t).arrows k no_arrow no_size i)))

  pub by_sizes_lem : AnsweredAlike s l t m
  by_sizes_lem = answered-alike s t l m past same_lines_many o

-- ---- record by record

module _ (c d : Call) (a : Answered c) (b : Answered d) (o : SameSizes (graph c) (graph d)) (p : (frame c).centres ≡ (frame d).centres) where
  records-alike : call_records c ≡ call_records d
  records-alike = ap₂ Routing.records (call_frames c d (record { ends = o.ends; centres = p })) o.sizes

  lengths_alike : ◌≡◌ {A = ℕ × ℕ} (a.numbers, a.bytes) (b.numbers, b.bytes)
  lengths_alike = (stands c a).1 ∙ ap (λ (gs : List Geometry). (length (numbers_of gs), length (paths_text gs))) records-alike ∙ sym (stands d b).1

  module _ (k : ℕ) (h : k < length (kept (frame c))) where
    in_c : k < length (call_records c)
    in_c = omega (arith, records-length (frame c) (sizes c))

    in_d : k < length (call_records d)
    in_d = omega (arith, in_c, ap length records-alike)

    record_alike : record_at c k ≡ record_at d k
    record_alike =
        record_is c a k (drawn_at c 0 0) in_c
        ∙ ap (λ (l : List Geometry). fields (get_or l k (drawn_at c 0 0))) records-alike
        ∙ sym (record_is d b k (drawn_at c 0 0) in_d)

    path-alike : path_at c k ≡ path_at d k
    path-alike =
        path_is c a k (drawn_at c 0 0) in_c
        ∙ ap (λ (l : List Geometry). curve_text (get_or l k (drawn_at c 0 0)).curve) records-alike
        ∙ sym (path_is d b k (drawn_at c 0 0) in_d)

  pub by_sizes_records : RecordsAlike c d a b
  by_sizes_records = record {
    numbers = ap (λ (p : ℕ × ℕ). p.0) lengths_alike;
    bytes = ap (λ (p : ℕ × ℕ). p.1) lengths_alike;
    records = record_alike;
    paths = path-alike;
  }
