-- Demand 3 on the two calls: both are answered, and what it says of them is not empty. Assumes nothing.
use Rattle.std.specs.Prelude.{◌≡◌, refl, ◌||◌, ℕ, zero, suc, ◌≤◌, ◌<◌, get_or, Float}
use Rattle.std.proofs.Common.{sym, ◌∙◌, arith, le-ltb}
use Rattle.std.proofs.Math.Path.{ap, ap₂}
use Rattle.std.proofs.Math.Bool.{false, not}
use mathlib.Core.List.{List, [], ◌∷◌, map}
use Rattle.std.proofs.Math.ListN.{length, get_or-map}
use Rattle.std.proofs.lemmas.List.{length-map}
use Rattle.std.specs.Float.{nan}
use Rattle.std.specs.Float.Ieee.{of_int, round}
use Rattle.laws.specs.Refusals.{clear_none, without, clear_from, clear_decides}
use Rattle.laws.specs.Bools.{or_none}
use Rattle.sheet.specs.Meaning.{no_arrow, arrow_at}
use Rattle.float.specs.Ops.{of_nat}
use Rattle.sheet.specs.Sheet.{State, Arrow}
use Rattle.sheet.specs.Refusals.{refusals}
use Rattle.sheet.specs.Order.{accepted_exactly}
use Rattle.records.specs.Records.{fields}
use Rattle.label_spots.specs.declared.Geometry.{Geometry}
use Rattle.routing.specs.Routing.{edge_of, places_taken, no_item}
use Rattle.routing.specs.Sheets.{no_state}
use Rattle.drawing_text.specs.Lines.{paths_text, paths_writable}
use Rattle.calls.specs.Calls.{number, values, capped_limits, short, drawn_of, numbers_of, route_refusals, route}
use Rattle.demand3.specs.Demand.{Call, Answered, record_at, curve_at, graph, frame, sizes, turns, turn_arrow, taken_at, drawn_at, record_number_of, turn_number}
use Rattle.demand3.specs.Demand.{Held, Same, Agree, Alike, Between}
use Rattle.demand3.proofs.Claim.{demand3}
use Rattle.worked_demand.specs.Calls.{one_letter, twelve_letters, first, second}
use Rattle.worked_demand.specs.Computed.{taken_free, number_at, records_placed, drawn_placed, ComputedCall, first-drawn, second-drawn, same-states, same-centres}

-- ---- what is shown

-- number i of the record of turn t, in the slice that `route` leaves
abbrev pub number_left : Call → ℕ → ℕ → Float
number_left c i t = get_or (record_at c (turn_number c t)) i nan

pub record WorkedDemand : Type 0 where
  pub answered : Answered first
  pub also : Answered second
  pub same : Same first second
  -- the turns: the loop, arrow 3; the pair, arrows 0 and 1; the straight arrow 2. Their curves have four points, three, three and two
  pub turn : map edge_of (turns first) ≡ 3 ∷ 0 ∷ 1 ∷ 2 ∷ []
  pub loop : number_left first 1 0 ≡ of_nat 4
  pub arcs : (number_left first 1 1 ≡ of_nat 3) × (number_left first 1 2 ≡ of_nat 3)
  pub straight : number_left first 1 3 ≡ of_nat 2
  -- label lines agree at the turns 0, 1 and 3, and not at 2
  pub agree : Agree first second 0 × Agree first second 1 × Agree first second 3
  pub disagree : Agree first second 2 → ⊥
  -- so the records of the turns 0 and 1 are alike, a loop's and an arc's
  pub alike : (t : ℕ) → t < 2 → Alike first second t
  -- and so are the curves of all arrows between different states
  pub curves : (e : ℕ) → e < 3 → curve_at first (record_number_of first e) ≡ curve_at second (record_number_of second e)
  -- those of turn 3 are not, though its own lines agree: the straight arrow's label stands at its first place in one and at its second in the other
  pub places : (taken_at first 3 ≡ 0) × (taken_at second 3 ≡ 1)
  pub unlike : record_at first (turn_number first 3) ≡ record_at second (turn_number second 3) → ⊥

-- ---- what follows of a call from what is computed of it

-- the arrows of the turns, and the lines of the arrows
abbrev arrows : List ℕ
arrows = 3 ∷ 0 ∷ 1 ∷ 2 ∷ []

abbrev lines_with : List ℕ → List (List (List ℕ))
lines_with l = ((97 ∷ []) ∷ []) ∷ (l ∷ []) ∷ ((99 ∷ []) ∷ []) ∷ ((100 ∷ []) ∷ []) ∷ []

module _ {c : Call} {l ps anchors : List ℕ} (d : ComputedCall c l ps anchors) where
  places_are : places_taken (frame c) (sizes c) ≡ ps
  places_are = taken_free c ps d.free

  drawn_are : drawn_of c.sheet c.xs c.ys ≡ records_placed c ps
  drawn_are = drawn_placed c ps places_are

  numbers-many : length (numbers_of (drawn_of c.sheet c.xs c.ys)) ≡ 80
  numbers-many = ap (λ (gs : List Geometry). length (numbers_of gs)) drawn_are ∙ d.numbers

  bytes-many : length (paths_text (drawn_of c.sheet c.xs c.ys)) ≡ 141
  bytes-many = ap (λ (gs : List Geometry). length (paths_text gs)) drawn_are ∙ d.text

  answers : 80 ≤ length c.records → 141 ≤ length c.text → Answered c
  unfolding route
  answers room space =
      let gs : List Geometry = drawn_of c.sheet c.xs c.ys in
      let ok : not (paths_writable gs) ≡ false = ap (λ (k : List Geometry). not (paths_writable k)) drawn_are ∙ ap not d.writable in
      let o : (short (length c.records) (numbers_of gs) || short (length c.text) (paths_text gs)) ≡ false =
      or_none _ _ (le-ltb _ (length (numbers_of gs)) (omega (arith, room, numbers-many))) (le-ltb _ (length (paths_text gs)) (omega (arith, space, bytes-many))) in
      record {
        numbers = 80;
        bytes = 141;
        answer =
            clear_decides number (values (length (numbers_of gs), length (paths_text gs)))
            (route_refusals c.sheet c.limits c.xs c.ys (length c.records) (length c.text))
            (clear_from _ _ (refusals (capped_limits c.limits) c.sheet) (without 8 d.near (without 9 d.single (without 10 ok (without 7 o clear_none))))
            ((accepted_exactly (capped_limits c.limits) c.sheet).0 d.accepted) refl)
            ∙ ap₂ (λ (n m : ℕ). values (n, m)) numbers-many bytes-many;
      }

  turns-many : length (turns c) ≡ 4
  turns-many = sym (length-map (turns c) edge_of) ∙ ap length d.turn

  arrows-many : length (graph c).arrows ≡ 4
  arrows-many = sym (length-map (graph c).arrows (λ (a : Arrow). a.source)) ∙ ap length d.sources

  pub turn_is : (t : ℕ) → turn_arrow c t ≡ get_or (3 ∷ 0 ∷ 1 ∷ 2 ∷ []) t 0
  turn_is t = sym (get_or-map edge_of (turns c) t no_item) ∙ ap (λ (m : List ℕ). get_or m t 0) d.turn

  pub source_is : (k : ℕ) → (arrow_at (graph c) k).source ≡ get_or (0 ∷ 1 ∷ 0 ∷ 2 ∷ []) k 0
  source_is k = sym (get_or-map (λ (a : Arrow). a.source) (graph c).arrows k no_arrow) ∙ ap (λ (m : List ℕ). get_or m k 0) d.sources

  pub target_is : (k : ℕ) → (arrow_at (graph c) k).target ≡ get_or (1 ∷ 0 ∷ 2 ∷ 2 ∷ []) k 0
  target_is k = sym (get_or-map (λ (a : Arrow). a.target) (graph c).arrows k no_arrow) ∙ ap (λ (m : List ℕ). get_or m k 0) d.targets

  lines_are : (t : ℕ) → (arrow_at (graph c) (turn_arrow c t)).lines ≡ get_or (lines_with l) (get_or arrows t 0) []
  lines_are t =
      ap (λ (k : ℕ). (arrow_at (graph c) k).lines) (turn_is t)
      ∙ sym (get_or-map (λ (a : Arrow). a.lines) (graph c).arrows (get_or arrows t 0) no_arrow)
      ∙ ap (λ (m : List (List (List ℕ))). get_or m (get_or arrows t 0) []) d.lines

  taken_is : (t : ℕ) → taken_at c t ≡ get_or ps t 0
  taken_is t = ap (λ (m : List ℕ). get_or m t 0) places_are

  -- by demand 3 the record of a turn holds the place taken
  left_is : Answered c → (i t : ℕ) → t < 4 → number_left c i t ≡ number_at c ps i t
  left_is a i t h =
      let r : Held c a t = (demand3.cheapest c a).held t (omega (arith, turns-many)) in
      ap (λ (m : List Float). get_or m i nan) (r.numbers ∙ ap (λ (p : ℕ). fields (drawn_at c t p)) (r.taken ∙ taken_is t))

-- ---- of the two

pub first-answered : Answered first
first-answered = answers first-drawn (omega arith) (omega arith)

pub second-answered : Answered second
second-answered = answers second-drawn (omega arith) (omega arith)

pub same : Same first second
same = record {
  ends = record {
    states = ap length same-states;
    flags = λ k h. ap (λ (l : List State). (get_or l k no_state).flags) same-states;
    many = arrows-many first-drawn ∙ sym (arrows-many second-drawn);
    sources = λ k h. source_is first-drawn k ∙ sym (source_is second-drawn k);
    targets = λ k h. target_is first-drawn k ∙ sym (target_is second-drawn k);
  };
  centres = same-centres;
}

agree_before : (j : ℕ) → j < 2 → Agree first second j
agree_before zero h = lines_are first-drawn 0 ∙ sym (lines_are second-drawn 0)
agree_before (suc zero) h = lines_are first-drawn 1 ∙ sym (lines_are second-drawn 1)
agree_before (suc (suc j)) h = absurd (omega arith)

lines_apart : ◌≡◌ {A = List (List ℕ)} (one_letter ∷ []) (twelve_letters ∷ []) → ⊥
lines_apart q = let z : ◌≡◌ {A = ℕ} 1 12 = ap (λ (m : List (List ℕ)). length (get_or m 0 [])) q in omega arith

-- arrow e leads from a state to another
pub first-between : (e : ℕ) → e < 3 → Between (graph first) e
first-between e h = record { inside = omega (arith, arrows-many first-drawn); source = (go e h).0; target = (go e h).1; apart = (go e h).2 }
  where
    go : (e : ℕ) → e < 3
        → ((arrow_at (graph first) e).source < length (graph first).states)
        × ((arrow_at (graph first) e).target < length (graph first).states)
        × ((arrow_at (graph first) e).source ≡ (arrow_at (graph first) e).target → ⊥)
    go zero h =
        let s = source_is first-drawn 0 in
        let t = target_is first-drawn 0 in
        (omega (arith, s, first-drawn.states), omega (arith, t, first-drawn.states), λ q. omega (arith, s, t, q))
    go (suc zero) h =
        let s = source_is first-drawn 1 in
        let t = target_is first-drawn 1 in
        (omega (arith, s, first-drawn.states), omega (arith, t, first-drawn.states), λ q. omega (arith, s, t, q))
    go (suc (suc zero)) h =
        let s = source_is first-drawn 2 in
        let t = target_is first-drawn 2 in
        (omega (arith, s, first-drawn.states), omega (arith, t, first-drawn.states), λ q. omega (arith, s, t, q))
    go (suc (suc (suc e))) h = absurd (omega arith)

points_are : (t : ℕ) → t < 4 → number_left first 1 t ≡ get_or (map of_nat (4 ∷ 3 ∷ 3 ∷ 2 ∷ [])) t nan
points_are zero h = left_is first-drawn first-answered 1 0 h ∙ ap (λ (m : List Float). get_or m 0 nan) first-drawn.points
points_are (suc zero) h = left_is first-drawn first-answered 1 1 h ∙ ap (λ (m : List Float). get_or m 1 nan) first-drawn.points
points_are (suc (suc zero)) h = left_is first-drawn first-answered 1 2 h ∙ ap (λ (m : List Float). get_or m 2 nan) first-drawn.points
points_are (suc (suc (suc zero))) h = left_is first-drawn first-answered 1 3 h ∙ ap (λ (m : List Float). get_or m 3 nan) first-drawn.points
points_are (suc (suc (suc (suc t)))) h = absurd (omega arith)

-- the anchor of turn 3: 0 start, 2 end
anchor_first : number_left first 15 3 ≡ of_nat 0
anchor_first = left_is first-drawn first-answered 15 3 (omega arith) ∙ ap (λ (m : List Float). get_or m 3 nan) first-drawn.anchor

anchor_second : number_left second 15 3 ≡ of_nat 2
anchor_second = left_is second-drawn second-answered 15 3 (omega arith) ∙ ap (λ (m : List Float). get_or m 3 nan) second-drawn.anchor

anchors_apart : of_nat 0 ≡ of_nat 2 → ⊥
unfolding of_int round
anchors_apart q = let z : ◌≡◌ {A = ℕ} 0 1 = cc in omega arith

pub worked_demand : WorkedDemand
worked_demand = record {
  answered = first-answered;
  also = second-answered;
  same = same;
  turn = first-drawn.turn;
  loop = points_are 0 (omega arith);
  arcs = (points_are 1 (omega arith), points_are 2 (omega arith));
  straight = points_are 3 (omega arith);
  agree = (agree_before 0 (omega arith), agree_before 1 (omega arith), lines_are first-drawn 3 ∙ sym (lines_are second-drawn 3));
  disagree = λ q. lines_apart (sym (lines_are first-drawn 2) ∙ q ∙ lines_are second-drawn 2);
  alike = λ t h.
      (demand3.prefix first second first-answered second-answered same).alike t (omega (arith, turns-many first-drawn)) (λ j i. agree_before j (omega arith));
  curves = λ e h. (demand3.curves first second first-answered second-answered same).curve e (first-between e h);
  places = (taken_is first-drawn 3, taken_is second-drawn 3);
  unlike = λ q. anchors_apart (sym anchor_first ∙ ap (λ (m : List Float). get_or m 15 nan) q ∙ anchor_second);
}
