-- Where the record of an arrow stands among the records, and its twenty numbers among theirs. Assumes nothing.
use Rattle.std.specs.Prelude.{◌≡◌, Bool, cond, List, [], ◌∷◌, map, get_or}
use Rattle.std.proofs.Math.Path.{sym, ap}
use Rattle.std.proofs.Common.{◌∙◌, arith, eq-eqb}
use Rattle.std.proofs.Math.Bool.{true}
use Prim.Native.Nat.{ℕ, ◌<◌}
use Rattle.std.proofs.Math.ListN.{length, get_or-map}
use Rattle.std.proofs.lemmas.List.{length-map}
use Rattle.laws.specs.Cases.{by_bool}
use Rattle.laws.specs.Filter.{filter_by}
use Rattle.laws.specs.Places.{At, filter_only, left_at, left-inside, From, left_from}
use Rattle.laws.specs.Lists.{get_d_any}
use Rattle.label_spots.specs.declared.Geometry.{Geometry}
use Rattle.routing.specs.Routing.{Frame, BlockSize, Item, Numbered, numbered, is_kept_in, is_loop, kept, edge_of, order, drawing, drawn_for, records, numbered_by, no_ends, numbered_at, item_for, no_item}
use Rattle.routing_laws.specs.Numbers.{length-numbered, numbered-at}
use Rattle.routing_laws.specs.Slots.{is_edge}
use Rattle.routing_laws.proofs.Slots.{drawn_once, records_edges, records-length}
use Rattle.routing_laws.specs.Demand.{record_for}
use Rattle.routing_laws.proofs.Demand.{record_drawn_lem, kept_turn}
use Rattle.demand3.specs.Demand.{record_number, HasTurn}

-- ---- arrows by their numbers

abbrev no_arrow : Numbered
no_arrow = numbered_by 0 no_ends

-- ---- the record of an arrow

module _ (f : Frame) (e : ℕ) (h : e < length f.arrows) (c : is_kept_in f (numbered_at f e) ≡ true) where
  there : is_kept_in f (get_or (numbered f) e no_arrow) ≡ true
  there = ap (is_kept_in f) (numbered-at f e no_arrow h) ∙ c

  pub number-inside : record_number f e < length (kept f)
  unfolding kept
  number-inside = left-inside (is_kept_in f) (numbered f) e no_arrow (omega (arith, length-numbered f)) there

  kept_at : get_or (kept f) (record_number f e) no_arrow ≡ numbered_at f e
  unfolding kept
  kept_at = left_at (is_kept_in f) (numbered f) e no_arrow (omega (arith, length-numbered f)) there ∙ numbered-at f e no_arrow h

item_edge : (f : Frame) (a : Numbered) → edge_of (item_for f a) ≡ a.edge
item_edge f a = by_bool (is_loop a) (λ t. rw t) (λ t. rw t)

module _ (f : Frame) where
  module _ (sizes : List BlockSize) (e : ℕ) (h : e < length f.arrows) (c : is_kept_in f (numbered_at f e) ≡ true) where
    pub record_inside : record_number f e < length (records f sizes)
    record_inside = omega (arith, number-inside f e h c, records-length f sizes)

    -- the record of that number is the arrow's
    record_edge : (d : Geometry) → (get_or (records f sizes) (record_number f e) d).edge ≡ e
    record_edge d =
        let k = record_number f e in
        sym (get_or-map (λ g. g.edge) (records f sizes) k d)
        ∙ ap (λ (l : List ℕ). get_or l k d.edge) (records_edges f sizes)
        ∙ get_d_any (map (λ a. a.edge) (kept f)) k d.edge 0 (omega (arith, number-inside f e h c, length-map (kept f) (λ a. a.edge)))
        ∙ get_or-map (λ a. a.edge) (kept f) k no_arrow
        ∙ ap (λ (a : Numbered). a.edge) (kept_at f e h c)

    -- and its only one
    pub record_only : (d : Geometry) → record_for f sizes e ≡ get_or (records f sizes) (record_number f e) d ∷ []
    record_only d =
        let once : map (λ g. g.edge) (drawn_for (drawing f sizes) (numbered_at f e)) ≡ e ∷ [] = drawn_once f sizes e h ∙ ap (λ (b : Bool). cond b (e ∷ []) []) c in
        let drawn : record_for f sizes e ≡ filter_by (is_edge e) (drawing f sizes) = record_drawn_lem f sizes e h ∙ ap (λ (b : Bool). cond b (filter_by (is_edge e) (drawing f sizes)) []) c in
        filter_only (is_edge e) (records f sizes) (record_number f e) d
        (omega (arith, ap length drawn, ap length once, length-map (filter_by (is_edge e) (drawing f sizes)) (λ g. g.edge)))
        record_inside (eq-eqb (get_or (records f sizes) (record_number f e) d).edge e (record_edge d))

  -- each record is that of a turn
  pub number_turn : (k : ℕ) → k < length (kept f) → HasTurn f k
  unfolding kept
  number_turn k h =
      let r : From (is_kept_in f) (numbered f) no_arrow k = left_from (is_kept_in f) (numbered f) no_arrow k h in
      let e : ℕ = r.place in
      let i : e < length f.arrows = omega (arith, r.inside, length-numbered f) in
      let c : is_kept_in f (numbered_at f e) ≡ true = sym (ap (is_kept_in f) (numbered-at f e no_arrow i)) ∙ r.passes in
      let at : At (order f) no_item (item_for f (numbered_at f e)) = kept_turn f e i c in
      record {
        turn = at.place;
        inside = at.inside;
        number = ap (λ (j : Item). record_number f (edge_of j)) at.there ∙ ap (record_number f) (item_edge f (numbered_at f e)) ∙ r.before;
      }

-- ---- one record's numbers among those of all
