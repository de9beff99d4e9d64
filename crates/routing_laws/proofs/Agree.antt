-- What two sheets that differ only in labels have in common, and demand 3 over graphs and centres. Assumes nothing.
use Rattle.std.specs.Prelude.{◌≡◌, refl, Bool, true, false, ◌&&◌, List, [], ◌∷◌, map, ℕ, zero, suc, ◌<◌, eqb, length, get_or, Float}
use Rattle.std.proofs.Common.{sym, ap, ◌∙◌, arith, lt-ltb, ne_eqb}
use Rattle.std.proofs.Math.Path.{ap₂}
use Rattle.std.proofs.Math.ListN.{length-map, get_or-map}
use Rattle.std.specs.Float.Ieee.{of_bits, of_int, mul, round}
use Rattle.laws.specs.Lists.{map-alike}
use Rattle.laws.specs.Loops.{over}
use Rattle.sheet.specs.Sheet.{Arrow, Graph, flags_of}
use Rattle.sheet.specs.Meaning.{ends_below, no_arrow, arrow_at}
use Rattle.sheet.specs.Meaning as Meaning
use Rattle.routing.specs.Sheets.{centres_at, frame_with, ends_of, ends_by, block_size, size_of, frame_of, sizes_of, no_state, SameFrame}
use Rattle.routing.specs.Routing.{Ends, Frame, is_kept_in, is_loop, no_size, Item, edge_of, order, numbered_at, no_item}
use Rattle.routing_laws.specs.Demand.{size_at, record_for, edge_at, stroke_of}
use Rattle.routing_laws.proofs.Demand.{prefix, kept_turn, records_cheapest, records_prefix}
use Rattle.routing_laws.proofs.Demand as Demand
use Rattle.routing_laws.specs.Agree.{lines_at, GraphDemand}

-- no label enters the frame, nor the order of the turns
pub same-frame : (g h : Graph) (xs ys : List Float) → SameFrame g h → frame_of g xs ys ≡ frame_of h xs ys
unfolding frame_of
same-frame g h xs ys e =
    ap₂ (λ (flags : List ℕ) (arrows : List Ends). frame_with flags (centres_at xs ys (length g.states)) arrows)
    (map-alike (λ a. a.flags) (λ a. a.flags) g.states h.states no_state no_state e.states e.flags)
    (map-alike ends_of ends_of g.arrows h.arrows no_arrow no_arrow e.many (λ k l. ap₂ ends_by (e.sources k l) (e.targets k l)))
    ∙ ap (λ (n : ℕ). frame_with (flags_of h) (centres_at xs ys n) (map ends_of h.arrows)) e.states

size-at : (l : List Arrow) (k : ℕ) → get_or (map size_of l) k no_size ≡ size_of (get_or l k no_arrow)
unfolding over of_bits of_int mul round
size-at [] k = refl
size-at (a ∷ l) zero = refl
size-at (a ∷ l) (suc k) = size-at l k

-- the sizes at turn j agree where the lines do
sizes_agree : (g h : Graph) (xs ys : List Float) (d : Item) (j : ℕ) → SameFrame g h → lines_at g xs ys d j ≡ lines_at h xs ys d j
    → size_at (frame_of g xs ys) (sizes_of g) d j ≡ size_at (frame_of g xs ys) (sizes_of h) d j
sizes_agree g h xs ys d j e a =
    let n = edge_of (get_or (order (frame_of g xs ys)) j d) in
    size-at g.arrows n
    ∙ ap block_size (a ∙ ap (λ (z : Frame). (get_or h.arrows (edge_of (get_or (order z) j d)) no_arrow).lines) (sym (same-frame g h xs ys e)))
    ∙ sym (size-at h.arrows n)

module _ (g : Graph) (xs ys : List Float) (k : ℕ) where
  pub arrow-inside : k < length g.arrows → k < length (frame_of g xs ys).arrows
  unfolding frame_of
  arrow-inside h = omega (arith, length-map g.arrows ends_of)

  pub arrow_ends : (numbered_at (frame_of g xs ys) k).ends ≡ ends_of (arrow_at g k)
  unfolding frame_of
  arrow_ends = get_or-map ends_of g.arrows k no_arrow

  -- the frame keeps what the graph keeps
  pub kept_same : is_kept_in (frame_of g xs ys) (numbered_at (frame_of g xs ys) k) ≡ Meaning.is_kept g (arrow_at g k)
  unfolding frame_of
  kept_same = ap₂ (λ (n : ℕ) (e : Ends). ends_below n e.source e.target) (length-map g.states (λ a. a.flags)) arrow_ends

  pub arrow-kept : (arrow_at g k).source < length g.states → (arrow_at g k).target < length g.states → is_kept_in (frame_of g xs ys) (numbered_at (frame_of g xs ys) k) ≡ true
  arrow-kept a b =
      kept_same
      ∙ ap₂ (λ (x y : Bool). x && y) (lt-ltb (arrow_at g k).source (length g.states) a) (lt-ltb (arrow_at g k).target (length g.states) b)

  pub arrow-apart : ((arrow_at g k).source ≡ (arrow_at g k).target → ⊥) → is_loop (numbered_at (frame_of g xs ys) k) ≡ false
  arrow-apart o = ap (λ (e : Ends). eqb e.source e.target) arrow_ends ∙ ne_eqb (arrow_at g k).source (arrow_at g k).target o

-- for every graph and all centres
pub graph_demand : (g : Graph) (xs ys : List Float) → GraphDemand g xs ys
graph_demand g xs ys =
    let f : Frame = frame_of g xs ys in
    record {
      turn = λ k h a b. kept_turn f k (arrow-inside g xs ys k h) (arrow-kept g xs ys k a b);
      cheapest = λ t h. records_cheapest f (sizes_of g) t h;
      turns = λ h e. ap order (same-frame g h xs ys e);
      prefix = λ h e t l a.
          records_prefix f (sizes_of g) (sizes_of h) t l (λ j i. sizes_agree g h xs ys no_item j e (a j i))
          ∙ ap (λ (z : Frame). record_for z (sizes_of h) (edge_at f t)) (same-frame g h xs ys e);
      curves = λ h e k l o. Demand.strokes_same f (sizes_of g) (sizes_of h) k (arrow-inside g xs ys k l) (arrow-apart g xs ys k o) ∙ ap (λ (z : Frame). map stroke_of (record_for z (sizes_of h) k)) (same-frame g h xs ys e);
    }
