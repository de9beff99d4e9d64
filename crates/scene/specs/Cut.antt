-- A cost counted only until it reaches a limit, and the search with such costs: it takes the place that the search by full cost takes. Assumes nothing.
use Rattle.std.specs.Prelude.{◌≡◌, List, ◌++◌, map, ℕ, zero, suc, ◌+◌, ◌*◌, ◌≤◌, ◌<◌, length}
use Rattle.std.proofs.Math.Path.{refl}
use Rattle.std.proofs.Common.{ap, ◌∙◌, arith}
use Rattle.laws.specs.Best.{best, total_from, cut_total, cut_total_exact, Cuts, cuts_of, search_from, early_is_best}
use Rattle.laws.specs.Counting.{how_many, worth, how_many-le, total-worth, total-append, cut-append}
use Rattle.shape.specs.declared.Rect.{Rect}
use Rattle.trace.specs.Traces.{struck}
use Rattle.label_spots.specs.declared.Turn.{Turn}
use Rattle.scene.specs.Scene.{Scene, near26, wide, apart, overlapping, box_cost}
use Rattle.scene.specs.Turn.{places, box_at, place_cost, taken}

abbrev pub states_cost : Scene → Rect → ℕ
states_cost s b = 10 * how_many (near26 b) s.centres

-- what each box adds, then each trace
abbrev pub items : Scene → ℕ → Rect → List ℕ
items s own b = map (worth (overlapping (apart b)) 6) s.boxes ++ map (worth (struck own (wide b)) 3) s.traces

-- The cost where counting stops, before a box or a trace, once the limit is reached. The states are always counted.
unfoldable pub cut_cost : Scene → ℕ → ℕ → Rect → ℕ
cut_cost s own l b = cut_total l (states_cost s b) (items s own b)

-- the full cost as the sum of its items
pub cost-total : (s : Scene) (own : ℕ) (b : Rect) → total_from (states_cost s b) (items s own b) ≡ box_cost s own b
unfolding box_cost
cost-total s own b =
    total-append (states_cost s b) (map (worth (overlapping (apart b)) 6) s.boxes) (map (worth (struck own (wide b)) 3) s.traces)
    ∙ total-worth (struck own (wide b)) 3 _ s.traces
    ∙ ap (λ (n : ℕ). n + 3 * how_many (struck own (wide b)) s.traces) (total-worth (overlapping (apart b)) 6 (states_cost s b) s.boxes)

-- no more than every state, box and trace together
pub cost-le : (s : Scene) (own : ℕ) (b : Rect) → box_cost s own b ≤ 10 * length s.centres + 6 * length s.boxes + 3 * length s.traces
unfolding box_cost
cost-le s own b = omega (arith, how_many-le (near26 b) s.centres, how_many-le (overlapping (apart b)) s.boxes, how_many-le (struck own (wide b)) s.traces)

-- below the limit nothing is cut
pub cut_full : (s : Scene) (own l : ℕ) (b : Rect) → box_cost s own b < l → cut_cost s own l b ≡ box_cost s own b
unfolding cut_cost
cut_full s own l b h = cut_total_exact l (states_cost s b) (items s own b) (rw (cost-total s own b) h) ∙ cost-total s own b

-- what the code's three sums come to
pub cut_is : (s : Scene) (own l : ℕ) (b a w : Rect) (n m r : ℕ) → a ≡ apart b → w ≡ wide b → n ≡ states_cost s b
    → m ≡ cut_total l n (map (worth (overlapping a) 6) s.boxes) → r ≡ cut_total l m (map (worth (struck own w) 3) s.traces) → r ≡ cut_cost s own l b
unfolding cut_cost
cut_is s own l b a w n m r e₁ e₂ e₃ e₄ e₅ =
    rw (e₅, e₄, e₃, e₂, e₁) (cut-append l (states_cost s b) (map (worth (overlapping (apart b)) 6) s.boxes) (map (worth (struck own (wide b)) 3) s.traces))

place_cuts : (s : Scene) (t : Turn) → Cuts (place_cost s t) (λ l j. cut_cost s t.edge l (box_at t j))
unfolding cut_cost
place_cuts s t =
    let k = cuts_of (λ j. states_cost s (box_at t j)) (λ j. items s t.edge (box_at t j)) in
    record {
      exact = λ l j h. k.exact l j (rw (cost-total s t.edge (box_at t j)) h) ∙ cost-total s t.edge (box_at t j);
      above = λ l j h. k.above l j (rw (cost-total s t.edge (box_at t j)) h);
    }

-- The search with cut costs that stops at a cost of 0, from a first limit above every full cost, takes the first least place by full cost.
pub early : (s : Scene) (t : Turn) (n big : ℕ) → n ≡ places t → 10 * length s.centres + 6 * length s.boxes + 3 * length s.traces < big
    → search_from (λ l j. cut_cost s t.edge l (box_at t j)) n 0 big 0 ≡ taken s t
unfolding taken
early s t n big e h = rw (← e) (go n)
  where
    go : (n : ℕ) → search_from (λ l j. cut_cost s t.edge l (box_at t j)) n 0 big 0 ≡ best (place_cost s t) n
    go zero = unfold search_from best in refl
    go (suc n) = early_is_best (place_cost s t) (λ l j. cut_cost s t.edge l (box_at t j)) (place_cuts s t) n big (omega (arith, cost-le s t.edge (box_at t 0)))
