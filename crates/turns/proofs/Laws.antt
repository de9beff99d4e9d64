-- Steps of the proofs. Assumes nothing.
use Rattle.std.specs.Prelude.{◌≡◌, refl, true, false, not, ℕ, ◌+◌, ◌≤◌, ◌<◌, ltb, length, get_or, take, drop, Option, Some}
use Rattle.std.proofs.Common.{sym, ap, ap₂, ◌∙◌, arith, ltb-true, true≢false, add-one, drop-cons, drop_of_length-le, length-append}
use Rattle.std.proofs.lemmas.Bool.{not-true}
use mathlib.Core.List.{List, [], ◌∷◌, ◌++◌, map, flat_map}
use Rattle.std.proofs.Math.ListN.{get_or-map}
use Rattle.laws.specs.Cases.{by_bool}
use Rattle.laws.specs.Bools.{and_first, and_second}
use Rattle.laws.specs.Loops.{over}
use Rattle.laws.specs.Lists.{get_d_any}
use Rattle.label_spots.specs.declared.Geometry.{Geometry}
use Rattle.routing.specs.Routing.{Frame, Ends, BlockSize, Numbered, numbered, numbered_at, no_ends, is_kept_in, is_loop, joined, route_of, is_arc, arc_shape, label}
use Rattle.routing_laws.specs.Passes.{Pass, in_pass, is_crossing, item_of, Drawn, turned, passed, shown, gathered}
use Rattle.routing_laws.specs.Turns.{size_for}
use Rattle.routing_laws.specs.Numbers.{numbered-drop, numbered-past}
use Rattle.routing_laws.proofs.Turns.{turned_loop, turned_label, turned-other}
use Rattle.curves.specs.declared.Laid.{Laid}
use Rattle.curves.specs.Lay.{laid_by, laid_of, crossing_by, crosses, crossings}
use Rattle.turns.specs.declared.drawing.Drawing.{Drawing}
use Rattle.turns.specs.Steps.{is_sort, pass_of, looped_as, many_of, loops_of, one_at, more, drawn_in, Added, turned_as, turned_by}
use Rattle.laws.specs.Counting.{how_many, worth}
use Rattle.curves.specs.Counts.{how_many_next, how_many_first}
use Rattle.turns.specs.declared.Sort.{Sort}
use Rattle.std.specs.Prelude.{set}
use Rattle.laws.specs.Joined.{map_join}
use Rattle.laws.specs.Put.{put, put-put}
use Rattle.shape.specs.declared.«V».{«V»}
use Rattle.shape.specs.declared.Rect.{Rect}
use Rattle.trace.specs.Traces.{Trace, trace_of, arrow}
use Rattle.trace.specs.Form.{trace_in}
use Rattle.trace.specs.declared.Trace.{Trace as Stored}
use Rattle.label_spots.specs.declared.Turn.{Turn}
use Rattle.label_spots.specs.Labels.{labelled}
use Rattle.scene.specs.Scene.{Scene, scene_of}
use Rattle.scene.specs.Turn.{placed_arrow}
use Rattle.self_loop.specs.Looped.{Loop, looped, loop_at, trace_by}
use Rattle.routing_laws.specs.Passes.{drawn_with}
use Rattle.routing_laws.specs.Turns.{with_loop, with_label}

module _ (f : Frame) (i : ℕ) where
  abbrev ends : Ends
  ends = get_or f.arrows i no_ends

  abbrev this : Numbered
  this = numbered_at f i

  -- what is known of arrow i
  pub laid_at : (ls : List Laid) (d : Laid) → ls ≡ laid_of f → i < length f.arrows → i < length ls → get_or ls i d ≡ laid_by f ends
  laid_at ls d e h k = get_d_any ls i d (laid_by f no_ends) k ∙ ap (λ (l : List Laid). get_or l i (laid_by f no_ends)) e ∙ get_or-map (laid_by f) f.arrows i no_ends

  laid_left : is_kept_in f this ≡ false → laid_by f ends ≡ Laid.LeftOut
  unfolding laid_by
  laid_left k = rw k

  laid_loop : is_kept_in f this ≡ true → is_loop this ≡ true → laid_by f ends ≡ Laid.Loop
  unfolding laid_by
  laid_loop k l = rw (k, l)

  laid_between : is_kept_in f this ≡ true → is_loop this ≡ false → laid_by f ends ≡ Laid.Between (crossing_by f ends)
  unfolding laid_by
  laid_between k l = rw (k, l)

  -- the pass of its sort is the one that it has its turn in
  sort_is : (s : Sort) → in_pass f (pass_of s) this ≡ is_sort s (laid_by f ends)
  unfolding in_pass laid_by joined
  sort_is Sort.Loop = by_bool (is_kept_in f this) (λ k. by_bool (is_loop this) (λ l. rw (k, l)) (λ l. rw (k, l))) (λ k. rw k)
  sort_is Sort.Arc = by_bool (is_kept_in f this) (λ k. by_bool (is_loop this) (λ l. rw (k, l)) (λ l. rw (k, l))) (λ k. rw k)
  sort_is Sort.Straight = by_bool (is_kept_in f this) (λ k. by_bool (is_loop this) (λ l. rw (k, l)) (λ l. rw (k, l))) (λ k. rw k)

  -- the state of a loop exists
  pub loop_state : laid_by f ends ≡ Laid.Loop → ends.source < length f.flags
  loop_state e =
      by_bool (is_kept_in f this)
      (λ k. ltb-true _ _ (and_first (ltb ends.source (length f.flags)) (ltb ends.target (length f.flags)) k))
      (λ k. absurd (true≢false (sym (ap (is_sort Sort.Loop) (sym (laid_left k) ∙ e)))))

  -- the turn in the pass of the arrow's sort, and in another
  module _ (sizes : List BlockSize) (d : Drawn) where
    label_yes : (s : Sort) → item_of f (pass_of s) this ≡ label (route_of f this) → is_crossing f this ≡ true → in_pass f (pass_of s) this ≡ true
        → turned_by f (size_for sizes i) i d ≡ turned f sizes (pass_of s) d this
    unfolding joined
    label_yes s w c t =
        let kept : is_kept_in f this ≡ true = and_first (is_kept_in f this) (not (is_loop this)) c in
        let apart : is_loop this ≡ false = not-true (is_loop this) (and_second (is_kept_in f this) (not (is_loop this)) c) in
        ap (turned_as f (size_for sizes i) i d) (laid_between kept apart) ∙ sym (turned_label f sizes (pass_of s) d this w t)

    turn_yes : (s : Sort) → in_pass f (pass_of s) this ≡ true → turned_by f (size_for sizes i) i d ≡ turned f sizes (pass_of s) d this
    unfolding in_pass
    turn_yes Sort.Loop t =
        let loops : is_loop this ≡ true = and_second (is_kept_in f this) (is_loop this) t in
        ap (turned_as f (size_for sizes i) i d) (laid_loop (and_first (is_kept_in f this) (is_loop this) t) loops)
        ∙ sym (turned_loop f sizes d this t)
    turn_yes Sort.Arc t = label_yes Sort.Arc refl (and_first (is_crossing f this) (is_arc (route_of f this)) t) t
    turn_yes Sort.Straight t = label_yes Sort.Straight refl (and_first (is_crossing f this) (not (is_arc (route_of f this))) t) t

  module _ (sizes : List BlockSize) (d : Drawn) (x : Laid) (sort : Sort) (w : x ≡ laid_by f ends) where
    sorted_as : in_pass f (pass_of sort) this ≡ is_sort sort x
    sorted_as = sort_is sort ∙ ap (is_sort sort) (sym w)

    pub turn_sort : (size : BlockSize) → size ≡ size_for sizes i → is_sort sort x ≡ true → turned_by f size i d ≡ turned f sizes (pass_of sort) d this
    turn_sort size z t = ap (λ (q : BlockSize). turned_by f q i d) z ∙ turn_yes sizes d sort (sorted_as ∙ t)

    pub turn_other : is_sort sort x ≡ false → d ≡ turned f sizes (pass_of sort) d this
    turn_other t = sym (turned-other f sizes (pass_of sort) d this (sorted_as ∙ t))

-- ---- one drawing more

pub added_drawn : {a t : ℕ} (f : Frame) {d e : Drawing a t} {i : ℕ} {g : Geometry} → Added d e i g
    → drawn_in f e ≡ drawn_with (scene_of f.centres (map trace_in d.traces.now) (d.boxes.now ++ (g.label_box ∷ []))) (set d.drawn.now i (Some g))
added_drawn f k = rw (k.boxes, k.traces, k.drawn)

pub looped-edge : (s : Scene) (l : Loop) → (looped s l).edge ≡ l.edge
unfolding loop_at labelled
looped-edge s l = refl

pub placed-edge : (s : Scene) (t : Turn) → (placed_arrow s t).edge ≡ t.edge
unfolding labelled
placed-edge s t = refl

module _ (cs : List «V») (bs : List Rect) (slots : List (Option Geometry)) (i : ℕ) (g h : Geometry) (e : g ≡ h) (k : h.edge ≡ i) where
  pub loop_added : (ts us : List Stored) (t : Stored) → us ≡ ts ++ (t ∷ []) → trace_in t ≡ trace_of (arrow i) g.curve
      → drawn_with (scene_of cs (map trace_in us) (bs ++ (g.label_box ∷ []))) (set slots i (Some g)) ≡ with_loop (drawn_with (scene_of cs (map trace_in ts) bs) slots) h
  loop_added ts us t w v =
      let owned : trace_in t ≡ trace_by h = v ∙ ap₂ (λ (n : ℕ) (x : Geometry). trace_of (arrow n) x.curve) (sym k) e in
      ap (λ (x : Geometry). drawn_with (scene_of cs (map trace_in us) (bs ++ (x.label_box ∷ []))) (set slots i (Some x))) e
      ∙ ap₂ (λ (y : List Trace) (n : ℕ). drawn_with (scene_of cs y (bs ++ (h.label_box ∷ []))) (set slots n (Some h)))
      (ap (map trace_in) w ∙ map_join trace_in ts (t ∷ []) ∙ ap (λ (x : Trace). map trace_in ts ++ (x ∷ [])) owned) (sym k)

  pub label_added : (ts : List Trace) → drawn_with (scene_of cs ts (bs ++ (g.label_box ∷ []))) (set slots i (Some g)) ≡ with_label (drawn_with (scene_of cs ts bs) slots) h
  label_added ts =
      ap (λ (x : Geometry). drawn_with (scene_of cs ts (bs ++ (x.label_box ∷ []))) (set slots i (Some x))) e
      ∙ ap (λ (n : ℕ). drawn_with (scene_of cs ts (bs ++ (h.label_box ∷ []))) (set slots n (Some h))) (sym k)

-- ---- a pass

pub pass_more : (f : Frame) (sizes : List BlockSize) (p : Pass) (i : ℕ) (c d r : Drawn) → i < length f.arrows → d ≡ turned f sizes p c (numbered_at f i)
    → over (turned f sizes p) c (drop i (numbered f)) ≡ r → over (turned f sizes p) d (drop (i + 1) (numbered f)) ≡ r
unfolding over
pass_more f sizes p i c d r h e g =
    ap (λ (x : Drawn). over (turned f sizes p) x (drop (i + 1) (numbered f))) e
    ∙ ap (over (turned f sizes p) c) (sym (numbered-drop f i h))
    ∙ g

pub pass_end : (f : Frame) (sizes : List BlockSize) (p : Pass) (i : ℕ) (c r : Drawn) → length f.arrows ≤ i → over (turned f sizes p) c (drop i (numbered f)) ≡ r → c ≡ r
unfolding over
pass_end f sizes p i c r h g = sym (ap (over (turned f sizes p) c) (numbered-past f i h)) ∙ g

pub pass_all : (f : Frame) (sizes : List BlockSize) (p : Pass) (d : Drawn) → over (turned f sizes p) d (drop 0 (numbered f)) ≡ passed f sizes p d
unfolding passed
pass_all f sizes p d = refl

-- ---- how many traces

pub more_add : (s : Sort) (a b : ℕ) → more s (a + b) ≡ more s a + more s b
more_add Sort.Loop a b = refl
more_add Sort.Arc a b = refl
more_add Sort.Straight a b = refl

pub more_le : (s : Sort) (a b : ℕ) → a ≤ b → more s a ≤ more s b
more_le Sort.Loop a b h = h
more_le Sort.Arc a b h = omega arith
more_le Sort.Straight a b h = omega arith

-- an arrow of a sort adds no trace, or that of its loop
pub looped_most : (s : Sort) (x : Laid) → is_sort s x ≡ true → looped_as x ≤ more s 1
looped_most s Laid.LeftOut t = omega arith
looped_most Sort.Loop Laid.Loop t = omega arith
looped_most Sort.Arc Laid.Loop t = absurd (true≢false (sym t))
looped_most Sort.Straight Laid.Loop t = absurd (true≢false (sym t))
looped_most s (Laid.Between c) t = omega arith

-- arrow i counts among the first i + 1, and these among all
module _ (s : Sort) (ls : List Laid) (i : ℕ) (h : i < length ls) where
  pub many_next : many_of s (take (i + 1) ls) ≡ many_of s (take i ls) + one_at s ls i
  many_next = how_many_next (is_sort s) ls i Laid.LeftOut h

  pub more_next : more s (many_of s (take (i + 1) ls)) ≡ more s (many_of s (take i ls)) + more s (one_at s ls i)
  more_next = ap (more s) many_next ∙ more_add s (many_of s (take i ls)) (one_at s ls i)

pub many_first : (s : Sort) (ls : List Laid) (k : ℕ) → many_of s (take k ls) ≤ many_of s ls
many_first s ls k = how_many_first (is_sort s) ls k

-- no arrow is of two sorts
one_sort : (x : Laid) → worth (is_sort Sort.Loop) 1 x + worth (is_sort Sort.Arc) 1 x + worth (is_sort Sort.Straight) 1 x ≤ 1
one_sort Laid.LeftOut = omega arith
one_sort Laid.Loop = omega arith
one_sort (Laid.Between c) = by_bool (arc_shape c.routed.shape) (λ t. rw t (omega arith)) (λ t. rw t (omega arith))

pub all_sorts : (ls : List Laid) → many_of Sort.Loop ls + many_of Sort.Arc ls + many_of Sort.Straight ls ≤ length ls
unfolding how_many
all_sorts [] = omega arith
all_sorts (x ∷ ls) = omega (arith, one_sort x, all_sorts ls)

-- an arrow has a trace from the start, or adds its loop's, or neither
one_trace : (x : Laid) → crosses x + worth (is_sort Sort.Loop) 1 x ≤ 1
one_trace Laid.LeftOut = omega arith
one_trace Laid.Loop = omega arith
one_trace (Laid.Between c) = omega arith

pub all_traces : (ls : List Laid) → crossings ls + loops_of ls ≤ length ls
unfolding how_many
all_traces [] = omega arith
all_traces (x ∷ ls) = omega (arith, one_trace x, all_traces ls)

-- ---- the records

gathered_more : (l : List (Option Geometry)) (i : ℕ) (x : Option Geometry) → i < length l → x ≡ get_or l i x → gathered (drop i l) ≡ shown x ++ gathered (drop (i + 1) l)
unfolding gathered flat_map
gathered_more l i x h w = rw (drop-cons l i x h, ← w, add-one)

module _ (l : List (Option Geometry)) (i : ℕ) (x : Option Geometry) (h : i < length l) (w : x ≡ get_or l i x) where
  pub gathered_length : length (gathered (drop i l)) ≡ length (shown x) + length (gathered (drop (i + 1) l))
  gathered_length = ap length (gathered_more l i x h w) ∙ length-append (shown x) (gathered (drop (i + 1) l))

  pub gathered_put : (rs ss ts : List Geometry) (n m : ℕ) → ss ≡ put rs n (shown x) → m ≡ n + length (shown x) → put rs n (gathered (drop i l)) ≡ ts → put ss m (gathered (drop (i + 1) l)) ≡ ts
  gathered_put rs ss ts n m e k g =
      ap₂ (λ (y : List Geometry) (j : ℕ). put y j (gathered (drop (i + 1) l))) e k
      ∙ put-put rs n (shown x) (gathered (drop (i + 1) l))
      ∙ ap (put rs n) (sym (gathered_more l i x h w))
      ∙ g

pub gathered_past : (l : List (Option Geometry)) (i : ℕ) → length l ≤ i → gathered (drop i l) ≡ []
unfolding gathered flat_map
gathered_past l i h = rw (drop_of_length-le l h)

pub gathered_end : (l : List (Option Geometry)) (i n : ℕ) (rs ts : List Geometry) → length l ≤ i → put rs n (gathered (drop i l)) ≡ ts → rs ≡ ts
unfolding put
gathered_end l i n rs ts h g = sym (ap (put rs n) (gathered_past l i h)) ∙ g
