-- A step of each loop, and what the calls come to. Assumes nothing.
use Rattle.std.proofs.Common.{◌≡◌, refl, sym, ap, ap₂, ◌∙◌, ℕ, ◌+◌, ◌<◌, ◌≤◌, Bool, cond, ◌||◌, List, [], ◌∷◌, ◌++◌, map, length, take, drop, get_or, None, add-one, drop_of_length-le, true, false, arith}
use Rattle.std.proofs.Math.Seq.{drop-cons}
use Rattle.std.proofs.lemmas.List.{take_more}
use Rattle.std.proofs.lemmas.List.Folds.{list_any-append}
use Rattle.std.specs.List.{count_by, list_any}
use Rattle.laws.specs.Chains.{how_many_list}
use Rattle.laws.specs.Counting.{how_many}
use Rattle.shape.specs.declared.«V».{«V»}
use Rattle.shape.specs.declared.Rect.{Rect}
use Rattle.shape.specs.declared.Curve.TheVariants.{Line}
use Rattle.shape.specs.Plane.{vec, rect}
use Rattle.std.specs.Float.{nan}
use Rattle.trace.specs.declared.Points.TheVariants.{Ends}
use Rattle.label_spots.specs.declared.Anchor.TheVariants.{Start}
use Rattle.trace.specs.declared.Trace.{Trace as Stored}
use Rattle.trace.specs.Traces.{Trace, crosses, struck}
use Rattle.trace.specs.Form.{trace_in}
use Rattle.label_spots.specs.declared.Geometry.{Geometry}
use Rattle.clutter.specs.Clutter.{record_trace, near24, label_over, crossings, collides, collisions, clutter_of}

-- what an index beyond a slice would read
abbrev pub no_trace : Stored
no_trace = record { owner = None; bounds = rect nan nan nan nan; points = Ends [] }

abbrev pub no_geometry : Geometry
no_geometry = record { edge = 0; curve = Line (vec nan nan) (vec nan nan); tip = vec nan nan; tip_angle = nan; label = vec nan nan; anchor = Start; label_box = rect nan nan nan nan }

pub any_struck : (own : ℕ) (b : Rect) (l : List Stored) → list_any (λ t. struck own b (trace_in t)) l ≡ list_any (struck own b) (map trace_in l)
any_struck own b [] = refl
any_struck own b (x ∷ l) = ap (λ (r : Bool). struck own b (trace_in x) || r) (any_struck own b l)

how_many_map : {A B : Type 0} (p : B → Bool) (f : A → B) (l : List A) → how_many p (map f l) ≡ how_many (λ x. p (f x)) l
unfolding how_many
how_many_map p f [] = refl
how_many_map p f (x ∷ l) = ap (λ (n : ℕ). cond (p (f x)) 1 0 + n) (how_many_map p f l)

how_many_of : {A B : Type 0} (p : B → Bool) (f : A → B) (l : List A) → count_by (λ x. p (f x)) l ≡ how_many p (map f l)
how_many_of p f l = sym (how_many_map p f l ∙ how_many_list (λ x. p (f x)) l)

drop_next : {A : Type 0} (l : List A) (i : ℕ) (d : A) → i < length l → drop i l ≡ get_or l i d ∷ drop (i + 1) l
drop_next l i d h = rw add-one (drop-cons l i d h)

-- ---- pairs; trace i with those behind it, of which n cross it

module _ (ts : List Stored) (i : ℕ) where
  pub crossings-step : (x d : Stored) (n a : ℕ) → i < length ts → n ≡ count_by (λ o. crosses (trace_in x) (trace_in o)) (drop (i + 1) ts) → get_or ts i d ≡ x
      → (a + n) + crossings (map trace_in (drop (i + 1) ts)) ≡ a + crossings (map trace_in (drop i ts))
  unfolding crossings
  crossings-step x d n a h f e =
      let g : n ≡ how_many (crosses (trace_in x)) (map trace_in (drop (i + 1) ts)) = f ∙ how_many_of (crosses (trace_in x)) trace_in (drop (i + 1) ts) in
      let all : crossings (map trace_in (drop i ts)) ≡ n + crossings (map trace_in (drop (i + 1) ts)) = rw (drop_next ts i d h, e, ← g) in
      omega arith

  pub crossings-end : (a : ℕ) → length ts ≤ i → a ≡ a + crossings (map trace_in (drop i ts))
  unfolding crossings
  crossings-end a h = rw (drop_of_length-le ts h) (omega arith)

-- ---- labels

module _ (cs : List «V») (ts : List Trace) (p q : List Geometry) (g : Geometry) where
  pub by_state : list_any (near24 g.label_box) cs ≡ true → collides cs ts (p ++ q) g ≡ true
  unfolding collides
  by_state h = rw h

  pub by_others : list_any (near24 g.label_box) cs ≡ false → collides cs ts (p ++ q) g ≡ (list_any (label_over g.label_box) p || (list_any (label_over g.label_box) q || list_any (struck g.edge g.label_box) ts))
  unfolding collides
  by_others h = rw (h, list_any-append) (or_assoc (list_any (label_over g.label_box) p) (list_any (label_over g.label_box) q) (list_any (struck g.edge g.label_box) ts))
    where
      or_assoc : (a b c : Bool) → ((a || b) || c) ≡ (a || (b || c))
      or_assoc true b c = refl
      or_assoc false b c = refl

-- record i, of those behind the first i, and whether it collides
module _ (cs : List «V») (ts : List Trace) (gs : List Geometry) (i : ℕ) where
  pub collisions-step : (x d : Geometry) (t : Bool) (a b : ℕ) → i < length gs → t ≡ collides cs ts (take i gs ++ drop (i + 1) gs) x → get_or gs i d ≡ x → b ≡ a + cond t 1 0
      → b + collisions cs ts (take (i + 1) gs) (drop (i + 1) gs) ≡ a + collisions cs ts (take i gs) (drop i gs)
  unfolding collisions
  collisions-step x d t a b h f e k =
      let all : collisions cs ts (take i gs) (drop i gs) ≡ cond t 1 0 + collisions cs ts (take (i + 1) gs) (drop (i + 1) gs) =
      rw (drop_next gs i d h, e, ← f) (ap (λ (l : List Geometry). cond t 1 0 + collisions cs ts l (drop (i + 1) gs)) (sym (take_more gs i d h ∙ ap (λ (y : Geometry). take i gs ++ (y ∷ [])) e))) in
      omega arith

  pub collisions-end : (a : ℕ) → length gs ≤ i → a ≡ a + collisions cs ts (take i gs) (drop i gs)
  unfolding collisions
  collisions-end a h = rw (drop_of_length-le gs h) (omega arith)

-- ---- the sum

pub clutter_is : (cs : List «V») (gs : List Geometry) (ts : List Trace) (p l : ℕ) → ts ≡ map record_trace gs → p ≡ crossings ts → l ≡ collisions cs ts [] gs → p + l ≡ clutter_of cs gs
unfolding clutter_of
clutter_is cs gs ts p l e ep el = rw (← e) (ap₂ (λ (m n : ℕ). m + n) ep el)
