-- What one arrow leaves, and the first i arrows. Assumes nothing.
use mathlib.Core.Path.{◌≡◌, refl, sym, ap, ap₂, ◌∙◌}
use mathlib.Core.Bool.{true, false, cond, true≢false}
use mathlib.Core.List.{List, [], ◌∷◌, ◌++◌, map, flat_map, append-nil, append_assoc}
use Prim.Native.Nat.{ℕ, suc, ◌+◌, ◌≤◌, ◌<◌}
use native.Mathlib.Numerals.{add-one}
use borrow.Author.Tests.{eqb-true, ne_eqb}
use Rattle.std.proofs.Common.{drop-cons, drop_of_length-le}
use lib.Dec.{eqb}
use lib.ListN.{length, get_or, drop}
use lib.Ieee.{Float, nan, inf, fin}
use lib.Ieee.Scale.{finite}
use Rattle.laws.specs.Cases.{by_bool}
use Rattle.float.specs.Constants.{f0}
use Rattle.shape.specs.declared.«V».{«V»}
use Rattle.trace.specs.Traces.{Trace, nobody, trace_of}
use Rattle.shape.specs.Centres.{centre}
use Rattle.routing.specs.Routing.{Frame, Ends, numbered, numbered_from, numbered_by, is_kept_in, is_loop, joined, start_curve, start_traces}
use Rattle.routing.specs.Sheets.{or_zero}
use Rattle.routing_laws.specs.Passes.{traces_of}
use Rattle.routing_laws.proofs.Order.{first_scene_lem, routes-each}
use Rattle.routing_laws.specs.Order.{routes_of}
use Rattle.routing_laws.specs.Rim.{route_meets}
use Rattle.laws.specs.Joined.{flat_flat}
use Rattle.std.proofs.lemmas.Bool.{eqb-false}
use Rattle.float.specs.Constants.{π}
use Rattle.sheet.specs.Meaning.{is_start}
use Rattle.directions.specs.Rims.{leave_angle, reach_angle}
use Rattle.routing.specs.Routing.{rim}
use Rattle.curves.specs.declared.Laid.{Laid}
use Rattle.curves.specs.Lay.{laid_by, laid_of, traces_laid, laid_traces, first_traces, crossing_by, met_by, all_met}
use Rattle.curves.specs.Traces.{starts-step, starts-past}

-- ---- the traces of the arrows

one_laid : (f : Frame) (n : ℕ) (e : Ends) → traces_laid n (laid_by f e) ≡ traces_of f (numbered_by n e)
unfolding laid_by traces_of joined
one_laid f n e =
    by_bool (is_kept_in f (numbered_by n e))
    (λ k. by_bool (is_loop (numbered_by n e)) (λ l. rw (k, l)) (λ l. rw (k, l)))
    (λ k. rw k)

laid_from : (f : Frame) (n : ℕ) (es : List Ends) → laid_traces n (map (laid_by f) es) ≡ flat_map (traces_of f) (numbered_from n es)
unfolding laid_traces flat_map numbered_from
laid_from f n [] = refl
laid_from f n (e ∷ es) = ap₂ (λ (p q : List Trace). p ++ q) (one_laid f n e) (laid_from f (suc n) es)

pub first_are : (f : Frame) → laid_traces 0 (laid_of f) ++ start_traces f.flags f.centres ≡ first_traces f
first_are f = ap (λ (l : List Trace). l ++ start_traces f.flags f.centres) (laid_from f 0 f.arrows) ∙ sym (ap (λ s. s.traces) (first_scene_lem f))

-- ---- one after another

pub map_more : {A B : Type 0} (g : A → B) (xs : List A) (i : ℕ) (x : A) (p q r : List B) → i < length xs → x ≡ get_or xs i x → q ≡ p ++ (g x ∷ [])
    → p ++ map g (drop i xs) ≡ r → q ++ map g (drop (i + 1) xs) ≡ r
map_more g xs i x p q r h w e k =
    ap (λ y. y ++ map g (drop (i + 1) xs)) e
    ∙ append_assoc p (g x ∷ []) (map g (drop (i + 1) xs))
    ∙ ap (p ++◌) (rw (drop-cons xs i x h, ← w, add-one))
    ∙ k

pub map_end : {A B : Type 0} (g : A → B) (xs : List A) (i : ℕ) (p r : List B) → length xs ≤ i → p ++ map g (drop i xs) ≡ r → p ≡ r
map_end g xs i p r h k = sym (append-nil p) ∙ (rw (drop_of_length-le xs h) at k)

pub laid_more : (ls : List Laid) (i : ℕ) (l : Laid) (p q r : List Trace) → i < length ls → l ≡ get_or ls i l → q ≡ p ++ traces_laid i l
    → p ++ laid_traces i (drop i ls) ≡ r → q ++ laid_traces (i + 1) (drop (i + 1) ls) ≡ r
unfolding laid_traces
laid_more ls i l p q r h w e g =
    ap (λ (x : List Trace). x ++ laid_traces (i + 1) (drop (i + 1) ls)) e
    ∙ append_assoc p (traces_laid i l) (laid_traces (i + 1) (drop (i + 1) ls))
    ∙ ap (p ++◌) (rw (drop-cons ls i l h, ← w, add-one))
    ∙ g

pub laid_end : (ls : List Laid) (i : ℕ) (p r : List Trace) → length ls ≤ i → p ++ laid_traces i (drop i ls) ≡ r → p ≡ r
unfolding laid_traces
laid_end ls i p r h g = sym (append-nil p) ∙ (rw (drop_of_length-le ls h) at g)

-- ---- a number that is not finite
pub finite_yes : (v : Float) → finite v ≡ true → v ≡ or_zero v
finite_yes nan e = absurd (true≢false (sym e))
finite_yes (inf s) e = absurd (true≢false (sym e))
finite_yes (fin s m e) h = refl

pub finite_no : (v : Float) → finite v ≡ false → f0 ≡ or_zero v
finite_no nan e = refl
finite_no (inf s) e = refl
finite_no (fin s m e) h = absurd (true≢false h)

-- ---- start arrows
pub start_yes : (flag : ℕ) (c : «V») → is_start flag ≡ true → start_traces (flag ∷ []) (c ∷ []) ≡ trace_of nobody (start_curve c) ∷ []
start_yes flag c e = rw e

pub start_no : (flag : ℕ) (c : «V») → is_start flag ≡ false → start_traces (flag ∷ []) (c ∷ []) ≡ []
start_no flag c e = rw e

pub starts_more : (flags : List ℕ) (cs : List «V») (k : ℕ) (p q r : List Trace) → length cs ≡ length flags → k < length flags
    → q ≡ p ++ start_traces (get_or flags k 0 ∷ []) (centre cs k ∷ []) → p ++ start_traces (drop k flags) (drop k cs) ≡ r
    → q ++ start_traces (drop (k + 1) flags) (drop (k + 1) cs) ≡ r
starts_more flags cs k p q r n h e g =
    ap (λ (x : List Trace). x ++ start_traces (drop (k + 1) flags) (drop (k + 1) cs)) e
    ∙ append_assoc p (start_traces (get_or flags k 0 ∷ []) (centre cs k ∷ [])) (start_traces (drop (k + 1) flags) (drop (k + 1) cs))
    ∙ ap (p ++◌) (sym (starts-step flags cs k n h))
    ∙ g

pub starts_end : (flags : List ℕ) (cs : List «V») (k : ℕ) (p r : List Trace) → length flags ≤ k → p ++ start_traces (drop k flags) (drop k cs) ≡ r → p ≡ r
starts_end flags cs k p r h g = sym (append-nil p) ∙ (rw (starts-past flags cs k h) at g)

-- ---- rims

-- an arrow between different states meets the rim of state k at one end at most
apart_met : (k s t : ℕ) (cs : List «V») (g h : «V» → Float) → eqb s t ≡ false
    → cond (eqb s k) (g (centre cs k) ∷ []) [] ++ cond (eqb t k) (h (centre cs k) ∷ []) []
    ≡ cond (eqb s k) (g (centre cs s) ∷ []) (cond (eqb t k) (h (centre cs t) ∷ []) [])
apart_met k s t cs g h d =
    by_bool (eqb s k)
    (λ q.
    let e : s ≡ k = eqb-true s k q in
    rw (q, ne_eqb t k (λ z. eqb-false s t d (e ∙ sym z))) (ap (λ (m : ℕ). g (centre cs m) ∷ []) (sym e)))
    (λ q. rw q (by_bool (eqb t k) (λ w. rw w (ap (λ (m : ℕ). h (centre cs m) ∷ []) (sym (eqb-true t k w)))) (λ w. rw w)))

one_met : (f : Frame) (k n : ℕ) (e : Ends) → flat_map (route_meets f k) (routes_of f (numbered_by n e)) ≡ met_by k e (laid_by f e)
unfolding flat_map laid_by joined
one_met f k n e =
    by_bool (is_kept_in f (numbered_by n e))
    (λ q.
    by_bool (is_loop (numbered_by n e))
    (λ l. rw (q, l))
    (λ l.
    let c = (crossing_by f e).routed.curve in
    rw (q, l)
    (append-nil _
    ∙ apart_met k e.source e.target f.centres (leave_angle c) (reach_angle c) l)))
    (λ q. rw q)

met_from : (f : Frame) (k n : ℕ) (es : List Ends)
    → all_met k es (map (laid_by f) es) ≡ flat_map (λ a. flat_map (route_meets f k) (routes_of f a)) (numbered_from n es)
unfolding all_met flat_map numbered_from
met_from f k n [] = refl
met_from f k n (e ∷ es) = ap₂ (λ (p q : List Float). p ++ q) (sym (one_met f k n e)) (met_from f k (suc n) es)

pub rim_met : (f : Frame) (k : ℕ) → all_met k f.arrows (laid_of f) ++ cond (is_start (get_or f.flags k 0)) (π ∷ []) [] ≡ rim f k
unfolding rim
rim_met f k =
    ap (λ (l : List Float). l ++ cond (is_start (get_or f.flags k 0)) (π ∷ []) [])
    (met_from f k 0 f.arrows
    ∙ sym (flat_flat (route_meets f k) (routes_of f) (numbered f))
    ∙ ap (flat_map (route_meets f k)) (sym (routes-each f)))

module _ (f : Frame) (k : ℕ) (old m : List Float) (ls : List Laid) (w : ls ≡ laid_of f) (o : old ≡ []) (e : m ≡ old ++ all_met k f.arrows ls) where
  met_all : m ++ cond (is_start (get_or f.flags k 0)) (π ∷ []) [] ≡ rim f k
  met_all =
      ap (λ (l : List Float). l ++ cond (is_start (get_or f.flags k 0)) (π ∷ []) [])
      (e ∙ ap (λ (x : List Float). x ++ all_met k f.arrows ls) o ∙ ap (all_met k f.arrows) w)
      ∙ rim_met f k

  pub rim_start : (t : List Float) → is_start (get_or f.flags k 0) ≡ true → t ≡ m ++ (π ∷ []) → t ≡ rim f k
  rim_start t s g = g ∙ (rw s at met_all)

  pub rim_other : is_start (get_or f.flags k 0) ≡ false → m ≡ rim f k
  rim_other s = sym (append-nil m) ∙ (rw s at met_all)

pub met_more : (k : ℕ) (es : List Ends) (ls : List Laid) (i : ℕ) (e : Ends) (l : Laid) (p q r : List Float) → i < length es → i < length ls
    → e ≡ get_or es i e → l ≡ get_or ls i l → q ≡ p ++ met_by k e l
    → p ++ all_met k (drop i es) (drop i ls) ≡ r → q ++ all_met k (drop (i + 1) es) (drop (i + 1) ls) ≡ r
unfolding all_met
met_more k es ls i e l p q r h j v w s g =
    ap (λ (x : List Float). x ++ all_met k (drop (i + 1) es) (drop (i + 1) ls)) s
    ∙ append_assoc p (met_by k e l) (all_met k (drop (i + 1) es) (drop (i + 1) ls))
    ∙ ap (p ++◌) (rw (drop-cons es i e h, drop-cons ls i l j, ← v, ← w, add-one))
    ∙ g

pub met_end : (k : ℕ) (es : List Ends) (ls : List Laid) (i : ℕ) (p r : List Float) → length es ≤ i → p ++ all_met k (drop i es) (drop i ls) ≡ r → p ≡ r
unfolding all_met
met_end k es ls i p r h g = sym (append-nil p) ∙ (rw (drop_of_length-le es h) at g)
