-- The search for the reverse arrow is exact, and so are bow and curve. Assumes nothing.
use Rattle.std.specs.Prelude.{◌≡◌, refl, Bool, true, false, not, cond, ◌&&◌, ◌||◌, List, [], ◌∷◌, map, ℕ, ◌<◌, eqb, length, get_or, Float}
use Rattle.std.proofs.Common.{sym, ◌∙◌, arith, eqb-true, eq-eqb, ne_eqb, lt-ltb}
use Rattle.std.proofs.Math.Path.{ap, ap₂}
use Rattle.std.proofs.lemmas.List.{length-map}
use Rattle.std.specs.Float.{nan}
use Rattle.std.specs.Float.Ieee.{of_bits}
use Rattle.std.specs.Float.Ieee as Ieee
use Rattle.laws.specs.Chains.{any_list}
use Rattle.laws.specs.Any.{any_of, Somewhere, some_at, at_some, none_at, any_without, any_kept, any_map, none_up, up_none}
use Rattle.laws.specs.Bools.{clash, and_both, not-holds}
use Rattle.laws.specs.Cases.{by_bool}
use Rattle.laws.specs.Lists.{map_at}
use Rattle.float.specs.Ops.{eq}
use Rattle.float.specs.Constants.{f0, f2, f3}
use Rattle.sheet.specs.Sheet.{Arrow, Graph}
use Rattle.sheet.specs.Meaning.{no_arrow, arrow_at, is_kept}
use Rattle.shape.specs.declared.«V».{«V»}
use Rattle.free.specs.declared.Span.{Span}
use Rattle.free.specs.declared.Chord.{Chord}
use Rattle.free.specs.Chords.{chord}
use Rattle.free.specs.Blocked.{blocked}
use Rattle.free.specs.Free.{inside, inside_some}
use Rattle.bend.specs.declared.Routed.{Routed}
use Rattle.bend.specs.Leads.{Ends, leads_from, leads}
use Rattle.bend.specs.Bend.{bend}
use Rattle.bend.specs.Exactly.{is_zero, zero-zero, straight_exactly}
use Rattle.bend.specs.Between.{straight, bowed, with_bow, between}
use Rattle.records.specs.Records.{corners_of}
use Rattle.routing.specs.Routing.{Frame, Numbered, no_ends, is_paired, joined, numbered_at, is_kept_in}
use Rattle.routing.specs.Sheets.{ends_of, ends_by, frame_of}
use Rattle.routing_laws.proofs.Agree.{arrow-inside, arrow_ends, arrow-kept, arrow-apart}
use Rattle.routing_laws.specs.Demand.{Stroke, stroke_of, stroke_by}
use Rattle.routing_laws.proofs.Demand.{records_stroke}
use Rattle.beyond.specs.Beyond.{pair_beyond, is_beyond}
use Rattle.demand3.specs.Demand.{Call, Answered, graph, frame, sizes, Between}
use Rattle.demand3.specs.Proof.{past_records}
use Rattle.demand3.proofs.Claim.{record_drawn, arrow_record_lem, arrow_only}
use Rattle.reverse.specs.Reverse.{ArrowLeads, SomeArrow, without_left_out, without_arrow, searched, centres_of, arrow_in, SearchExact, paired_before, NeverItself, LeftOutUnseen, around_zero, no_span, StraightWhen, bow_of, BowExact, points_at, CurveExact, ReverseArrow}

-- ---- the search

-- x leads from b to a
abbrev leads_back : ℕ → ℕ → Arrow → Bool
leads_back a b x = leads_from b a (ends_of x)

-- over the sheet's own arrows
search_arrows : (g : Graph) (xs ys : List Float) (k a b : ℕ) → searched g xs ys k a b ≡ any_of (leads_back a b) g.arrows
unfolding frame_of leads
search_arrows g xs ys k a b = sym (any_list (leads_from b a) (map ends_of g.arrows)) ∙ any_map (leads_from b a) ends_of g.arrows

-- an arrow that leads back has the states as its ends
back_ends : (a b : ℕ) (x : Arrow) → leads_back a b x ≡ true → (x.source ≡ b) × (x.target ≡ a)
back_ends a b x e = let t = and_both (eqb x.source b) (eqb x.target a) e in (eqb-true _ _ t.0, eqb-true _ _ t.1)

back_leads : (g : Graph) (a b k : ℕ) → ArrowLeads g b a k → leads_back a b (arrow_at g k) ≡ true
back_leads g a b k l = rw (eq-eqb _ _ l.source, eq-eqb _ _ l.target)

-- ---- of all a and b

module _ (g : Graph) (xs ys : List Float) (k a b : ℕ) where
  -- arrow k by its ends
  ends_are : ArrowLeads g a b k → (arrow_in g xs ys k).ends ≡ ends_by a b
  ends_are l = arrow_ends g xs ys k ∙ ap₂ ends_by l.source l.target

  asked_is : ArrowLeads g a b k → is_paired (frame_of g xs ys) (arrow_in g xs ys k) ≡ searched g xs ys k a b
  asked_is l = ap (λ (e : Ends). leads (frame_of g xs ys).arrows e.target e.source) (ends_are l)

  nine_is : ArrowLeads g a b k
      → is_beyond (frame_of g xs ys) (arrow_in g xs ys k) ≡ searched g xs ys k a b && pair_beyond (chord (centres_of g xs ys) a b) (centres_of g xs ys)
  unfolding is_beyond
  nine_is l =
      ap₂ (λ (x y : Bool). x && y) (asked_is l)
      (ap (λ (e : Ends). pair_beyond (chord (centres_of g xs ys) e.source e.target) (centres_of g xs ys)) (ends_are l))

  back_found : searched g xs ys k a b ≡ true → SomeArrow g b a
  back_found e =
      let r : Somewhere (leads_back a b) g.arrows no_arrow = some_at (leads_back a b) g.arrows no_arrow (sym (search_arrows g xs ys k a b) ∙ e) in
      let t = back_ends a b (arrow_at g r.place) r.holds in
      record { arrow = r.place; leads = record { inside = r.inside; source = t.0; target = t.1 } }

  back_sure : SomeArrow g b a → searched g xs ys k a b ≡ true
  back_sure s =
      search_arrows g xs ys k a b
      ∙ at_some (leads_back a b) g.arrows no_arrow (record { place = s.arrow; inside = s.leads.inside; holds = back_leads g a b s.arrow s.leads })

  search_exact : SearchExact g xs ys k a b
  search_exact = record { asked = asked_is; nine = nine_is; found = back_found; sure = back_sure }

  -- ---- an arrow and itself

  never-itself : (i : ℕ) → (a ≡ b → ⊥) → ArrowLeads g a b i → NeverItself g xs ys k a b i
  never-itself i apart l = record {
    other = λ m. apart (sym l.source ∙ m.source);
    same =
        search_arrows (without_arrow i g) xs ys k a b
        ∙ any_without (leads_back a b) g.arrows i no_arrow (rw (ne_eqb (arrow_at g i).source b (λ e. apart (sym l.source ∙ e))))
        ∙ sym (search_arrows g xs ys k a b);
  }

  -- ---- left-out arrows

  module _ (i : a < length g.states) (j : b < length g.states) where
    ends_kept : (x : Arrow) → x.source ≡ b → x.target ≡ a → is_kept g x ≡ true
    ends_kept x e f = rw (e, f, lt-ltb b (length g.states) j, lt-ltb a (length g.states) i)

    left_out_unseen : LeftOutUnseen g xs ys k a b
    left_out_unseen = record {
      none = λ n l. ends_kept (arrow_at g n) l.source l.target;
      same =
          search_arrows (without_left_out g) xs ys k a b
          ∙ any_kept (leads_back a b) (is_kept g) g.arrows (λ x e. let t = back_ends a b x e in ends_kept x t.0 t.1)
          ∙ sym (search_arrows g xs ys k a b);
    }

-- ---- as it was

-- of place k among the sources and the targets
module _ (arrows : List Ends) (a b k : ℕ) (h : k < length arrows) where
  tested_alike : eqb (get_or (map (λ e. e.source) arrows) k 0) a && eqb (get_or (map (λ e. e.target) arrows) k 0) b ≡ leads_from a b (get_or arrows k no_ends)
  tested_alike =
      ap₂ (λ (x y : ℕ). eqb x a && eqb y b) (sym (map_at (λ e. e.source) arrows k no_ends 0 h)) (sym (map_at (λ e. e.target) arrows k no_ends 0 h))

stays_so : (f : Frame) (a : Numbered) → is_paired f a ≡ paired_before f a
unfolding leads
stays_so f a =
    let l = f.arrows in
    let s = a.ends.target in
    let t = a.ends.source in
    let n : length (map (λ e. e.source) l) ≡ length l = length-map l (λ e. e.source) in
    sym (any_list (leads_from s t) l)
    ∙ by_bool (any_of (leads_from s t) l)
    (λ y.
    let r : Somewhere (leads_from s t) l no_ends = some_at (leads_from s t) l no_ends y in
    y ∙ by_bool (paired_before f a) sym
    (λ o. clash r.holds (sym (tested_alike l s t r.place r.inside) ∙ none_up _ 0 _ r.place o (omega arith) (omega (arith, r.inside, n)))))
    (λ y. y ∙ sym (up_none _ 0 _ (λ k i h. let e : k < length l = omega (arith, n) in tested_alike l s t k e ∙ none_at (leads_from s t) l k no_ends y e)))

-- ---- the bow

inside_any : (l : List Span) → inside_some l f0 ≡ any_of around_zero l
unfolding any_of
inside_any [] = refl
inside_any (s ∷ l) = ap (λ (b : Bool). inside s f0 || b) (inside_any l)

module _ (g : Graph) (xs ys : List Float) (k a b : ℕ) where
  abbrev cs : List «V»
  cs = centres_of g xs ys

  abbrev around : List Span
  around = blocked (chord cs a b) cs

  bow_only : is_zero (bow_of g xs ys k a b) ≡ true → StraightWhen g cs a b
  bow_only e =
      let t = and_both (not (searched g xs ys k a b)) (not (inside_some around f0)) (sym (straight_exactly (chord cs a b) cs (searched g xs ys k a b)) ∙ e) in
      record {
        absent = λ s. clash (back_sure g xs ys k a b s) (not-holds _ t.0);
        clear = λ r. clash (inside_any around ∙ at_some around_zero around no_span r) (not-holds _ t.1);
      }

  bow_sure : StraightWhen g cs a b → bow_of g xs ys k a b ≡ f0
  unfolding bend
  bow_sure s =
      by_bool (searched g xs ys k a b) (λ e. absurd (s.absent (back_found g xs ys k a b e)))
      (λ e. by_bool (inside_some around f0) (λ i. absurd (s.clear (some_at around_zero around no_span (sym (inside_any around) ∙ i)))) (λ i. rw (e, i)))

  bow-drawn : ArrowLeads g a b k → joined (frame_of g xs ys) (arrow_in g xs ys k) ≡ with_bow (chord cs a b) (bow_of g xs ys k a b)
  unfolding joined between
  bow-drawn l =
      ap (λ (e : Ends). between cs e.source e.target (leads (frame_of g xs ys).arrows e.target e.source)) (ends_are g xs ys k a b l)

  bow_exact : BowExact g xs ys k a b
  bow_exact = record { sure = bow_sure; only = bow_only; drawn = bow-drawn }

-- ---- the curve

-- the number of points of the curve with a bow
curve_points : (c : Chord) (h : Float) → (corners_of (with_bow c h).curve).n ≡ cond (is_zero h) f2 f3
unfolding with_bow straight bowed
curve_points c h = by_bool (is_zero h) (λ t. rw t) (λ t. rw t)

pub two_points : eq f2 f2 ≡ true
unfolding Ieee.eq of_bits
two_points = refl

pub three_points : eq f3 f2 ≡ false
unfolding Ieee.eq of_bits
three_points = refl

module _ (c : Call) (q : Answered c) (e : ℕ) (w : Between (graph c) e) where
  abbrev source : ℕ
  source = (arrow_at (graph c) e).source

  abbrev target : ℕ
  target = (arrow_at (graph c) e).target

  abbrev bow : Float
  bow = bow_of (graph c) c.xs c.ys e source target

  exact : BowExact (graph c) c.xs c.ys e source target
  exact = bow_exact (graph c) c.xs c.ys e source target

  in_frame : e < length (frame c).arrows
  in_frame = arrow-inside (graph c) c.xs c.ys e w.inside

  in_records : is_kept_in (frame c) (numbered_at (frame c) e) ≡ true
  in_records = arrow-kept (graph c) c.xs c.ys e w.source w.target

  -- the curve in its record
  its_stroke : stroke_of (record_drawn c q e in_frame in_records) ≡ stroke_by (joined (frame c) (numbered_at (frame c) e))
  its_stroke =
      ap (λ (l : List Stroke). get_or l 0 (stroke_of (past_records c)))
      (sym (ap (map stroke_of) (arrow_only c q e in_frame in_records))
      ∙ records_stroke (frame c) (sizes c) e in_frame (arrow-apart (graph c) c.xs c.ys e w.apart)
      ∙ ap (λ (b : Bool). cond b (stroke_by (joined (frame c) (numbered_at (frame c) e)) ∷ []) []) in_records)

  points_are : points_at c e ≡ cond (is_zero bow) f2 f3
  points_are =
      ap (λ (l : List Float). get_or l 1 nan) (arrow_record_lem c q e in_frame in_records)
      ∙ ap (λ (s : Stroke). (corners_of s.curve).n) its_stroke
      ∙ ap (λ (r : Routed). (corners_of r.curve).n) (exact.drawn (record { inside = w.inside; source = refl; target = refl }))
      ∙ curve_points _ bow

  curve_exact : CurveExact c e
  curve_exact = record {
    line = λ s. points_are ∙ ap (λ (h : Float). cond (is_zero h) f2 f3) (exact.sure s) ∙ ap (λ (b : Bool). cond b f2 f3) zero-zero;
    only = λ p. by_bool (is_zero bow) exact.only
        (λ z. clash two_points (ap (λ (v : Float). eq v f2) (sym p ∙ points_are ∙ ap (λ (b : Bool). cond b f2 f3) z) ∙ three_points));
    arc = λ n. by_bool (is_zero bow) (λ z. absurd (n (exact.only z))) (λ z. points_are ∙ ap (λ (b : Bool). cond b f2 f3) z);
  }

-- for every graph, all centres, and every call that is answered
pub reverse_arrow : ReverseArrow
reverse_arrow = record { search = search_exact; stays = stays_so; itself = never-itself; left_out = left_out_unseen; bow = bow_exact; curve = curve_exact }
