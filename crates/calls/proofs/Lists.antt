-- Laying out and listing, from what planning and drawing a sheet give. Assumes nothing.
use Rattle.std.specs.Prelude.{◌≡◌, Bool, not, ◌&&◌, ◌||◌, List, [], ◌∷◌, ℕ, ◌≤◌, ltb, length, take, Float}
use Rattle.std.proofs.Common.{refl, sym, ap, ◌∙◌, arith, ltb-false}
use Rattle.std.proofs.lemmas.List.{length-map}
use Rattle.laws.specs.Cases.{by_bool}
use Rattle.laws.specs.Filled.{front_is}
use Rattle.laws.specs.Put.{put}
use Rattle.laws.specs.Zip.{zip_length}
use Rattle.laws.specs.Refusals.{Refusal, refusal, decide, Clear, First, FirstOrClear, stops, goes, first_or_clear, clear_none, clear_from, first_decides, clear_decides, first-joined, clear-joined}
use Rattle.sheet.specs.Sheet.{meaning, flags_of}
use Rattle.sheet.specs.Refusals.{refusals}
use Rattle.sheet.specs.Accepted.{OnMainScreen}
use Rattle.sheet.specs.declared.Limits.{Limits}
use Rattle.shape.specs.declared.«V».{«V»}
use Rattle.shape.specs.Plane.{vec}
use Rattle.shape.specs.Centres.{centres}
use Rattle.label_spots.specs.declared.Geometry.{Geometry}
use Rattle.beyond.specs.Beyond.{beyond}
use Rattle.routing.specs.Sheets.{frame_of}
use Rattle.totals.specs.declared.Totals.{Totals}
use Rattle.totals.specs.Totals.{totals_of}
use Rattle.drawing_text.specs.Lines.{list_text, list_writable}
use Rattle.draw.specs.Drawn.{xs_of, ys_of, far_centre, draw_refusals}
use Rattle.draw.specs.Given.{xs_centres, ys_centres}
use Rattle.layout.specs.Layout.{plan_of, last_kind}
use Rattle.plan.specs.Measured.{layout_beyond}
use Rattle.layout.specs.Alike.{layout-whole}
use Rattle.plan.specs.Planned.{plan_refusals, size_of, planned, centres_planned}
use Rattle.fit.specs.declared.Size.{Size}
use Rattle.calls.specs.Calls.{Outcome, number, values, capped_limits, drawn_of, onto, layout_for, layout, xs_after, ys_after, listing, listing_writable, list_refusals, list, list_after}
use Rattle.calls.specs.Laws.{accepted_shown}
use Rattle.calls.specs.Decided.{refused-first, answered-clear}
use Rattle.outputs.specs.Answers.{place_refusals, text_refusals, PlacedInto, WrittenInto}
use Rattle.calls.specs.Drawing.{drawing_at}
use Rattle.calls.specs.Listed.{listing_at, listed_after}
use Rattle.calls.proofs.Held.{DrawingHeld, draw_stopped}

-- ---- what the answer says of the refusals

-- the layout, with its centres
pub record Laid (s : List ℕ) (m : Limits) (kind n : ℕ) (z : Size) (cs : List «V») : Type 0 where
  pub clear : Clear (plan_refusals (capped_limits m) kind s)
  pub many : n ≡ length (meaning s).states
  pub few : n ≤ 64
  pub wide : z.width ≡ (layout_for s kind).width
  pub high : z.height ≡ (layout_for s kind).height
  pub placed : cs ≡ centres (layout_for s kind).xs (layout_for s kind).ys
  pub xs_are : xs_of cs ≡ (layout_for s kind).xs
  pub ys_are : ys_of cs ≡ (layout_for s kind).ys
  pub centres_many : length cs ≡ n

module _ (s : List ℕ) (m : Limits) (kind : ℕ) where
  abbrev planning : List Refusal
  planning = plan_refusals (capped_limits m) kind s

  shown_by : Clear planning → OnMainScreen (meaning s)
  shown_by c = accepted_shown m s (clear_from (refusals (capped_limits m) s) [] planning clear_none c refl)

  -- by what planning under the limits that count has answered and left
  module _ {k : Limits} (c : k ≡ capped_limits m) where
    pub planning-refused : (n : ℕ) → number n ≡ planned k kind s → First planning n
    planning-refused n e = refused-first planning _ n (e ∙ ap (λ (l : Limits). planned l kind s) c)

    plan-clear : (n : ℕ) (z : Size) → values (n, z) ≡ planned k kind s → Clear planning × ◌≡◌ {A = ℕ × Size} (n, z) (length (meaning s).states, size_of kind (meaning s))
    plan-clear n z e = answered-clear planning _ (n, z) (e ∙ ap (λ (l : Limits). planned l kind s) c)

    -- an accepted sheet has at most 64 states
    pub few_states : (n : ℕ) (z : Size) → values (n, z) ≡ planned k kind s → n ≤ 64
    few_states n z e =
        let p = plan-clear n z e in
        let r : n ≡ length (meaning s).states = ap (λ (t : ℕ × Size). t.0) p.1 in
        omega (arith, (shown_by p.0).states)

    pub laid : (n : ℕ) (z : Size) (before after : List «V») → 64 ≤ length before → values (n, z) ≡ planned k kind s
        → after ≡ centres_planned k kind s before → Laid s m kind n z (take n after)
    laid n z before after room e f =
        let p = plan-clear n z e in
        let d : Clear planning = p.0 in
        let q : OnMainScreen (meaning s) = shown_by d in
        let r : n ≡ length (meaning s).states = ap (λ (t : ℕ × Size). t.0) p.1 in
        let l = layout_for s kind in
        let w = layout-whole kind (meaning s) (ltb-false last_kind kind (d.none 11)) in
        let same : length l.ys ≡ length l.xs = w.1 ∙ sym w.0 in
        let t : length (centres l.xs l.ys) ≡ length (meaning s).states = zip_length vec l.xs l.ys same ∙ w.0 in
        let y : after ≡ put before 0 (centres l.xs l.ys) = f ∙ ap (λ (l : Limits). centres_planned l kind s before) c
        ∙ clear_decides (λ j. before) _ planning d in
        let x : take n after ≡ centres l.xs l.ys = front_is before (centres l.xs l.ys) n after (r ∙ sym t) (omega (arith, q.states)) y in
        record {
          clear = d;
          many = r;
          few = omega (arith, q.states);
          wide = ap (λ (t : ℕ × Size). t.1.width) p.1;
          high = ap (λ (t : ℕ × Size). t.1.height) p.1;
          placed = x;
          xs_are = ap xs_of x ∙ xs_centres l.xs l.ys same;
          ys_are = ap ys_of x ∙ ys_centres l.xs l.ys same;
          centres_many = ap length x ∙ t ∙ sym r;
        }

  -- ---- layout

  module _ (xs ys : List Float) where
    -- r is answered, and a and b stand in the lent slices
    abbrev pub Layouts : Outcome (ℕ × Float × Float) → List Float → List Float → Type 0
    Layouts r a b =
        (r ≡ layout s m kind (length xs) (length ys))
        × (a ≡ xs_after s m kind xs (length ys))
        × (b ≡ ys_after s m kind (length xs) ys)

    abbrev placing : List Refusal
    placing = place_refusals (layout_for s kind).xs (layout_for s kind).ys (length xs) (length ys)

    pub layout-refused : (n : ℕ) → First planning n → Layouts (number n) xs ys
    unfolding layout xs_after ys_after
    layout-refused n f =
        (sym (first-joined number _ planning placing n f), sym (first-joined (λ j. xs) _ planning placing n f), sym (first-joined (λ j. ys) _ planning placing n f))

    pub layout_laid : (n : ℕ) (z : Size) (cs : List «V») → Laid s m kind n z cs → (r : Outcome (ℕ × Float × Float)) (a b : List Float)
        → PlacedInto (xs_of cs) (ys_of cs) z.width z.height xs ys r a b → Layouts r a b
    unfolding layout xs_after ys_after
    layout_laid n z cs l r a b f =
        let p = layout_for s kind in
        let q : length p.xs ≡ length (meaning s).states = sym (ap length l.xs_are) ∙ length-map cs (λ c. c.x) ∙ l.centres_many ∙ l.many in
        let g : PlacedInto p.xs p.ys p.width p.height xs ys r a b = rw (l.xs_are, l.ys_are, l.wide, l.high) at f in (
          g.0
              ∙ ap (λ (k : ℕ). decide placing number (values (k, p.width, p.height))) q
              ∙ sym (clear-joined number _ planning placing l.clear),
          g.1 ∙ sym (clear-joined (λ j. xs) (onto p.xs xs) planning placing l.clear),
          g.2 ∙ sym (clear-joined (λ j. ys) (onto p.ys ys) planning placing l.clear),
        )

  -- ---- listing

  abbrev head : List Refusal
  head = refusal 11 (ltb last_kind kind) ∷ refusals (capped_limits m) s

  abbrev last : List Refusal
  last = refusal 9 (layout_beyond kind (plan_of (meaning s))) ∷ []

  abbrev far : Bool
  far = far_centre (length (meaning s).states) (layout_for s kind).xs (layout_for s kind).ys

  abbrev pairs : Bool
  pairs = beyond (frame_of (meaning s) (layout_for s kind).xs (layout_for s kind).ys)

  abbrev drawing : List Refusal
  drawing = draw_refusals (capped_limits m) s (layout_for s kind).xs (layout_for s kind).ys

  abbrev writing : ℕ → List Refusal
  writing room = text_refusals (listing_writable s kind) (listing s kind) room

  abbrev tail : ℕ → List Refusal
  tail room =
      refusal 8 (not (layout_beyond kind (plan_of (meaning s))) && far)
      ∷ refusal 9 (layout_beyond kind (plan_of (meaning s)) || pairs)
      ∷ writing room

  -- the refusals as they are met, one after another: they decide as in the order of the definition
  module _ (room : ℕ) {A : Type 0} (refuse : ℕ → A) (answer : A) where
    tails : Clear (refusals (capped_limits m) s) → decide (tail room) refuse answer ≡ decide last refuse (decide drawing refuse (decide (writing room) refuse answer))
    unfolding decide
    tails c =
        let w : A = decide (writing room) refuse answer in
        let e : decide drawing refuse w ≡ decide (refusal 8 far ∷ refusal 9 pairs ∷ []) refuse w = clear-joined refuse w (refusals (capped_limits m) s) (refusal 8 far ∷ refusal 9 pairs ∷ []) c in
        by_bool (layout_beyond kind (plan_of (meaning s))) (λ t. rw t) (λ t. rw t (sym e))

    met_by_lem : FirstOrClear head → decide (list_refusals s m kind room) refuse answer ≡ decide planning refuse (decide drawing refuse (decide (writing room) refuse answer))
    met_by_lem (stops n f) = first-joined refuse answer head (tail room) n f ∙ sym (first-joined refuse _ head last n f)
    met_by_lem (goes c) =
        clear-joined refuse answer head (tail room) c
        ∙ tails (clear_from (refusals (capped_limits m) s) [] head clear_none c refl)
        ∙ sym (clear-joined refuse _ head last c)

    pub list-met : decide (list_refusals s m kind room) refuse answer ≡ decide planning refuse (decide drawing refuse (decide (writing room) refuse answer))
    list-met = met_by_lem (first_or_clear head)

  module _ (out : List ℕ) where
    -- r is answered, and b stands in the lent slice
    abbrev pub Lists : Outcome ℕ → List ℕ → Type 0
    Lists r b = (r ≡ list s m kind (length out)) × (b ≡ list_after s m kind out)

    pub list-refused : (n : ℕ) → First planning n → Lists (number n) out
    unfolding list list_after
    list-refused n f = (
      sym (list-met (length out) number (values (length (listing s kind))) ∙ first_decides number _ planning n f),
      sym (list-met (length out) (λ j. out) (onto (listing s kind) out) ∙ first_decides (λ j. out) _ planning n f),
    )

    pub list_laid : {k : Limits} → k ≡ capped_limits m → (n : ℕ) (z : Size) (cs : List «V») → Laid s m kind n z cs → (r : Outcome ℕ) (b : List ℕ)
        → r ≡ listing_at k s z.width z.height cs (length out) → b ≡ listed_after k s z.width z.height cs out → Lists r b
    unfolding list list_after
    list_laid c n z cs l r b e f = (
      rw (c, l.xs_are, l.ys_are, l.placed, l.wide, l.high) at e
          ∙ sym (list-met (length out) number (values (length (listing s kind))) ∙ clear_decides number _ planning l.clear),
      rw (c, l.xs_are, l.ys_are, l.placed, l.wide, l.high) at f
          ∙ sym (list-met (length out) (λ j. out) (onto (listing s kind) out) ∙ clear_decides (λ j. out) _ planning l.clear),
    )

-- ---- listing at centres

module _ (s : List ℕ) (k : Limits) (w h : Float) (cs : List «V») (out : List ℕ) where
  -- r is answered, and b stands in the lent slice
  abbrev pub ListsAt : Outcome ℕ → List ℕ → Type 0
  ListsAt r b = (r ≡ listing_at k s w h cs (length out)) × (b ≡ listed_after k s w h cs out)

  abbrev drawn : List Refusal
  drawn = draw_refusals k s (xs_of cs) (ys_of cs)

  pub at-refused : (n : ℕ) → number n ≡ drawing_at k s (xs_of cs) (ys_of cs) → ListsAt (number n) out
  at-refused n e =
      let f : First drawn n = draw_stopped s k (xs_of cs) (ys_of cs) n e in
      (sym (first_decides number _ drawn n f), sym (first_decides (λ j. out) _ drawn n f))

  pub at-drawn : (gs : List Geometry) → DrawingHeld s k (xs_of cs) (ys_of cs) gs → (flags : List ℕ) → flags ≡ flags_of (meaning s)
      → (totals : Totals) → totals ≡ totals_of (meaning s) gs → (r : Outcome ℕ) (b : List ℕ)
      → WrittenInto (list_writable w h cs flags gs totals) (list_text w h cs flags gs totals) out r b → ListsAt r b
  at-drawn gs d flags e totals q r b f =
      let hs = drawn_of s (xs_of cs) (ys_of cs) in
      let all = totals_of (meaning s) hs in
      let g : WrittenInto (list_writable w h cs (flags_of (meaning s)) hs all) (list_text w h cs (flags_of (meaning s)) hs all) out r b = rw (e, q, d.whole) at f in
      (g.0 ∙ sym (clear_decides number _ drawn d.clear), g.1 ∙ sym (clear_decides (λ j. out) _ drawn d.clear))
