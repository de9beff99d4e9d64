-- Document 01, 'Worked drawings': "Sheet: a start state, a second state, an arrow 0 to 1 with the line `a`. Output, whole". What `layout`, `route` and `list` answer and leave of it, under all limits that allow it. Assumes nothing.
use Rattle.std.specs.Prelude.{◌≡◌, refl, Bool, false, not, ◌&&◌, ◌||◌, ℕ, ◌≤◌, take, replicate, Float}
use Rattle.std.proofs.Math.Path.{ap, ap₂}
use Rattle.std.proofs.Common.{◌∙◌, arith, le-ltb}
use mathlib.Core.List.{List, flat_map}
use Rattle.std.proofs.Math.ListN.{length}
use Rattle.laws.specs.Loops.{over, any_for, any_up}
use Rattle.laws.specs.Refusals.{decide, Clear, clear_none, without, clear_from, clear_decides}
use Rattle.laws.specs.Any.{any_of}
use Rattle.laws.specs.Bools.{or_none}
use Rattle.float.specs.Constants.{whole}
use Rattle.sheet.specs.Sheet as Sheet
use Rattle.sheet.specs.Sheet.{Graph, meaning, flags_of}
use Rattle.sheet.specs.Refusals as Refusals
use Rattle.sheet.specs.Refusals.{service_panel, AtMost, refusals, check_of}
use Rattle.sheet.specs.Order.{accepted_exactly}
use Rattle.sheet.specs.declared.Limits.{Limits}
use Rattle.sheet.specs.Examples.{empty_sheet, small, empty_graph, small_graph, empty_means, small_means}
use Rattle.shape.specs.Centres.{centres}
use Rattle.beyond.specs.Beyond.{beyond}
use Rattle.routing.specs.Sheets.{frame_of, records_of}
use Rattle.totals.specs.Totals.{totals_of}
use Rattle.drawing_text.specs.Lines.{paths_text, paths_writable, list_text, list_writable}
use Rattle.drawing_text.specs.Worked.{worked_listing}
use Rattle.draw.specs.Drawn.{far_centre}
use Rattle.layout.specs.Layout.{Layout, plan_of, layout_of}
use Rattle.plan.specs.Measured.{layout_beyond}
use Rattle.calls.specs.Laws.{clear-capped}
use Rattle.calls.specs.Calls.{number, values, main_screen, capped_limits, short, onto, drawn_of, numbers_of, route_refusals, route, text_after, layout_for, layout_refusals, layout, xs_after, ys_after, listing, listing_writable, list_refusals, list, list_after}
use Rattle.demand3.specs.Demand.{Answered}
use Rattle.listing_shows.specs.Shown.{Lent, ListAnswered, LayoutAnswered, route_call}
use Rattle.worked_calls.specs.Numbers.{small_xs, small_ys, small_layout, path, small_records, empty_layout, empty_listing, AutoListed, computed}

-- limits that the worked sheet is just within
abbrev pub small_limits : Limits
small_limits = record { states = 2; arrows = 1; lines = 1 }

-- with every lent slice that is long enough
pub record WorkedCalls (k : Limits) : Type 0 where
  -- `layout` as Auto: `size 244 76`, `state 0 66 38`, `state 1 206 38`
  pub lays : (n b : ℕ) → 2 ≤ n → 2 ≤ b → layout small k 0 n b ≡ values (2, whole 244, whole 76)
  pub across : (l : List Float) (b : ℕ) → 2 ≤ length l → 2 ≤ b → xs_after small k 0 l b ≡ onto small_xs l
  pub down : (n : ℕ) (l : List Float) → 2 ≤ n → 2 ≤ length l → ys_after small k 0 n l ≡ onto small_ys l
  -- `route` at those centres: one record, and its path
  pub routes : (n b : ℕ) → 20 ≤ n → 17 ≤ b → route small k small_xs small_ys n b ≡ values (20, 17)
  pub paths : (n : ℕ) (t : List ℕ) → 20 ≤ n → 17 ≤ length t → text_after small k small_xs small_ys n t ≡ onto path t
  -- `list` as Auto: the output, whole
  pub lists : (n : ℕ) → 196 ≤ n → list small k 0 n ≡ values 196
  pub text : (out : List ℕ) → 196 ≤ length out → list_after small k 0 out ≡ onto worked_listing out

-- a sheet without records, under any limits
pub record WorkedEmpty (k : Limits) : Type 0 where
  pub lists : (n : ℕ) → 27 ≤ n → list empty_sheet k 0 n ≡ values 27
  pub text : (out : List ℕ) → 27 ≤ length out → list_after empty_sheet k 0 out ≡ onto empty_listing out

-- ---- what refuses nothing

small_accepted : check_of small_limits small ≡ values tt
unfolding decide Refusals.check_of flat_map over any_for any_up any_of Refusals.repeats Refusals.is_set Refusals.wrong_record Refusals.wrong_bytes Refusals.indices Refusals.wrong_chains Refusals.large_arrow Refusals.over_limits Refusals.ill_arrow Refusals.ill_formed Sheet.chain_by Sheet.met_line Sheet.met_arrow Sheet.met Sheet.line_of Sheet.lines_from Sheet.arrow_of Sheet.states_of Sheet.arrows_of
small_accepted = refl

small-clear : (k : Limits) → AtMost small_limits k → Clear (refusals (capped_limits k) small)
small-clear k a =
    clear-capped small_limits k small a (record { states = omega arith; arrows = omega arith; lines = omega arith }) ((accepted_exactly small_limits small).0 small_accepted)

-- limits of nothing
abbrev no_limits : Limits
no_limits = record { states = 0; arrows = 0; lines = 0 }

empty_accepted : check_of no_limits empty_sheet ≡ values tt
unfolding decide Refusals.check_of flat_map any_for any_up any_of Refusals.repeats Refusals.is_set Refusals.wrong_bytes Refusals.indices Refusals.wrong_chains Refusals.over_limits Refusals.ill_formed Sheet.chain_by Sheet.met Sheet.states_of Sheet.arrows_of
empty_accepted = refl

empty-clear : (k : Limits) → Clear (refusals (capped_limits k) empty_sheet)
empty-clear k =
    let none : (m : Limits) → AtMost no_limits m = λ m. record { states = omega arith; arrows = omega arith; lines = omega arith } in
    clear-capped no_limits k empty_sheet (none k) (none main_screen) ((accepted_exactly no_limits empty_sheet).0 empty_accepted)

-- a sheet that means a graph listed as Auto
module _ (s : List ℕ) (k : Limits) (g : Graph) (p : Layout) (t : List ℕ) (clear : Clear (refusals (capped_limits k) s)) (means : meaning s ≡ g) (c : AutoListed g p t) where
  lay : layout_for s 0 ≡ p
  lay = ap (λ (g : Graph). layout_of 0 (plan_of g)) means ∙ c.laid

  listing_is : listing s 0 ≡ t
  listing_is =
      ap₂ (λ (g : Graph) (l : Layout). list_text l.width l.height (centres l.xs l.ys) (flags_of g) (records_of g l.xs l.ys) (totals_of g (records_of g l.xs l.ys))) means lay
      ∙ c.text

  list-clear : (n : ℕ) → length t ≤ n → Clear (list_refusals s k 0 n)
  list-clear n h =
      let m : Graph = meaning s in
      let q : Layout = layout_for s 0 in
      let near : (not (layout_beyond 0 (plan_of m)) && far_centre (length m.states) q.xs q.ys) ≡ false =
      ap₂ (λ (g : Graph) (l : Layout). not (layout_beyond 0 (plan_of g)) && far_centre (length g.states) l.xs l.ys) means lay
      ∙ ap₂ (λ (a b : Bool). not a && b) c.within c.near in
      let single : (layout_beyond 0 (plan_of m) || beyond (frame_of m q.xs q.ys)) ≡ false =
      ap₂ (λ (g : Graph) (l : Layout). layout_beyond 0 (plan_of g) || beyond (frame_of g l.xs l.ys)) means lay
      ∙ or_none _ _ c.within c.single in
      let ok : not (listing_writable s 0) ≡ false =
      ap₂ (λ (g : Graph) (l : Layout). not (list_writable l.width l.height (centres l.xs l.ys) (flags_of g) (records_of g l.xs l.ys) (totals_of g (records_of g l.xs l.ys)))) means lay
      ∙ ap not c.text_ok in
      let o : short n (listing s 0) ≡ false = ap (short n) listing_is ∙ le-ltb n (length t) h in
      clear_from _ _ (refusals (capped_limits k) s) (without 11 refl (without 8 near (without 9 single (without 10 ok (without 7 o clear_none))))) clear refl

  auto_lists : (n : ℕ) → length t ≤ n → list s k 0 n ≡ values (length t)
  unfolding list
  auto_lists n h = clear_decides number _ (list_refusals s k 0 n) (list-clear n h) ∙ ap (λ (t : List ℕ). values (length t)) listing_is

  auto_text : (out : List ℕ) → length t ≤ length out → list_after s k 0 out ≡ onto t out
  unfolding list_after
  auto_text out h = clear_decides (λ (i : ℕ). out) _ (list_refusals s k 0 (length out)) (list-clear (length out) h) ∙ ap (λ (t : List ℕ). onto t out) listing_is

-- ---- the worked sheet by `layout` and `route`

module _ (k : Limits) (fits : AtMost small_limits k) where
  laid : layout_for small 0 ≡ small_layout
  laid = lay small k small_graph small_layout worked_listing (small-clear k fits) small_means computed.small

  within : layout_beyond 0 (plan_of (meaning small)) ≡ false
  within = ap (λ (g : Graph). layout_beyond 0 (plan_of g)) small_means ∙ computed.small.within

  layout-clear : (n b : ℕ) → 2 ≤ n → 2 ≤ b → Clear (layout_refusals small k 0 n b)
  layout-clear n b h i =
      let o : (short n (layout_for small 0).xs || short b (layout_for small 0).ys) ≡ false =
      ap (λ (l : Layout). short n l.xs || short b l.ys) laid ∙ or_none _ _ (le-ltb n 2 h) (le-ltb b 2 i) in
      clear_from _ _ (refusals (capped_limits k) small) (without 11 refl (without 9 within (without 7 o clear_none))) (small-clear k fits) refl

  route-clear : (n b : ℕ) → 20 ≤ n → 17 ≤ b → Clear (route_refusals small k small_xs small_ys n b)
  route-clear n b h i =
      let near : far_centre (length (meaning small).states) small_xs small_ys ≡ false = ap (λ (g : Graph). far_centre (length g.states) small_xs small_ys) small_means ∙ computed.small.near in
      let single : beyond (frame_of (meaning small) small_xs small_ys) ≡ false = ap (λ (g : Graph). beyond (frame_of g small_xs small_ys)) small_means ∙ computed.small.single in
      let ok : not (paths_writable (drawn_of small small_xs small_ys)) ≡ false = ap (λ (g : Graph). not (paths_writable (records_of g small_xs small_ys))) small_means ∙ ap not computed.paths_ok in
      let o : (short n (numbers_of (drawn_of small small_xs small_ys)) || short b (paths_text (drawn_of small small_xs small_ys))) ≡ false =
      ap (λ (g : Graph). short n (numbers_of (records_of g small_xs small_ys)) || short b (paths_text (records_of g small_xs small_ys))) small_means
      ∙ or_none _ _ (le-ltb n (length (numbers_of small_records)) (omega (arith, computed.numbers))) (le-ltb b (length (paths_text small_records)) (omega (arith, ap length computed.paths))) in
      clear_from _ _ (refusals (capped_limits k) small) (without 8 near (without 9 single (without 10 ok (without 7 o clear_none)))) (small-clear k fits) refl

  -- ---- what is answered and left

  lays : (n b : ℕ) → 2 ≤ n → 2 ≤ b → layout small k 0 n b ≡ values (2, whole 244, whole 76)
  unfolding layout
  lays n b h i =
      clear_decides number _ (layout_refusals small k 0 n b) (layout-clear n b h i)
      ∙ ap₂ (λ (g : Graph) (l : Layout). values (length g.states, l.width, l.height)) small_means laid

  across : (l : List Float) (b : ℕ) → 2 ≤ length l → 2 ≤ b → xs_after small k 0 l b ≡ onto small_xs l
  unfolding xs_after
  across l b h i = clear_decides (λ (i : ℕ). l) _ (layout_refusals small k 0 (length l) b) (layout-clear (length l) b h i) ∙ ap (λ (p : Layout). onto p.xs l) laid

  down : (n : ℕ) (l : List Float) → 2 ≤ n → 2 ≤ length l → ys_after small k 0 n l ≡ onto small_ys l
  unfolding ys_after
  down n l h i = clear_decides (λ (i : ℕ). l) _ (layout_refusals small k 0 n (length l)) (layout-clear n (length l) h i) ∙ ap (λ (p : Layout). onto p.ys l) laid

  routes : (n b : ℕ) → 20 ≤ n → 17 ≤ b → route small k small_xs small_ys n b ≡ values (20, 17)
  unfolding route
  routes n b h i =
      clear_decides number _ (route_refusals small k small_xs small_ys n b) (route-clear n b h i)
      ∙ ap (λ (g : Graph). values (length (numbers_of (records_of g small_xs small_ys)), length (paths_text (records_of g small_xs small_ys)))) small_means
      ∙ ap₂ (λ (a : ℕ) (t : List ℕ). values (a, length t)) computed.numbers computed.paths

  paths : (n : ℕ) (t : List ℕ) → 20 ≤ n → 17 ≤ length t → text_after small k small_xs small_ys n t ≡ onto path t
  unfolding text_after
  paths n t h i =
      clear_decides (λ (i : ℕ). t) _ (route_refusals small k small_xs small_ys n (length t)) (route-clear n (length t) h i)
      ∙ ap (λ (g : Graph). onto (paths_text (records_of g small_xs small_ys)) t) small_means
      ∙ ap (λ (p : List ℕ). onto p t) computed.paths

  pub worked_calls : WorkedCalls k
  worked_calls = record {
    lays = lays;
    across = across;
    down = down;
    routes = routes;
    paths = paths;
    lists = auto_lists small k small_graph small_layout worked_listing (small-clear k fits) small_means computed.small;
    text = auto_text small k small_graph small_layout worked_listing (small-clear k fits) small_means computed.small;
  }

pub worked_empty : (k : Limits) → WorkedEmpty k
worked_empty k = record {
  lists = auto_lists empty_sheet k empty_graph empty_layout empty_listing (empty-clear k) empty_means computed.none;
  text = auto_text empty_sheet k empty_graph empty_layout empty_listing (empty-clear k) empty_means computed.none;
}

-- ---- so the claims of `demand3` and `listing_shows` are about something

pub on_panel_lem : AtMost small_limits service_panel
on_panel_lem = record { states = omega arith; arrows = omega arith; lines = omega arith }

-- on the service panel
abbrev pub worked_lent : Lent
worked_lent = record { sheet = small; limits = service_panel; kind = 0; xs = replicate 2 (whole 0); ys = replicate 2 (whole 0); records = replicate 20 (whole 0); text = replicate 17 0; out = replicate 196 0 }

pub worked_listed : ListAnswered worked_lent
worked_listed = record { bytes = 196; answer = (worked_calls service_panel on_panel_lem).lists 196 (omega arith) }

abbrev pub laid_out : LayoutAnswered worked_lent
laid_out = record { states = 2; width = whole 244; height = whole 76; answer = (worked_calls service_panel on_panel_lem).lays 2 2 (omega arith) (omega arith) }

pub worked_answered : Answered (route_call worked_lent laid_out)
worked_answered = record {
  numbers = 20;
  bytes = 17;
  answer =
      ap₂ (λ (a b : List Float). route small service_panel (take 2 a) (take 2 b) 20 17) (across service_panel on_panel_lem worked_lent.xs 2 (omega arith) (omega arith)) (down service_panel on_panel_lem 2 worked_lent.ys (omega arith) (omega arith))
      ∙ routes service_panel on_panel_lem 20 17 (omega arith) (omega arith);
}
